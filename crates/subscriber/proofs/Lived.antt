-- What a subscriber lives through in a cycle, and from image to image.
use Rattle.std.proofs.Common.{◌≡◌, ◌≤◌, ◌⊎◌, ◌↔◌, ◌&&◌, ◌||◌, not, IsTrue, ℕ, ℤ, Bool, true, false, if◌then◌else◌, ◌+◌, None, Some, List, [], ◌∷◌, ◌++◌, map, length, Option, inl, inr, refl, sym, ap, ◌∙◌, subst, arith, true≢false, append_assoc, append-nil}
use Rattle.std.specs.Prelude.{is_some, nat_lt}
use Rattle.std.proofs.lemmas.Bool.{ltb-true}
use Rattle.std.specs.Io.KnownBytes.{Appends}
use Rattle.std.specs.declared.net.SocketAddr.{SocketAddr}
use Rattle.std.proofs.lemmas.Grind.{flat_map-append}
use Rattle.endpoint.specs.Devices.{Device}
use Rattle.frames.specs.Frames.{setup_of}
use Rattle.frames.specs.declared.frame.Setup.{Setup}
use Rattle.messages.specs.Forms.{spelled, spelling}
use Rattle.messages.specs.declared.form.Form.{Form}
use Rattle.options.specs.declared.ends.plans.SubscribePlan.{SubscribePlan}
use Rattle.agents.specs.Cycles.{HearsAll}
use Rattle.agents.specs.Parties.{ReceiverHears}
use Rattle.receiver.specs.Subscribing.{Subscribing}
use Rattle.receiver.specs.Lives.{Act, Gives, GivesNone, Hears, Lives, Ticks, given_in, heard_in}
use Rattle.subscriber.specs.Calls.{IsJoinedBy, IsMeeting}
use Rattle.subscriber.specs.Deliveries.{Delivers, PollsAll, PollsNone, WritesAndNotes, WritesFirst}
use Rattle.subscriber.specs.Living.{AreLives, AreShared, FollowsAt, IsLossFrom, IsLossTo, IsNumbered, Life, HasWritten, IsUnlost, LivesAt, LivesOn, WritesActs, given_through}
use Rattle.subscriber.specs.Meetings.{Opens}
use Rattle.subscriber.specs.Places.{first_number}
use Rattle.subscriber.specs.Turning.{AttendsOwn, Considers, ConsidersOwn, IsLoss, Passes, Renews, Replaces, Resumes, Turns, Warns}
use Rattle.subscriber.specs.Offers.{SubscriberDevice, peer_of, setup_taken}
use Rattle.subscriber.specs.Losing.{with_device}
use Rattle.subscriber.specs.Cuts.{has_lost, is_uncut}
use Rattle.subscriber.specs.Images.{first_cut, missing_with, next}
use Rattle.subscriber.specs.Standing.{Stands, is_broken_off, is_whole}
use Rattle.subscriber.specs.declared.images.CutOff.{CutOff}
use Rattle.subscriber.specs.declared.images.session.Stand.{Stand}
use Rattle.subscriber.specs.declared.listening.setup_offer.ImageParams.{ImageParams}
use Rattle.subscriber.specs.declared.images.Images.{Images}
use Rattle.subscriber.specs.declared.images.Loss.{Loss}
use Rattle.subscriber.proofs.Ends.{ends_on, greatest_end, heard_none, hears_after}
use Rattle.subscriber.specs.Followers.{HasNoted, IsGreatestEnd, IsHeard, NotesEnds}
use Rattle.subscriber.specs.declared.images.follower.Follower.{Follower}
use Rattle.subscriber.specs.declared.images.delivery.Delivered.{Delivered}
use Rattle.subscriber.specs.declared.images.session.Session.{Session}
use Rattle.subscriber.specs.declared.listening.setup_offer.SetupOffer.{SetupOffer}

-- ---- lives one behind the other

pub lives_on : (s m t : Subscribing) (xs ys : List Act) → Lives s xs m → Lives m ys t → Lives s (xs ++ ys) t
lives_on s m t [] ys first later = subst (λ z. Lives z ys t) first later
lives_on s m t (x ∷ xs) ys first later = (first.0, first.1, lives_on first.0 m t xs ys first.2 later)

pub given_on : (xs ys : List Act) → given_in (xs ++ ys) ≡ given_in xs ++ given_in ys
given_on [] ys = refl
given_on (Hears now bytes ∷ xs) ys = given_on xs ys
given_on (Ticks now ∷ xs) ys = given_on xs ys
given_on (Gives message ∷ xs) ys = ap (λ ms. message ∷ ms) (given_on xs ys)
given_on (GivesNone ∷ xs) ys = given_on xs ys

pub heard_on : (xs ys : List Act) → heard_in (xs ++ ys) ≡ heard_in xs ++ heard_in ys
heard_on [] ys = refl
heard_on (Hears now bytes ∷ xs) ys = ap (λ bs. bytes ∷ bs) (heard_on xs ys)
heard_on (Ticks now ∷ xs) ys = heard_on xs ys
heard_on (Gives message ∷ xs) ys = heard_on xs ys
heard_on (GivesNone ∷ xs) ys = heard_on xs ys

polled_unheard : (messages : List (List ℕ)) → heard_in (map Gives messages) ≡ []
polled_unheard [] = refl
polled_unheard (m ∷ ms) = polled_unheard ms

pub all_in : (now : ℕ) (datagrams : List (List ℕ)) → heard_in (map (Hears now) datagrams) ≡ datagrams
all_in now [] = refl
all_in now (d ∷ ds) = ap (λ bs. d ∷ bs) (all_in now ds)

pub all_polled : (s t : Subscribing) (messages : List (List ℕ)) → PollsAll s messages t → Lives s (map Gives messages) t
all_polled s t [] all = all
all_polled s t (m ∷ ms) all = (all.0, all.1, all_polled all.0 t ms all.2)

pub polled_given : (messages : List (List ℕ)) → given_in (map Gives messages) ≡ messages
polled_given [] = refl
polled_given (m ∷ ms) = ap (λ xs. m ∷ xs) (polled_given ms)

pub all_heard : (now : ℕ) (s t : Subscribing) (datagrams given : List (List ℕ)) → HearsAll ReceiverHears now s datagrams t given → Lives s (map (Hears now) datagrams) t
all_heard now s t [] given all = all.0
all_heard now s t (d ∷ ds) given all = (all.0, (all.3.outcomes, all.3.becomes), all_heard now all.0 t ds all.2 all.4)

heard_given : (now : ℕ) (datagrams : List (List ℕ)) → given_in (map (Hears now) datagrams) ≡ []
heard_given now [] = refl
heard_given now (d ∷ ds) = heard_given now ds

-- ---- a cycle

-- it polled all, and where there was none more to poll it found that
pub delivered_lives : (form : Form) (most : ℕ) (s t : Subscribing) (a b : Option (List ℕ)) (number : ℕ) → (d : Delivers form most s a number t b) → (acts : List Act) × Lives s acts t × (given_in acts ≡ d.messages) × (heard_in acts ≡ [])
delivered_lives form most s t a b number d = by_end d.ended
  where
    by_end : (((length d.messages ≡ most) × (t ≡ d.middle)) ⊎ PollsNone d.middle t) → (acts : List Act) × Lives s acts t × (given_in acts ≡ d.messages) × (heard_in acts ≡ [])
    by_end (inl full) = (map Gives d.messages, subst (Lives s (map Gives d.messages)) (sym full.1) (all_polled s d.middle d.messages d.polled), polled_given d.messages, polled_unheard d.messages)
    by_end (inr none) = (
      map Gives d.messages ++ GivesNone ∷ [],
      lives_on s d.middle t (map Gives d.messages) (GivesNone ∷ []) (all_polled s d.middle d.messages d.polled) (t, none, refl),
      given_on (map Gives d.messages) (GivesNone ∷ []) ∙ append-nil (given_in (map Gives d.messages)) ∙ polled_given d.messages,
      heard_on (map Gives d.messages) (GivesNone ∷ []) ∙ append-nil (heard_in (map Gives d.messages)) ∙ polled_unheard d.messages,
    )

pub cycle_lives : (form : Form) (most now count more : ℕ) (tells : Type 0) (s : Subscribing) (a : Option (List ℕ)) (d : Device) (done : Delivered) (t : Subscribing) (b : Option (List ℕ)) (e : Device) → more ≡ count + done.messages → WritesFirst form most now tells s a d done t b e → WritesActs form count s a more t b
cycle_lives form most now count more tells s a d done t b e sum w =
    let polls = delivered_lives form _ s w.middle a b done.messages w.delivers in
    let hears = all_heard now w.middle w.cycle.middle w.cycle.heard w.cycle.answers w.cycle.all_heard in
    let rest : List Act = map (Hears now) w.cycle.heard ++ Ticks now ∷ [] in
    let later : Lives w.middle rest t = lives_on w.middle w.cycle.middle t (map (Hears now) w.cycle.heard) (Ticks now ∷ []) hears (t, w.cycle.ticked.becomes, refl) in
    let given : given_in (polls.0 ++ rest) ≡ w.delivers.messages =
    given_on polls.0 rest ∙ ap (λ xs. given_in polls.0 ++ xs) (given_on (map (Hears now) w.cycle.heard) (Ticks now ∷ []) ∙ append-nil (given_in (map (Hears now) w.cycle.heard)) ∙ heard_given now w.cycle.heard) ∙ append-nil (given_in polls.0) ∙ polls.2 in
    record {
      acts = polls.0 ++ rest;
      lived = lives_on s w.middle t polls.0 rest polls.1 later;
      counted = let n = w.delivers.counted in let m : length (given_in (polls.0 ++ rest)) ≡ length w.delivers.messages = ap length given in omega (arith, sum, n, m);
      written = subst (λ xs. Appends a b (spelling form xs)) (sym given) w.delivers.written;
    }

-- what it heard is what the device handed over
cycle_heard : (form : Form) (most now count more : ℕ) (tells : Type 0) (s : Subscribing) (a : Option (List ℕ)) (d : Device) (done : Delivered) (t : Subscribing) (b : Option (List ℕ)) (e : Device) → (sum : more ≡ count + done.messages) → (w : WritesFirst form most now tells s a d done t b e)
    → heard_in (cycle_lives form most now count more tells s a d done t b e sum w).acts ≡ w.cycle.heard
unfolding cycle_lives
cycle_heard form most now count more tells s a d done t b e sum w =
    let polls = delivered_lives form _ s w.middle a b done.messages w.delivers in
    heard_on polls.0 (map (Hears now) w.cycle.heard ++ Ticks now ∷ [])
    ∙ ap (λ bs. bs ++ heard_in (map (Hears now) w.cycle.heard ++ Ticks now ∷ [])) polls.3
    ∙ heard_on (map (Hears now) w.cycle.heard) (Ticks now ∷ [])
    ∙ append-nil (heard_in (map (Hears now) w.cycle.heard))
    ∙ all_in now w.cycle.heard

pub cycle_lives_on : (form : Form) (most now count more : ℕ) (tells : Type 0) (f : Follower) (a : Option (List ℕ)) (d : Device) (done : Delivered) (g : Follower) (b : Option (List ℕ)) (e : Device) → more ≡ count + done.messages → WritesAndNotes form most now tells f a d done g b e → LivesOn form count f a more g b
cycle_lives_on form most now count more tells f a d done g b e sum w = record {
  acts = cycle_lives form most now count more tells f.subscriber a d done g.subscriber b e sum w.writes;
  notes = subst (λ (heard : List (List ℕ)). HasNoted f heard g) (sym (cycle_heard form most now count more tells f.subscriber a d done g.subscriber b e sum w.writes)) w.notes;
}

-- ---- from image to image

pub spelled_on : (form : Form) (xs ys : List (List ℕ)) → spelling form (xs ++ ys) ≡ spelling form xs ++ spelling form ys
spelled_on form xs ys = flat_map-append (spelled form) xs ys

-- nothing was heard of its stream
fresh_hears : (f : Follower) → f.heard ≡ false → IsTrue f.heard ↔ IsHeard f.opening f.stream []
fresh_hears f unheard = (λ b. absurd (true≢false (sym b ∙ unheard)), λ h. absurd (heard_none f.opening f.stream h))

-- the first image of a place
pub joined_life : (plan : SubscribePlan) (places place share moment : ℕ) (m : SetupOffer) (j : Session) → 1 ≤ share → share ≤ places → Opens plan (setup_of m.setup) m.opening → IsJoinedBy plan place share moment m j → FollowsAt plan places place j.images j.follower []
joined_life plan places place share moment m j some few opens h = record {
  life = record {
    newest = record { setup = setup_of m.setup; opening = m.opening; number = first_number place; share = share; moment = moment; acts = []; loss = None };
    older = [];
    is = record { opens = opens; first = j.follower.subscriber; met = h.met; lived = refl; lacks = tt };
    number_is = sym (ap (λ i. i.number) h.images);
    missing_is = ap (λ i. i.missing) h.images;
    unlost = refl;
    numbered = refl;
    lives = tt;
    shared = (some, few, tt);
    gave = refl;
    uncut = λ none. tt;
  };
  opening = h.fresh.own_opening;
  stream = h.fresh.own_stream;
  notes = h.fresh.untold;
  hears = fresh_hears j.follower h.fresh.unheard;
}

-- it lived on
unfoldable pub life_on : (plan : SubscribePlan) (places place : ℕ) (images : Images) (s t : Subscribing) (acts : List Act) (given : List (List ℕ)) → LivesAt plan places place images s given → Lives s acts t → LivesAt plan places place images t (given ++ given_in acts)
life_on plan places place images s t acts given h lives = record {
  newest = record h.newest { acts = h.newest.acts ++ acts };
  older = h.older;
  is = record { opens = h.is.opens; first = h.is.first; met = h.is.met; lived = lives_on h.is.first s t h.newest.acts acts h.is.lived lives; lacks = subst (IsLossFrom t) (sym h.unlost) tt };
  number_is = h.number_is;
  missing_is = h.missing_is;
  unlost = h.unlost;
  numbered = numbered h.older h.numbered;
  lives = h.lives;
  shared = h.shared;
  gave = ap (λ xs. xs ++ given_in acts) h.gave ∙ append_assoc (given_through h.older) (given_in h.newest.acts) (given_in acts)
      ∙ ap (λ xs. given_through h.older ++ xs) (sym (given_on h.newest.acts acts));
  uncut = h.uncut;
}
  where
    numbered : (older : List Life) → IsNumbered place h.newest older → IsNumbered place (record h.newest { acts = h.newest.acts ++ acts }) older
    numbered [] n = n
    numbered (m ∷ ms) n = n

pub follows_on : (plan : SubscribePlan) (places place : ℕ) (images : Images) (f g : Follower) (acts : List Act) (given : List (List ℕ)) → FollowsAt plan places place images f given → Lives f.subscriber acts g.subscriber → HasNoted f (heard_in acts) g → FollowsAt plan places place images g (given ++ given_in acts)
unfolding life_on
follows_on plan places place images f g acts given h lives noted = record {
  life = life_on plan places place images f.subscriber g.subscriber acts given h.life lives;
  opening = noted.opening ∙ h.opening;
  stream = noted.stream ∙ h.stream;
  notes = subst (λ (o : ImageParams). NotesEnds o.session g.stream (heard_in (h.life.newest.acts ++ acts)) None g.end) (sym noted.opening)
      (subst (λ (n : ℤ). NotesEnds f.opening.session n (heard_in (h.life.newest.acts ++ acts)) None g.end) (sym noted.stream)
      (subst (λ (heard : List (List ℕ)). NotesEnds f.opening.session f.stream heard None g.end) (sym (heard_on h.life.newest.acts acts))
      (ends_on f.opening.session f.stream (heard_in h.life.newest.acts) (heard_in acts) None f.end g.end h.notes noted.notes)));
  hears = subst (λ (o : ImageParams). IsTrue g.heard ↔ IsHeard o g.stream (heard_in (h.life.newest.acts ++ acts))) (sym noted.opening)
      (subst (λ (n : ℤ). IsTrue g.heard ↔ IsHeard f.opening n (heard_in (h.life.newest.acts ++ acts))) (sym noted.stream)
      (subst (λ (heard : List (List ℕ)). IsTrue g.heard ↔ IsHeard f.opening f.stream heard) (sym (heard_on h.life.newest.acts acts))
      (hears_after f.opening f.stream (heard_in h.life.newest.acts) (heard_in acts) (IsTrue f.heard) (IsTrue g.heard) h.hears noted.hears)));
}

-- the place is one of more
pub shared_more : (few many : ℕ) (lives : List Life) → few ≤ many → AreShared few lives → AreShared many lives
shared_more few many [] more h = tt
shared_more few many (l ∷ older) more h = (h.0, let so = h.1 in omega (arith, more, so), shared_more few many older more h.2)

pub follows_more : (plan : SubscribePlan) (few many place : ℕ) (images : Images) (f : Follower) (given : List (List ℕ)) → few ≤ many → FollowsAt plan few place images f given → FollowsAt plan many place images f given
follows_more plan few many place images f given more h = record {
  life = record {
    newest = h.life.newest;
    older = h.life.older;
    is = h.life.is;
    number_is = h.life.number_is;
    missing_is = h.life.missing_is;
    unlost = h.life.unlost;
    numbered = h.life.numbered;
    lives = h.life.lives;
    shared = shared_more few many (h.life.newest ∷ h.life.older) more h.life.shared;
    gave = h.life.gave;
    uncut = h.life.uncut;
  };
  opening = h.opening;
  stream = h.stream;
  notes = h.notes;
  hears = h.hears;
}

-- and its lives are these
pub follows_lives : (plan : SubscribePlan) (places place : ℕ) (images : Images) (f : Follower) (given : List (List ℕ)) → (h : FollowsAt plan places place images f given) → AreLives plan place (h.life.newest ∷ h.life.older)
follows_lives plan places place images f given h = (f.subscriber, h.life.is, h.life.numbered, h.life.lives)

-- what is missing behind an image
lost_from : (m : SetupOffer) (j : Session) (loss : Option Loss) → IsLoss m j loss → IsLossFrom j.follower.subscriber loss
lost_from m j loss (inl (left, (place, stands, is))) = subst (IsLossFrom j.follower.subscriber) (sym is) (by_order (nat_lt place m.opening.position) refl)
  where
    by_order : (b : Bool) → nat_lt place m.opening.position ≡ b → IsLossFrom j.follower.subscriber (if b then Some (record { from = place; to = m.opening.position }) else None)
    by_order true less = (stands, ltb-true place m.opening.position less)
    by_order false more = tt
lost_from m j loss (inr (stays, is)) = subst (IsLossFrom j.follower.subscriber) (sym is) tt

lost_to : (m : SetupOffer) (j : Session) (loss : Option Loss) → IsLoss m j loss → IsLossTo loss m.opening.position
lost_to m j loss (inl (left, (place, stands, is))) = subst (λ x. IsLossTo x m.opening.position) (sym is) (by_order (nat_lt place m.opening.position))
  where
    by_order : (b : Bool) → IsLossTo (if b then Some (record { from = place; to = m.opening.position }) else None) m.opening.position
    by_order true = refl
    by_order false = tt
lost_to m j loss (inr (stays, is)) = subst (λ x. IsLossTo x m.opening.position) (sym is) tt

-- the end that it knows is the greatest that the datagrams tell which its newest image was handed
pub told_end : (plan : SubscribePlan) (places place : ℕ) (images : Images) (f : Follower) (given : List (List ℕ)) → (h : FollowsAt plan places place images f given) → IsGreatestEnd h.life.newest.opening.session plan.end.stream (heard_in h.life.newest.acts) f.end
told_end plan places place images f given h =
    greatest_end _ _ _ _
    (subst (λ (o : ImageParams). NotesEnds o.session plan.end.stream (heard_in h.life.newest.acts) None f.end) h.opening
    (subst (λ (n : ℤ). NotesEnds f.opening.session n (heard_in h.life.newest.acts) None f.end) h.stream h.notes))

-- where no stream is cut off none was before, and none is now
pub none_cut : (before : Option CutOff) (cut : Bool) (own : CutOff) → first_cut before cut own ≡ None → (before ≡ None) × (cut ≡ false)
none_cut (Some before) cut own e = absurd (let so = e in cc)
none_cut None true own e = absurd (let so = e in cc)
none_cut None false own e = (refl, refl)

not_false : (b : Bool) → not b ≡ false → b ≡ true
not_false true e = refl
not_false false e = absurd (true≢false e)

both_true : (a b : Bool) → (a && b) ≡ true → (a ≡ true) × (b ≡ true)
both_true true b e = (refl, e)
both_true false b e = absurd (true≢false (sym e))

not_some : (loss : Option Loss) → not (is_some loss) ≡ true → loss ≡ None
not_some None e = refl
not_some (Some loss) e = absurd (true≢false (sym e))

-- nothing is lost of the stream of an image that is closed uncut
unlost_behind : (plan : SubscribePlan) (places place : ℕ) (given : List (List ℕ)) (j : Session) (loss : Option Loss) → IsLossFrom j.follower.subscriber loss → (x : Stand) → (follows : FollowsAt plan places place j.images j.follower given)
    → Stands j.follower.subscriber j.follower.end x → is_uncut j x loss ≡ true → IsUnlost plan (record follows.life.newest { loss = loss })
unlost_behind plan places place given j loss lacks x follows stands uncut = record {
  none = not_some loss (both_true (not j.lost) (not (is_some loss)) parts.0).1;
  last = j.follower.subscriber;
  is = record { opens = follows.life.is.opens; first = follows.life.is.first; met = follows.life.is.met; lived = follows.life.is.lived; lacks = lacks };
  ended = by_heard j.follower.heard refl;
}
  where
    parts : ((not j.lost && not (is_some loss)) ≡ true) × ((not j.follower.heard || is_whole x) ≡ true)
    parts = both_true (not j.lost && not (is_some loss)) (not j.follower.heard || is_whole x) uncut

    whole : (b : Bool) → b ≡ true → (not b || is_whole x) ≡ true → IsTrue (is_whole x)
    whole true is e = e
    whole false is e = absurd (true≢false (sym is))

    by_heard : (b : Bool) → j.follower.heard ≡ b
        → (IsHeard follows.life.newest.opening plan.end.stream (heard_in follows.life.newest.acts) → ⊥) ⊎ HasWritten plan (record follows.life.newest { loss = loss }) j.follower.subscriber
    by_heard false is = inl (λ h. true≢false (sym (follows.hears.1
        (subst (λ (o : ImageParams). IsHeard o j.follower.stream (heard_in follows.life.newest.acts)) (sym follows.opening)
        (subst (λ (n : ℤ). IsHeard follows.life.newest.opening n (heard_in follows.life.newest.acts)) (sym follows.stream) h))) ∙ is))
    by_heard true is = inr (record {
      end = j.follower.end;
      told = told_end plan places place j.images j.follower given follows;
      stand = x;
      stands = stands;
      whole = whole j.follower.heard is parts.1;
    })

-- a SETUP opened another image in its place
pub renewed : (plan : SubscribePlan) (places place share : ℕ) (from : SocketAddr) (f : Setup) (m : SetupOffer) (given : List (List ℕ)) (j k : Session) → 1 ≤ share → share ≤ places → IsMeeting plan from f m → Replaces plan share m j k → FollowsAt plan places place j.images j.follower given → FollowsAt plan places place k.images k.follower given
renewed plan places place share from f m given j k some few meeting x follows =
    let h = follows.life in
    let r = x.renewed in
    let last : Life = record h.newest { loss = x.loss } in
    let l : Life = record { setup = setup_of m.setup; opening = m.opening; number = next j.images.number; share = share; moment = j.watch.moment; acts = []; loss = None } in
    record {
      life = record {
        newest = l;
        older = last ∷ h.older;
        is = record { opens = meeting.opens; first = k.follower.subscriber; met = r.met; lived = refl; lacks = tt };
        number_is = sym (ap (λ i. i.number) r.images);
        missing_is = ap (λ i. i.missing) r.images ∙ ap (λ n. missing_with n x.loss) h.missing_is;
        unlost = refl;
        numbered = (ap next (sym h.number_is), lost_to m j x.loss x.is);
        lives = (j.follower.subscriber, record { opens = h.is.opens; first = h.is.first; met = h.is.met; lived = h.is.lived; lacks = lost_from m j x.loss x.is }, numbered_on h.older h.numbered, h.lives);
        shared = (some, few, h.shared);
        gave = h.gave ∙ sym (append-nil (given_through (h.newest ∷ h.older)));
        uncut = λ none. let uncut = none_cut j.images.cut _ _ (sym (ap (λ (i : Images). i.cut) r.images) ∙ none) in
            (unlost_behind plan places place given j x.loss (lost_from m j x.loss x.is) r.stand follows r.stands (not_false _ uncut.1), h.uncut uncut.0);
      };
      opening = r.fresh.own_opening;
      stream = r.fresh.own_stream;
      notes = r.fresh.untold;
      hears = fresh_hears k.follower r.fresh.unheard;
    }
  where
    numbered_on : (older : List Life) → IsNumbered place follows.life.newest older → IsNumbered place (record follows.life.newest { loss = x.loss }) older
    numbered_on [] n = n
    numbered_on (m ∷ ms) n = n

-- the image is the same
pub same_life : (plan : SubscribePlan) (places place : ℕ) (given : List (List ℕ)) (j k : Session) → k.images ≡ j.images → k.follower ≡ j.follower → FollowsAt plan places place j.images j.follower given → FollowsAt plan places place k.images k.follower given
same_life plan places place given j k number same h = subst (λ n. FollowsAt plan places place n k.follower given) (sym number) (subst (λ x. FollowsAt plan places place j.images x given) (sym same) h)

kept_life : (plan : SubscribePlan) (places place : ℕ) (given : List (List ℕ)) (j k : Session) → k ≡ j → FollowsAt plan places place j.images j.follower given → FollowsAt plan places place k.images k.follower given
kept_life plan places place given j k kept h = same_life plan places place given j k (ap (λ x. x.images) kept) (ap (λ x. x.follower) kept) h

-- another sender or session was noted
pub warned_life : (plan : SubscribePlan) (places place : ℕ) (m : SetupOffer) (given : List (List ℕ)) (j k : Session) → Warns m j k → FollowsAt plan places place j.images j.follower given → FollowsAt plan places place k.images k.follower given
warned_life plan places place m given j k w h = same_life plan places place given j k (ap (λ x. x.images) w.kept) (ap (λ x. x.follower) w.kept) h

by_turn : (plan : SubscribePlan) (places place share : ℕ) (from : SocketAddr) (f : Setup) (m : SetupOffer) (given : List (List ℕ)) (rebuilt : ℕ) (j k : Session) → 1 ≤ share → share ≤ places → IsMeeting plan from f m → Passes m rebuilt j k ⊎ Resumes m rebuilt j k ⊎ Renews plan share m rebuilt j k → FollowsAt plan places place j.images j.follower given → FollowsAt plan places place k.images k.follower given
by_turn plan places place share from f m given rebuilt j k some few meeting (inl p) h = warned_life plan places place m given j k p.warns h
by_turn plan places place share from f m given rebuilt j k some few meeting (inr (inl p)) h = same_life plan places place given j k (ap (λ x. x.images) p.tied) (ap (λ x. x.follower) p.tied) h
by_turn plan places place share from f m given rebuilt j k some few meeting (inr (inr p)) h = renewed plan places place share from f m given j k some few meeting p.replaced h

pub turned_life : (plan : SubscribePlan) (places place share : ℕ) (from : SocketAddr) (f : Setup) (m : SetupOffer) (given : List (List ℕ)) (j k : Session) → 1 ≤ share → share ≤ places → IsMeeting plan from f m → Turns plan share m j k → FollowsAt plan places place j.images j.follower given → FollowsAt plan places place k.images k.follower given
turned_life plan places place share from f m given j k some few meeting p h = by_turn plan places place share from f m given p.0 j k some few meeting p.2 h

pub considered_life : (plan : SubscribePlan) (places place share : ℕ) (from : SocketAddr) (f : Setup) (given : List (List ℕ)) (j k : Session) → 1 ≤ share → share ≤ places → Considers plan share from f j k → FollowsAt plan places place j.images j.follower given → FollowsAt plan places place k.images k.follower given
considered_life plan places place share from f given j k some few (inl p) h = kept_life plan places place given j k p.1 h
considered_life plan places place share from f given j k some few (inr p) h = turned_life plan places place share from f p.0 given j k some few p.1 p.2 h

own_life : (plan : SubscribePlan) (places place share : ℕ) (own : Option Setup) (given : List (List ℕ)) (j k : Session) → 1 ≤ share → share ≤ places → ConsidersOwn plan share own j k → FollowsAt plan places place j.images j.follower given → FollowsAt plan places place k.images k.follower given
own_life plan places place share None given j k some few p h = kept_life plan places place given j k p h
own_life plan places place share (Some f) given j k some few (inl p) h = considered_life plan places place share (peer_of j.duty.device) f given j k some few p.1 h
own_life plan places place share (Some f) given j k some few (inr p) h = kept_life plan places place given j k p.1 h

-- whatever came of its peer's own SETUP
pub attended_life : (plan : SubscribePlan) (places place share : ℕ) (given : List (List ℕ)) (j k : Session) → 1 ≤ share → share ≤ places → AttendsOwn plan share j k → FollowsAt plan places place j.images j.follower given → FollowsAt plan places place k.images k.follower given
attended_life plan places place share given j k some few p h =
    same_life plan places place given p.0 k (ap (λ (x : Session). x.images) p.2) (ap (λ (x : Session). x.follower) p.2)
    (own_life plan places place share j.duty.device.notes.setup given (with_device j (setup_taken j.duty.device)) p.0 some few p.1 h)

-- its device became another
pub told_life : (plan : SubscribePlan) (places place : ℕ) (given : List (List ℕ)) (j k : Session) (d : SubscriberDevice) → k ≡ with_device j d → FollowsAt plan places place j.images j.follower given → FollowsAt plan places place k.images k.follower given
told_life plan places place given j k d told h = same_life plan places place given j k (ap (λ x. x.images) told) (ap (λ x. x.follower) told) h

-- ---- to the end

-- where no stream is cut off none was before
pub uncut_so : (j : Session) → has_lost j ≡ false → j.images.cut ≡ None
uncut_so j none = by_cut j.images.cut (j.lost || is_broken_off j.stood) (record { session = j.opening.session; position = j.stood.place }) none
  where
    by_cut : (before : Option CutOff) (cut : Bool) (own : CutOff) → is_some (first_cut before cut own) ≡ false → before ≡ None
    by_cut (Some before) cut own e = absurd (true≢false e)
    by_cut None cut own e = refl
