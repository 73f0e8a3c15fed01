-- What each event of the world keeps, and what follows for every run.
use Rattle.std.proofs.Common.{◌≡◌, ℕ, ◌+◌, ◌-◌, ◌*◌, ◌/◌, ◌%◌, ◌^◌, ◌<◌, ◌≤◌, inr, ⊎_elim, List, [], ◌∷◌, ◌++◌, Bool, true, false, refl, sym, ap, ◌∙◌, subst, take, drop, arith}
use Rattle.std.specs.List.{AllByRecursion}
use Rattle.std.specs.Prelude.{nat_le, nat_lt, max, min, slice_get, slice_set, ℤ, pos, negsuc, map, None, Some}
use Rattle.std.proofs.lemmas.Bool.{cases_Bool, ltb-true, cond-true, cond-false, and_parts}
use Rattle.theory.specs.Position.{Geometry}
use Rattle.theory.specs.Placed.{Chain, Placed, covered, end_of, Among, AllAmong}
use Rattle.theory.specs.Entry.{IsEntry, committed}
use Rattle.theory.specs.Tiling.{Tiles}
use Rattle.theory.specs.Bytes.{bytes_of, byte_at, cell_of}
use Rattle.theory.specs.Assembly.{Assembly, nothing_heard}
use Rattle.theory.specs.Units.{HasUnit, IsContiguous, contiguous}
use Rattle.theory.specs.Numbered.{IfThere, Each}
use Rattle.theory.specs.Consumer.{Consumer, moved, passed_by, consumer_at, MayMove}
use Rattle.theory.specs.Insert.{Insert, CrossesTerm, Below, OverWindow, Duplicate, Overlap, Stored, insert_answer, head_of}
use Rattle.theory.specs.Image.{Image, after_insert, is_accepted, after_heartbeat, ImageEvent, Inserted, Heartbeat, Poll, Lose, ImageStep, image_at}
use Rattle.theory.specs.Resend.{resent, Action, is_resent}
use Rattle.theory.specs.Datagrams.{grouped}
use Rattle.model.specs.Log.{Log, term_of}
use Rattle.model.specs.Sender.{Sender, SenderEvent, Send, Resend, SendSetup, HearStatus, See, HearNak, SenderStep}
use Rattle.model.specs.World.{World, Event, AtLog, AtSender, AtImage, Open, Step, Run, IsOpened}
use Rattle.model.specs.Headline.{IsTiled, HasLogBytes, IsRebuiltRight, StayWithin, IsBounded, HasPolled, IsPrefixPolled}
use Rattle.std.specs.List.{filter}
use Rattle.theory.proofs.Grouping.{grouped_is}
use Rattle.model.proofs.Datagrams.{front_of}
use Rattle.theory.proofs.Lists.{among_right, all_at, all_weaker, all_append, all_get, all_set, all_replicate, slice_get-take, slice_get-drop, each_weaker, each_get, each_set, all_front}
use Rattle.theory.proofs.Tiling.{tail_is, all_shares_are}
use Rattle.theory.proofs.Frames.{AllBelow, tiles_le, committed_below, committed_in_order, cell_found}
use Rattle.model.proofs.Consumers.{Follows, follows_more, follows_moved, follows_passed, bounded, follows_joined, seats_bound}
use Rattle.theory.proofs.Follow.{Chain-append}
use Rattle.theory.proofs.Contiguous.{chain_bound, contiguous_is, end_below}
use Rattle.model.proofs.Messages.{makes}
use Rattle.model.proofs.LogSteps.{IsKeptLog, Grows, log_step}
use Rattle.theory.proofs.Places.{power_unit}

pub record KeptImage (sent : List Placed) (i : Image) : Type 0 where
  pub stored : AllAmong sent i.stored
  pub below : AllBelow i.high i.stored
  pub low : i.join ≤ i.high
  pub consumers : AllByRecursion (Follows i.stored i.join) i.consumers
  pub joins : AllByRecursion (λ r. r.join ≡ i.join) i.consumers
  pub unit : i.join % 32 ≡ 0

pub record KeptSender (l : Log) (s : Sender) : Type 0 where
  pub passed : Chain l.start s.at s.passed
  pub sent : AllAmong (committed l.entries) s.sent
  pub read : AllAmong (committed l.entries) s.passed
  pub unit : s.at % 32 ≡ 0
  pub setups : AllByRecursion (λ p. p % 32 ≡ 0) s.setups

pub record KeptWorld (w : World) : Type 0 where
  pub log : IsKeptLog w.log
  pub sender : KeptSender w.log w.sender
  pub images : Each (KeptImage w.sender.sent) w.images

-- ---- an image

after_answer : (sent : List Placed) (i : Image) (s : Placed) (a : Insert) → KeptImage sent i → Among s sent → KeptImage sent (after_insert i s a)
after_answer sent i s CrossesTerm k among = k
after_answer sent i s Below k among = k
after_answer sent i s OverWindow k among = k
after_answer sent i s Duplicate k among = k
after_answer sent i s Overlap k among = k
after_answer sent i s Stored k among = record {
  stored = (among, k.stored);
  below = (omega arith, all_weaker (λ x. end_of x ≤ i.high) (λ x. end_of x ≤ max i.high (end_of s)) (λ x h. omega arith) i.stored k.below);
  low = omega (arith, k.low);
  consumers = all_weaker (Follows i.stored i.join) (Follows (s ∷ i.stored) i.join) (follows_more i.stored (s ∷ i.stored) (λ x h. inr h) i.join) i.consumers k.consumers;
  joins = k.joins;
  unit = k.unit;
}

after_beat : (g : Geometry) (sent : List Placed) (i : Image) (least : ℕ) (p : ℤ) → KeptImage sent i → KeptImage sent (after_heartbeat g i least p)
after_beat g sent i least (negsuc n) k = k
after_beat g sent i least (pos p) k =
    ⊎_elim
    (λ (t : is_accepted g i.high least p ≡ true).
    let above : i.high < p = ltb-true i.high p (and_parts (nat_lt i.high p) (nat_le p (min (least + 3 * g.term_length / 4) (g.term_length * 2 ^ 31))) t).0 in
    subst (KeptImage sent) (sym (cond-true (is_accepted g i.high least p) (record i { high = p }) i t)) (record {
      stored = k.stored;
      below = all_weaker (λ x. end_of x ≤ i.high) (λ x. end_of x ≤ p) (λ x h. omega arith) i.stored k.below;
      low = omega (arith, k.low);
      consumers = k.consumers;
      joins = k.joins;
      unit = k.unit;
    }))
    (λ (f : is_accepted g i.high least p ≡ false). subst (KeptImage sent) (sym (cond-false (is_accepted g i.high least p) (record i { high = p }) i f)) k)
    (cases_Bool (is_accepted g i.high least p))

loses : (sent : List Placed) (i : Image) (which : ℕ) (past : Placed) (r : Consumer) → KeptImage sent i → slice_get i.consumers which ≡ Some r → MayMove i.stored past r → KeptImage sent (record i { consumers = slice_set i.consumers which (passed_by r past) })
loses sent i which past r k reads m = record {
  stored = k.stored;
  below = k.below;
  low = k.low;
  consumers = all_set (Follows i.stored i.join) i.consumers which (passed_by r past) (follows_passed i.stored i.join r past (all_get (Follows i.stored i.join) i.consumers which r reads k.consumers) m.among m.here) k.consumers;
  joins = all_set (λ c. c.join ≡ i.join) i.consumers which (passed_by r past) (all_get (λ c. c.join ≡ i.join) i.consumers which r reads k.joins) k.joins;
  unit = k.unit;
}

polls : (sent : List Placed) (i : Image) (which : ℕ) (past : Placed) (r : Consumer) → KeptImage sent i → slice_get i.consumers which ≡ Some r → MayMove i.stored past r → r.lost ≡ false → KeptImage sent (record i { consumers = slice_set i.consumers which (moved r past) })
polls sent i which past r k reads m here = record {
  stored = k.stored;
  below = k.below;
  low = k.low;
  consumers = all_set (Follows i.stored i.join) i.consumers which (moved r past) (follows_moved i.stored i.join r past (all_get (Follows i.stored i.join) i.consumers which r reads k.consumers) m.among m.here here) k.consumers;
  joins = all_set (λ c. c.join ≡ i.join) i.consumers which (moved r past) (all_get (λ c. c.join ≡ i.join) i.consumers which r reads k.joins) k.joins;
  unit = k.unit;
}

pub image_step : (g : Geometry) (sent : List Placed) (old : Image) (e : ImageEvent) (new : Image) → KeptImage sent old → ImageStep g sent old e new → KeptImage sent new
image_step g sent old (Inserted least s) new k h = subst (KeptImage sent) (sym h.2) (after_answer sent old s (insert_answer g (map head_of old.stored) least old.window (head_of s)) k h.0)
image_step g sent old (Heartbeat least p) new k h = subst (KeptImage sent) (sym h.1) (after_beat g sent old least p k)
image_step g sent old (Poll which past) new k h = subst (KeptImage sent) (sym h.4) (polls sent old which past h.0 k h.1 h.2 h.3)
image_step g sent old (Lose which past) new k h = subst (KeptImage sent) (sym h.3) (loses sent old which past h.0 k h.1 h.2)

image_more : (old new : List Placed) → ((s : Placed) → Among s old → Among s new) → (i : Image) → KeptImage old i → KeptImage new i
image_more old new keeps i k = record { stored = all_weaker (λ s. Among s old) (λ s. Among s new) keeps i.stored k.stored; below = k.below; low = k.low; consumers = k.consumers; joins = k.joins; unit = k.unit }

opened_image : (sent : List Placed) (join window consumers : ℕ) → join % 32 ≡ 0 → KeptImage sent (image_at join window consumers)
opened_image sent join window consumers u = record {
  stored = tt;
  below = tt;
  low = omega arith;
  consumers = all_replicate (Follows [] join) consumers (consumer_at join) (follows_joined [] join join (record { read = []; chain = refl; among = tt }));
  joins = all_replicate (λ r. r.join ≡ join) consumers (consumer_at join) refl;
  unit = u;
}

-- ---- the sender

chain_unit : (j q : ℕ) (ss : List Placed) → Chain j q ss → j % 32 ≡ 0 → q % 32 ≡ 0
chain_unit j q [] c u = omega (arith, c)
chain_unit j q (s ∷ ss) c u = let at : s.at ≡ j = c.0 in chain_unit (end_of s) q ss c.1 (omega arith)

all_filter : (P : Placed → Type 0) (test : Placed → Bool) (xs : List Placed) → AllByRecursion P xs → AllByRecursion P (filter test xs)
all_filter P test [] h = tt
all_filter P test (x ∷ xs) h =
    ⊎_elim
    (λ (t : test x ≡ true). subst (AllByRecursion P) (sym (cond-true (test x) (x ∷ filter test xs) (filter test xs) t)) (h.0, all_filter P test xs h.1))
    (λ (f : test x ≡ false). subst (AllByRecursion P) (sym (cond-false (test x) (x ∷ filter test xs) (filter test xs) f)) (all_filter P test xs h.1))
    (cases_Bool (test x))

resent_among : (g : Geometry) (frames : List Placed) (s : ℕ) (passed : List Placed) (a : Action) → AllAmong frames passed → AllAmong frames (resent g s passed a)
resent_among g frames s passed a among =
    let range = filter (is_resent g s a) passed in
    let f = front_of 15 (grouped g range) in
    let whole : range ≡ resent g s passed a ++ f.0 = sym (grouped_is g range) ∙ f.1 in
    let all : AllAmong frames range = all_filter (λ x. Among x frames) (is_resent g s a) passed among in
    all_front (λ x. Among x frames) (resent g s passed a) f.0 (subst (AllAmong frames) whole all)

pub record SendsMore (l : Log) (old new : Sender) : Type 0 where
  pub kept : KeptSender l new
  pub more : (s : Placed) → Among s old.sent → Among s new.sent

sender_step : (l : Log) (old : Sender) (e : SenderEvent) (new : Sender) → KeptSender l old → SenderStep l.identity.geometry l.start (committed l.entries) old e new → SendsMore l old new
sender_step l old (Send now frames to) new k h =
    subst (SendsMore l old) (sym h.3) (record {
      kept = record {
        passed = Chain-append l.start old.at to old.passed frames k.passed h.0;
        sent = all_append (λ s. Among s (committed l.entries)) frames old.sent h.1 k.sent;
        read = all_append (λ s. Among s (committed l.entries)) old.passed frames k.read h.1;
        unit = chain_unit old.at to frames h.0 k.unit;
        setups = k.setups;
      };
      more = λ s a. among_right s frames old.sent a;
    })
sender_step l old (Resend now a frames) new k h =
    let from : AllAmong (committed l.entries) frames = subst (AllAmong (committed l.entries)) (sym h.1) (resent_among l.identity.geometry (committed l.entries) old.at old.passed a k.read) in
    subst (SendsMore l old) (sym h.2) (record {
      kept = record { passed = k.passed; sent = all_append (λ s. Among s (committed l.entries)) frames old.sent from k.sent; read = k.read; unit = k.unit; setups = k.setups };
      more = λ s b. among_right s frames old.sent b;
    })
sender_step l old SendSetup new k h = subst (SendsMore l old) (sym h) (record { kept = record { passed = k.passed; sent = k.sent; read = k.read; unit = k.unit; setups = (k.unit, k.setups) }; more = λ s a. a })
sender_step l old (HearStatus now receiver said) new k h = subst (SendsMore l old) (sym h) (record { kept = record { passed = k.passed; sent = k.sent; read = k.read; unit = k.unit; setups = k.setups }; more = λ s a. a })
sender_step l old (See now) new k h = subst (SendsMore l old) (sym h) (record { kept = record { passed = k.passed; sent = k.sent; read = k.read; unit = k.unit; setups = k.setups }; more = λ s a. a })
sender_step l old (HearNak now p n) new k h = subst (SendsMore l old) (sym h) (record { kept = record { passed = k.passed; sent = k.sent; read = k.read; unit = k.unit; setups = k.setups }; more = λ s a. a })

-- ---- the world

at_log : (w : World) (l : Log) → KeptWorld w → Grows w.log l → KeptWorld (record w { log = l })
at_log w l k g = record {
  log = g.kept;
  sender = record {
    passed = subst (λ x. Chain x w.sender.at w.sender.passed) (sym g.start) k.sender.passed;
    sent = all_weaker (λ s. Among s (committed w.log.entries)) (λ s. Among s (committed l.entries)) g.more w.sender.sent k.sender.sent;
    read = all_weaker (λ s. Among s (committed w.log.entries)) (λ s. Among s (committed l.entries)) g.more w.sender.passed k.sender.read;
    unit = k.sender.unit;
    setups = k.sender.setups;
  };
  images = k.images;
}

pub step : (old : World) (e : Event) (new : World) → KeptWorld old → Step old e new → KeptWorld new
step old (AtLog e) new k h = subst KeptWorld (sym h.2) (at_log old h.0 k (log_step (old.sender.at ∷ []) old.log e h.0 k.log h.1))
step old (AtSender e) new k h =
    let m = sender_step old.log old.sender e h.0 k.sender h.1 in
    subst KeptWorld (sym h.2) (record { log = k.log; sender = m.kept; images = each_weaker (KeptImage old.sender.sent) (KeptImage h.0.sent) (image_more old.sender.sent h.0.sent m.more) old.images k.images })
step old (AtImage which e) new k h =
    subst KeptWorld (sym h.4) (record {
      log = k.log;
      sender = k.sender;
      images = each_set (KeptImage old.sender.sent) old.images which h.1 (image_step old.log.identity.geometry old.sender.sent h.0 e h.1 (each_get (KeptImage old.sender.sent) old.images which h.0 h.2 k.images) h.3) k.images;
    })
step old (Open which join window consumers) new k h = subst KeptWorld (sym h.5) (record { log = k.log; sender = k.sender; images = each_set (KeptImage old.sender.sent) old.images which (image_at join window consumers) (opened_image old.sender.sent join window consumers (all_at (λ p. p % 32 ≡ 0) join old.sender.setups k.sender.setups h.1)) k.images })

pub every : (events : List Event) (old new : World) → KeptWorld old → Run old events new → KeptWorld new
every [] old new k h = subst KeptWorld (sym h) k
every (e ∷ es) old new k h = every es h.0 new (step old e h.0 k h.1) h.2

-- ---- an opened world

opened_log : (w : World) → IsOpened w → IsKeptLog w.log
opened_log w o = record {
  sized = record { term = omega (arith, o.geometry.term.least); term_unit = power_unit (term_of w.log) o.geometry.term.power o.geometry.term.least; payload = omega (arith, o.geometry.mtu.least) };
  start_unit = o.unit;
  tiles = subst (λ es. Tiles (term_of w.log) w.log.start w.log.tail es) (sym o.entries) o.tail;
  entries = subst (AllByRecursion IsEntry) (sym o.entries) tt;
  readers = each_weaker (λ r. r ≡ consumer_at w.log.start) (Follows (committed w.log.entries) w.log.start) (λ r e. subst (Follows (committed w.log.entries) w.log.start) (sym e) (follows_joined (committed w.log.entries) w.log.start w.log.start (record { read = []; chain = refl; among = tt }))) w.log.readers o.readers;
}

pub opened : (w : World) → IsOpened w → KeptWorld w
opened w o = record {
  log = opened_log w o;
  sender = subst (KeptSender w.log) (sym o.sender) (record { passed = refl; sent = tt; read = tt; unit = o.unit; setups = tt });
  images = subst (Each (KeptImage w.sender.sent)) (sym o.images) (all_replicate (IfThere (KeptImage w.sender.sent)) 8 None tt);
}

-- ---- what follows

pub tiled : (w : World) → KeptWorld w → IsTiled w
tiled w k = (k.log.tiles, ap (λ x. w.log.start + x) (all_shares_are w.log.entries k.log.entries) ∙ tail_is (term_of w.log) w.log.start w.log.tail w.log.entries k.log.tiles)

pub in_bounds : (w : World) → KeptWorld w → IsBounded w
in_bounds w k =
    let frames = committed w.log.entries in
    let below : AllBelow w.log.tail frames = committed_below (term_of w.log) w.log.start w.log.tail w.log.entries k.log.tiles k.log.entries in
    let le : w.log.start ≤ w.log.tail = tiles_le (term_of w.log) w.log.start w.log.tail w.log.entries k.log.tiles in
    let q = contiguous frames w.log.start w.log.tail in
    let c : IsContiguous frames w.log.start q = contiguous_is frames w.log.start w.log.tail below in (
      (
        q,
        c,
        end_below frames w.log.start q w.log.tail below le c,
        (chain_bound frames w.log.start q w.sender.at w.sender.passed c k.sender.passed k.sender.read, seats_bound frames w.log.start q c w.log.readers k.log.readers),
      ),
      each_weaker (KeptImage w.sender.sent) (λ i. StayWithin i.stored i.join i.high (map (λ r. r.at) i.consumers)) (λ i m. bounded i.stored i.join i.high i.consumers m.below m.low m.consumers) w.images k.images,
    )

pub rebuilt : (w : World) → KeptWorld w → IsRebuiltRight w
rebuilt w k = each_weaker (KeptImage w.sender.sent) (HasLogBytes w.log) (λ i m p content j h u. at i m p content j h u.0 u.1) w.images k.images
  where
    at : (i : Image) → KeptImage w.sender.sent i → (p : ℕ) (content : List ℕ) (j : ℕ) → j < 32 → (u : HasUnit i.stored p) → content ≡ take 32 (drop (32 * u.unit) (bytes_of w.log.identity u.frame)) → byte_at w.log.identity w.log.entries (p + j) ≡ cell_of (slice_get content j)
    at i m p content j h u e =
        let s = u.frame in
        let sent : Among s w.sender.sent = all_at (λ x. Among x w.sender.sent) s i.stored m.stored u.among in
        let put : Among s (committed w.log.entries) = all_at (λ x. Among x (committed w.log.entries)) s w.sender.sent k.sender.sent sent in
        let inside : 32 * u.unit < covered s = u.inside in
        let here : p ≡ s.at + 32 * u.unit = u.here in
        let order = committed_in_order (term_of w.log) w.log.start w.log.tail w.log.entries k.log.tiles k.log.entries in
        let found : byte_at w.log.identity w.log.entries (p + j) ≡ cell_of (slice_get (bytes_of w.log.identity s) (p + j - s.at)) = cell_found w.log.identity w.log.start (committed w.log.entries) s (p + j) order put (omega arith) (omega arith) in
        let part : slice_get (take 32 (drop (32 * u.unit) (bytes_of w.log.identity s))) j ≡ slice_get (bytes_of w.log.identity s) (p + j - s.at) = slice_get-take 32 (drop (32 * u.unit) (bytes_of w.log.identity s)) j h ∙ slice_get-drop (32 * u.unit) (bytes_of w.log.identity s) j (p + j - s.at) (omega arith) in
        found ∙ sym (ap (λ x. cell_of (slice_get x j)) e ∙ ap cell_of part)

-- what followed the committed frames has given their messages
follows_polled : (w : World) → KeptWorld w → (j : ℕ) (r : Consumer) → Follows (committed w.log.entries) j r → HasPolled w.log.entries r
follows_polled w k j r f = record {
  given = ap (λ (a : Assembly). a.given) f.heard_all ∙ makes (term_of w.log) w.log.start w.log.tail r.heard_to w.log.entries k.log.tiles k.log.entries r.join f.kept nothing_heard refl f.kept_chain f.kept_among;
  behind = f.behind;
  whole = f.same;
}

image_polled : (w : World) → KeptWorld w → (i : Image) → KeptImage w.sender.sent i → AllByRecursion (λ r. HasPolled w.log.entries r × (r.join ≡ i.join)) i.consumers
image_polled w k i m = both i.consumers m.consumers m.joins
  where
    among : (s : Placed) → Among s i.stored → Among s (committed w.log.entries)
    among s a = all_at (λ x. Among x (committed w.log.entries)) s w.sender.sent k.sender.sent (all_at (λ x. Among x w.sender.sent) s i.stored m.stored a)

    both : (rs : List Consumer) → AllByRecursion (Follows i.stored i.join) rs → AllByRecursion (λ r. r.join ≡ i.join) rs → AllByRecursion (λ r. HasPolled w.log.entries r × (r.join ≡ i.join)) rs
    both [] f j = tt
    both (r ∷ rs) f j = ((follows_polled w k i.join r (follows_more i.stored (committed w.log.entries) among i.join r f.0), j.0), both rs f.1 j.1)

pub polled : (w : World) → KeptWorld w → IsPrefixPolled w
polled w k = (
  each_weaker (Follows (committed w.log.entries) w.log.start) (HasPolled w.log.entries) (follows_polled w k w.log.start) w.log.readers k.log.readers,
  each_weaker (KeptImage w.sender.sent) (λ i. AllByRecursion (λ r. HasPolled w.log.entries r × (r.join ≡ i.join)) i.consumers) (image_polled w k) w.images k.images,
)
