-- The life of a core whose image others read.
use Rattle.std.proofs.Common.{◌≡◌, ℕ, max, List, [], ◌∷◌, map, Option, None, Some, inl, inr, refl, sym, ap, ◌∙◌, subst}
use Rattle.std.specs.Prelude.{⊤}
use Rattle.std.specs.List.{AllByRecursion}
use Rattle.std.proofs.lemmas.Option.{same_Some}
use Rattle.theory.specs.Wire.{Wire}
use Rattle.theory.specs.Consumer.{Consumer, consumer_at}
use Rattle.theory.specs.Entry.{committed}
use Rattle.theory.specs.Placed.{AllAmong, Among}
use Rattle.theory.proofs.Lists.{all_at, all_weaker}
use Rattle.model.specs.StreamLaws.{GivesMessages}
use Rattle.image.specs.Rebuilding.{Inserting, join_of}
use Rattle.receiver.specs.CoreLives.{CoreAct, CoreActsSo, CoreLives, Deals, HasDealt, Hears, KeepsImage, ReadsARun, Ticks, heard_in}
use Rattle.receiver.specs.Lives.{IsHonest, IsHonestFrame, IsStream, Stream}
use Rattle.image.specs.Handles.{ImageWords}
use Rattle.receiver.specs.Reading.{IsImage}
use Rattle.receiver.specs.Receiving.{Opened, Receiver, at_moment, ticked}
use Rattle.receiver.specs.Representing.{Core, HearsDatagram, ImageSeesOn, MeetsEach, Represents, RepresentsImage, RepresentsOpened, core_seen_as, image_seen_as, with_image, words_of}
use Rattle.receiver.specs.declared.receiver_core.Outcome.{Outcome}
use Rattle.receiver.proofs.Alone.{hears_sees}
use Rattle.receiver.proofs.Lived.Following.{Follows, FollowsImage, follows_as}
use Rattle.receiver.proofs.Lived.Meeting.{Places, meets, refuses}

-- whatever its consumers
abbrev Any : List Consumer → ℕ → Type 0
Any consumers join = ⊤

-- ---- consumers that stand elsewhere

placed_at : (ps : List ℕ) → ps ≡ map (λ (c : Consumer). c.at) (map consumer_at ps)
placed_at [] = refl
placed_at (p ∷ ps) = ap (λ (qs : List ℕ). p ∷ qs) (placed_at ps)

abbrev with_seen : Opened → List ℕ → Opened
with_seen o ps = record o { image = record o.image { consumers = map consumer_at ps } }

abbrev seated : Option Inserting → Option Opened → Option Opened
seated None o = o
seated (Some j) None = None
seated (Some j) (Some o) = Some (with_seen o j.seen)

-- an image of the same frames, whose consumers were seen there
shown_there : (i j : Inserting) (o : Opened) → RepresentsImage i o → j ≡ record i { seen = j.seen; undealt = j.undealt } → RepresentsImage j (with_seen o j.seen)
shown_there i j o h e = subst (λ (x : Inserting). RepresentsImage x (with_seen o j.seen)) (sym e) (record { geometry = h.geometry; join = h.join; window = h.window; high = h.high; stored = h.stored; consumers = placed_at j.seen })

seen_shown : (x y : Option Inserting) (o : Option Opened) → ImageSeesOn x y → RepresentsOpened x o → RepresentsOpened (image_seen_as x y) (seated y o)
seen_shown None None None sees h = tt
seen_shown None (Some j) None sees h = tt
seen_shown None y (Some o) sees h = absurd h
seen_shown (Some i) y None sees h = absurd h
seen_shown (Some i) None (Some o) sees h = absurd sees
seen_shown (Some i) (Some j) (Some o) sees h = shown_there i (record i { seen = j.seen }) o h refl

dealt_shown : (x y : Option Inserting) (o : Option Opened) → HasDealt x y → RepresentsOpened x o → RepresentsOpened y (seated y o)
dealt_shown None None None dealt h = tt
dealt_shown None (Some j) None dealt h = absurd dealt
dealt_shown None y (Some o) dealt h = absurd h
dealt_shown (Some i) y None dealt h = absurd h
dealt_shown (Some i) None (Some o) dealt h = absurd dealt
dealt_shown (Some i) (Some j) (Some o) dealt h = shown_there i j o h dealt

still_followed : (x : Stream) (y : Option Inserting) (o : Option Opened) → FollowsImage o x Any ⊤ → FollowsImage (seated y o) x Any ⊤
still_followed x None o h = h
still_followed x (Some j) None h = h
still_followed x (Some j) (Some o) h = record { geometry = h.geometry; stored = h.stored; reading = tt }

-- ---- what is known of a core that heard honest datagrams alone

record IsStoring (x : Stream) (n : ℕ) (v : Core) : Type 0 where
  session : v.session ≡ x.identity.session
  stream : v.stream ≡ x.identity.stream
  count : v.consumers ≡ n
  opened : Option Opened
  shown : RepresentsOpened v.image opened
  followed : FollowsImage opened x Any ⊤

module _ (x : Stream) (is : IsStream x) (n : ℕ) (laws : Places) where
  Kept : Receiver → Type 0
  Kept = Follows x Any ⊤ n

  -- what it shows of a receiver
  record Shows (v : Core) : Type 0 where
    receiver : Receiver
    represented : Represents v receiver
    kept : Kept receiver

  shows : (v : Core) → IsStoring x n v → Shows v
  unfolding Kept
  shows v h = record {
    receiver = with_image v 0 h.opened;
    represented = record { numbers = refl; image = h.shown };
    kept = record { session = h.session; stream = h.stream; count = h.count; image = h.followed };
  }

  stored_by : (v : Core) (r : Receiver) → Represents v r → Kept r → IsStoring x n v
  unfolding Kept
  stored_by v r h k = record {
    session = ap (λ (q : Receiver). q.session) (sym h.numbers) ∙ k.session;
    stream = ap (λ (q : Receiver). q.stream) (sym h.numbers) ∙ k.stream;
    count = ap (λ (q : Receiver). q.consumers) (sym h.numbers) ∙ k.count;
    opened = r.image;
    shown = h.image;
    followed = k.image;
  }

  -- with its consumers where a later state saw them
  seen_so : (v w : Core) → ImageSeesOn v.image w.image → IsStoring x n v → IsStoring x n (core_seen_as v w)
  seen_so v w sees h = record {
    session = h.session;
    stream = h.stream;
    count = h.count;
    opened = seated w.image h.opened;
    shown = seen_shown v.image w.image h.opened sees h.shown;
    followed = still_followed x w.image h.opened h.followed;
  }

  hears_each : (v w : Core) (ws : List Wire) (outs : List Outcome) → IsStoring x n v → AllByRecursion (IsHonestFrame x) ws → MeetsEach v ws outs w → IsStoring x n w
  unfolding Kept
  hears_each v w [] outs h honest m = subst (IsStoring x n) (sym m.1) h
  hears_each v w (f ∷ fs) outs h honest m =
      let s = shows (core_seen_as v m.1) (seen_so v m.1 m.3.0 h) in
      let step = m.3.1 s.receiver s.represented in
      hears_each m.1 w fs m.2 (stored_by m.1 step.0 step.2 (meets x is Any ⊤ n (λ q j. tt) laws s.receiver step.0 f m.0 s.kept honest.0 step.1)) honest.1 m.6

  at_clock : (v : Core) (now : ℕ) → IsStoring x n v → IsStoring x n (record v { clock = max v.clock now })
  at_clock v now h = record { session = h.session; stream = h.stream; count = h.count; opened = h.opened; shown = h.shown; followed = h.followed }

  hears_one : (v w : Core) (now : ℕ) (bytes : List ℕ) (outs : List Outcome) → IsStoring x n v → IsHonest x bytes → HearsDatagram v now bytes outs w → IsStoring x n w
  unfolding Kept
  hears_one v w now bytes outs h honest (inl m) = hears_each (record v { clock = max v.clock now }) w m.0 outs (at_clock v now h) (honest m.0 m.1) m.2
  hears_one v w now bytes outs h honest (inr m) =
      let s = shows (core_seen_as v w) (seen_so v w m.0 h) in
      let step = m.1 s.receiver s.represented in
      stored_by w step.0 step.2 (refuses x is Any ⊤ n (λ q j. tt) (at_moment s.receiver now) step.0 bytes outs (record { session = s.kept.session; stream = s.kept.stream; count = s.kept.count; image = s.kept.image }) step.1)

  acts_so : (v w : Core) (act : CoreAct) → IsStoring x n v → AllByRecursion (IsHonest x) (heard_in (act ∷ [])) → CoreActsSo v act w → IsStoring x n w
  unfolding Kept
  acts_so v w (Hears now bytes) h honest m = hears_one v w now bytes m.0 h honest.0 m.1
  acts_so v w (Ticks now) h honest m =
      let s = shows (core_seen_as v w) (seen_so v w m.sees h) in
      stored_by w (ticked s.receiver now) (m.becomes s.receiver s.represented) (follows_as x Any ⊤ n s.receiver (ticked s.receiver now) s.kept refl refl refl refl)
  acts_so v w Deals h honest m = record {
    session = ap (λ (c : Core). c.session) m.0 ∙ h.session;
    stream = ap (λ (c : Core). c.stream) m.0 ∙ h.stream;
    count = ap (λ (c : Core). c.consumers) m.0 ∙ h.count;
    opened = seated w.image h.opened;
    shown = dealt_shown v.image w.image h.opened m.1 h.shown;
    followed = still_followed x w.image h.opened h.followed;
  }

  lives_on : (v w : Core) (acts : List CoreAct) → IsStoring x n v → AllByRecursion (IsHonest x) (heard_in acts) → CoreLives v acts w → IsStoring x n w
  lives_on v w [] h honest lives = subst (IsStoring x n) (sym lives) h
  lives_on v w (Hears now bytes ∷ acts) h honest lives = lives_on lives.0 w acts (acts_so v lives.0 (Hears now bytes) h (honest.0, tt) lives.1) honest.1 lives.2
  lives_on v w (Ticks now ∷ acts) h honest lives = lives_on lives.0 w acts (acts_so v lives.0 (Ticks now) h tt lives.1) honest lives.2
  lives_on v w (Deals ∷ acts) h honest lives = lives_on lives.0 w acts (acts_so v lives.0 Deals h tt lives.1) honest lives.2

-- ---- the frames of its image at the end

all_committed : (x : Stream) (i : Inserting) (y : Option Inserting) (o : Option Opened) → y ≡ Some i → RepresentsOpened y o → FollowsImage o x Any ⊤ → AllAmong (committed x.entries) i.stored
all_committed x i None o e h f = absurd (cc)
all_committed x i (Some j) None e h f = absurd h
all_committed x i (Some j) (Some o) e h f = subst (AllAmong (committed x.entries)) (sym h.stored ∙ ap (λ (k : Inserting). k.stored) (same_Some _ _ e)) f.stored

pub reads_a_run : Places → GivesMessages → ReadsARun
reads_a_run laws law x is v w acts session stream none lives honest i image frames at chain among =
    let F = committed x.entries in
    let begun : IsStoring x v.consumers v = record { session = session; stream = stream; count = refl; opened = None; shown = subst (λ (y : Option Inserting). RepresentsOpened y None) (sym none) tt; followed = tt } in
    let end = lives_on x is v.consumers laws v w acts begun honest lives in
    let stored : AllAmong F i.stored = all_committed x i w.image end.opened image end.shown end.followed in
    law x.identity.geometry.term_length x.start x.tail (join_of i) at x.entries frames is.tiles is.entries chain
    (all_weaker (λ s. Among s i.stored) (λ s. Among s F) (λ s a. all_at (λ t. Among t F) s i.stored stored a) frames among)

-- ---- the image stays the same

sees_image : (x y : Option Inserting) (w : ImageWords) → ImageSeesOn x y → IsImage x w → IsImage y w
sees_image None y w sees h = absurd h
sees_image (Some i) None w sees h = absurd sees
sees_image (Some i) (Some j) w sees h = (λ k. record { of = sees.of k; key = sees.key k }) ∙ h

deals_image : (x y : Option Inserting) (w : ImageWords) → HasDealt x y → IsImage x w → IsImage y w
deals_image None y w dealt h = absurd h
deals_image (Some i) None w dealt h = absurd dealt
deals_image (Some i) (Some j) w dealt h = ap words_of dealt ∙ h

pub keeps_image : KeepsImage
keeps_image v w [] lives words h = subst (λ (x : Core). IsImage x.image words) (sym lives) h
keeps_image v w (Hears now bytes ∷ acts) lives words h = keeps_image lives.0 w acts lives.2 words (sees_image v.image lives.0.image words (hears_sees v lives.0 now bytes lives.1.0 lives.1.1) h)
keeps_image v w (Ticks now ∷ acts) lives words h = keeps_image lives.0 w acts lives.2 words (sees_image v.image lives.0.image words lives.1.sees h)
keeps_image v w (Deals ∷ acts) lives words h = keeps_image lives.0 w acts lives.2 words (deals_image v.image lives.0.image words lives.1.1 h)
