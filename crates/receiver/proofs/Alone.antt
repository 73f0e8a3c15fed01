-- A core in one hand with the one reader of its image: nothing moves between two meetings, so what a call saw is what the old
-- state had seen.
use Rattle.std.proofs.Common.{◌≡◌, ℕ, suc, ◌*◌, ◌≤◌, inl, inr, List, [], ◌∷◌, length, Option, None, Some, refl, sym, ap, ◌∙◌, subst, arith}
use Rattle.std.specs.Prelude.{⊤, slice_index}
use Rattle.std.specs.List.{AllByRecursion}
use Rattle.theory.specs.Wire.{Wire}
use Rattle.image.specs.Handles.{ReaderSeat, position_of}
use Rattle.image.specs.Rebuilding.{Inserting, geometry_of, join_of}
use Rattle.receiver.specs.declared.receiver_core.Outcome.{Outcome}
use Rattle.receiver.specs.Receiving.{MeetsAll, Opened, Receiver, TakesDatagram, at_moment}
use Rattle.receiver.specs.Representing.{Becomes, Core, HearsDatagram, ImageSeesOn, MeetsEach, Represents, RepresentsImage, RepresentsOpened, core_seen_as, image_seen_as}
use Rattle.receiver.specs.Seating.{AreSeated, MaySit, Sits, SitsAt, place_of}
use Rattle.receiver.proofs.Meeting.{sees_same, seen_at}

-- ---- what was seen goes on

sees_further : (a b c : Option Inserting) → ImageSeesOn a b → ImageSeesOn b c → ImageSeesOn a c
sees_further None None None f g = tt
sees_further None None (Some k) f g = g
sees_further None (Some j) None f g = absurd g
sees_further None (Some j) (Some k) f g = record {
  undealt = g.undealt ∙ f.undealt ∙ (λ n. (sym g.key n).consumers);
  from = above (join_of k) j.seen k.seen g.all g.forward (subst (λ p. AllByRecursion (λ x. p ≤ x) j.seen) (λ n. 32 * (sym g.key n).join) f.from);
}
  where
    above : (p : ℕ) (xs ys : List ℕ) → length ys ≡ length xs → ((n : ℕ) → slice_index xs n ≤ slice_index ys n) → AllByRecursion (λ x. p ≤ x) xs → AllByRecursion (λ x. p ≤ x) ys
    above p [] [] e f all = tt
    above p [] (y ∷ ys) e f all = absurd (omega arith)
    above p (x ∷ xs) [] e f all = absurd (omega arith)
    above p (x ∷ xs) (y ∷ ys) e f all = (let le : x ≤ y = f 0 in let low : p ≤ x = all.0 in omega arith, above p xs ys (omega arith) (λ n. f (suc n)) all.1)
sees_further (Some i) None c f g = absurd f
sees_further (Some i) (Some j) None f g = absurd g
sees_further (Some i) (Some j) (Some k) f g = record {
  of = g.of ∙ f.of;
  key = g.key ∙ f.key;
  window = g.window ∙ f.window;
  undealt = g.undealt ∙ f.undealt;
  floor = (let p = f.floor in let q = g.floor in omega arith);
  all = g.all ∙ f.all;
  forward = λ n. (let p = f.forward n in let q = g.forward n in omega arith);
}

each_sees : (u m : Core) (ws : List Wire) (outs : List Outcome) → MeetsEach u ws outs m → ImageSeesOn u.image m.image
each_sees u m [] outs (none, same) = subst (λ (x : Core). ImageSeesOn u.image x.image) (sym same) (sees_same u.image)
each_sees u m (w ∷ ws) outs (out, mid, rest, first, looks, is, more) = sees_further u.image mid.image m.image first.0 (each_sees mid m ws rest more)

pub hears_sees : (v m : Core) (now : ℕ) (bytes : List ℕ) (outs : List Outcome) → HearsDatagram v now bytes outs m → ImageSeesOn v.image m.image
hears_sees v m now bytes outs (inl (frames, spells, each)) = each_sees _ m frames outs each
hears_sees v m now bytes outs (inr refuses) = refuses.0

-- ---- the reader is the image's

pub may_sit : (a b : Option Inserting) (r : Option ReaderSeat) → AreSeated a r → ImageSeesOn a b → MaySit b r
may_sit None None None seated sees = tt
may_sit None None (Some r) seated sees = seated
may_sit None (Some j) None seated sees = sees.undealt
may_sit None (Some j) (Some r) seated sees = absurd seated
may_sit (Some i) b None seated sees = absurd seated
may_sit (Some i) None (Some r) seated sees = absurd sees
may_sit (Some i) (Some j) (Some r) seated sees = (record { of = seated.reader.of ∙ sym sees.of }, seated.number)

-- ---- what was seen of it is where it stands

one_of : (xs : List ℕ) (p : ℕ) → length xs ≡ 1 → slice_index xs 0 ≤ p → p ≤ slice_index xs 0 → xs ≡ p ∷ []
one_of [] p long le ge = absurd (omega arith)
one_of (x ∷ []) p long le ge = let e : x ≡ p = omega arith in ap (λ (y : ℕ). y ∷ []) e
one_of (x ∷ y ∷ ys) p long le ge = absurd (omega arith)

first_of : (p : ℕ) (xs : List ℕ) → length xs ≡ 1 → AllByRecursion (λ x. p ≤ x) xs → p ≤ slice_index xs 0
first_of p [] long all = absurd (omega arith)
first_of p (x ∷ xs) long all = all.0

-- the one consumer was seen no further than this, which is the reader's place
abbrev AtMost : Option ReaderSeat → ℕ → Option Inserting → Type 0
AtMost r p None = ⊤
AtMost r p (Some k) = (length k.seen ≡ 1) × (slice_index k.seen 0 ≤ p) × (place_of k r ≡ p)

abbrev IsAt : ℕ → Option Inserting → Type 0
IsAt p None = ⊤
IsAt p (Some k) = k.seen ≡ p ∷ []

before : (r : Option ReaderSeat) (p : ℕ) (a b : Option Inserting) → ImageSeesOn a b → AtMost r p b → AtMost r p a
before r p None b sees most = tt
before r p (Some i) None sees most = absurd sees
before r p (Some i) (Some k) sees most = (sym sees.all ∙ most.0, (let f = sees.forward 0 in let l = most.1 in omega arith), placed r most.2)
  where
    placed : (r : Option ReaderSeat) → place_of k r ≡ p → place_of i r ≡ p
    placed None e = (λ n. 32 * (sym sees.key n).join) ∙ e
    placed (Some r) e = e

pinned : (r : Option ReaderSeat) (p : ℕ) (a o : Option Inserting) → AreSeated a r → ImageSeesOn a o → AtMost r p o → IsAt p o
pinned r p a None seated sees most = tt
pinned None p None (Some k) seated sees most = one_of k.seen p most.0 most.1 (let from = first_of (join_of k) k.seen most.0 sees.from in let e = most.2 in omega arith)
pinned (Some r) p None (Some k) seated sees most = absurd seated
pinned None p (Some i) (Some k) seated sees most = absurd seated
pinned (Some r) p (Some i) (Some k) seated sees most =
    let at : slice_index i.seen 0 ≡ position_of r = ap (λ (xs : List ℕ). slice_index xs 0) seated.met in
    one_of k.seen p most.0 most.1 (let f = sees.forward 0 in let e = most.2 in omega arith)

seen_where : (p : ℕ) (a b : Option Inserting) → IsAt p a → IsAt p b → image_seen_as a b ≡ a
seen_where p None b f g = refl
seen_where p (Some i) None f g = refl
seen_where p (Some i) (Some j) f g = ap (λ (xs : List ℕ). Some (record i { seen = xs })) (g ∙ sym f)

core_where : (p : ℕ) (u m : Core) → IsAt p u.image → IsAt p m.image → core_seen_as u m ≡ u
core_where p u m f g = ap (λ (x : Option Inserting). record u { image = x }) (seen_where p u.image m.image f g)

-- ---- frames one after the other, with no move between

squeezed : (r : Option ReaderSeat) (p : ℕ) (a : Option Inserting) (u m : Core) (ws : List Wire) (outs : List Outcome) → AreSeated a r → ImageSeesOn a u.image → AtMost r p m.image → MeetsEach u ws outs m → Becomes u m (λ x s. MeetsAll x ws outs s)
squeezed r p a u m [] outs seated sees most (none, same) = λ x h. (x, (none, refl), subst (λ (c : Core). Represents c x) (sym same) h)
squeezed r p a u m (w ∷ ws) outs seated sees most (out, mid, rest, first, looks, is, more) =
    let then : AtMost r p mid.image = before r p mid.image m.image (each_sees mid m ws rest more) most in
    let to : ImageSeesOn a mid.image = sees_further a u.image mid.image sees first.0 in
    let same : core_seen_as u mid ≡ u = core_where p u mid (pinned r p a u.image seated sees (before r p u.image mid.image first.0 then)) (pinned r p a mid.image seated to then) in
    λ x h.
    let s = first.1 x (subst (λ (c : Core). Represents c x) (sym same) h) in
    let t = squeezed r p a mid m ws rest seated to most more s.0 s.2 in
    (t.0, (out, s.0, rest, s.1, is, t.1), t.2)

heard : (r : Option ReaderSeat) (p : ℕ) (v m : Core) (now : ℕ) (bytes : List ℕ) (outs : List Outcome) → AreSeated v.image r → AtMost r p m.image → HearsDatagram v now bytes outs m → Becomes v m (λ x s. TakesDatagram x now bytes outs s)
heard r p v m now bytes outs seated most (inl (frames, spells, each)) = λ x h.
    let s = squeezed r p v.image _ m frames outs seated (sees_same v.image) most each (at_moment x now) (seen_at v x now h) in
    (s.0, inl (frames, spells, s.1), s.2)
heard r p v m now bytes outs seated most (inr refuses) = λ x h.
    let same : core_seen_as v m ≡ v = core_where p v m (pinned r p v.image v.image seated (sees_same v.image) (before r p v.image m.image refuses.0 most)) (pinned r p v.image m.image seated refuses.0 most) in
    let s = refuses.1 x (subst (λ (c : Core). Represents c x) (sym same) h) in
    (s.0, inr s.1, s.2)

-- ---- it has sat down

-- where, and that it was seen no further before
place : (r : Option ReaderSeat) (o w : Option Inserting) → Sits o r w → (p : ℕ) × AtMost r p o
place r None w sits = (0, tt)
place r (Some i) w sits = (place_of i r, (sits.2.one, sits.2.stood, refl))

seated_image : (i j : Inserting) (p : ℕ) (o : Opened) → i.seen ≡ p ∷ [] → SitsAt i p j → RepresentsImage i o → RepresentsImage j o
seated_image i j p o at sits h = record {
  geometry = ap geometry_of sits.after ∙ h.geometry;
  join = ap join_of sits.after ∙ h.join;
  window = ap (λ (x : Inserting). x.window) sits.after ∙ h.window;
  high = ap (λ (x : Inserting). x.high) sits.after ∙ h.high;
  stored = ap (λ (x : Inserting). x.stored) sits.after ∙ h.stored;
  consumers = ap (λ (x : Inserting). x.seen) sits.after ∙ sym at ∙ h.consumers;
}

seated_shown : (r : Option ReaderSeat) (o w : Option Inserting) (x : Option Opened) → Sits o r w → ((i : Inserting) → o ≡ Some i → i.seen ≡ place_of i r ∷ []) → RepresentsOpened o x → RepresentsOpened w x
seated_shown r None w x sits at h = subst (λ (y : Option Inserting). RepresentsOpened y x) (sym sits) h
seated_shown r (Some i) w None sits at h = absurd h
seated_shown r (Some i) w (Some o) sits at h = subst (λ (y : Option Inserting). RepresentsOpened y (Some o)) (sym sits.1) (seated_image i sits.0 (place_of i r) o (at i refl) sits.2 h)

-- of a core that was seated before
pub record SitsAgain (v m w : Core) (r : Option ReaderSeat) : Type 0 where
  pub seated : AreSeated v.image r
  pub sees : ImageSeesOn v.image m.image
  pub stays : w ≡ record m { image = w.image }
  pub sits : Sits m.image r w.image

here : (v m w : Core) (r : Option ReaderSeat) → SitsAgain v m w r → (i : Inserting) → m.image ≡ Some i → i.seen ≡ place_of i r ∷ []
here v m w r h i some =
    let sits : Sits (Some i) r w.image = subst (λ (x : Option Inserting). Sits x r w.image) some h.sits in
    pinned r (place_of i r) v.image (Some i) h.seated (subst (ImageSeesOn v.image) some h.sees) (sits.2.one, sits.2.stood, refl)

pub still_represents : (v m w : Core) (r : Option ReaderSeat) → SitsAgain v m w r → (x : Receiver) → Represents m x → Represents w x
still_represents v m w r h x s = subst (λ (c : Core). Represents c x) (sym h.stays) (record { numbers = s.numbers; image = seated_shown r m.image w.image x.image h.sits (here v m w r h) s.image })

pub no_move : (v m w : Core) (r : Option ReaderSeat) → SitsAgain v m w r → core_seen_as v m ≡ v
no_move v m w r h =
    let p = place r m.image w.image h.sits in
    core_where p.0 v m (pinned r p.0 v.image v.image h.seated (sees_same v.image) (before r p.0 v.image m.image h.sees p.1)) (pinned r p.0 v.image m.image h.seated h.sees p.1)

pub takes_alone : (v m w : Core) (r : Option ReaderSeat) (now : ℕ) (bytes : List ℕ) (outs : List Outcome) → SitsAgain v m w r → HearsDatagram v now bytes outs m → Becomes v w (λ x s. TakesDatagram x now bytes outs s)
takes_alone v m w r now bytes outs h hears = λ x s.
    let p = place r m.image w.image h.sits in
    let t = heard r p.0 v m now bytes outs h.seated p.1 hears x s in
    (t.0, t.1, still_represents v m w r h t.0 t.2)
