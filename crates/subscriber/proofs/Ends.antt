-- What is noted of one datagram after the other is the greatest end that they tell, and whether the stream is broken off at one; and whether
-- one brings a frame of the stream.
use Rattle.std.proofs.Common.{◌≡◌, ◌⊎◌, ◌∙◌, ◌↔◌, ◌<◌, ◌≤◌, ◌||◌, ℕ, ℤ, Bool, true, false, IsTrue, pos, List, [], ◌∷◌, ◌++◌, length, max, Option, None, Some, ⊎_elim, inl, inr, refl, sym, ap, subst, arith, true≢false}
use Rattle.std.specs.Prelude.{◌+ℤ◌, ◌*ℤ◌, ⊤}
use Rattle.std.specs.Int.{w32, int_wrapping_sub}
use Rattle.std.proofs.lemmas.Bool.{cases_lt}
use Rattle.theory.specs.Placed.{Among}
use Rattle.theory.specs.Position.{Geometry, position_of}
use Rattle.theory.specs.Setup.{NamesGeometry}
use Rattle.theory.specs.Wire.{Setup, Wire}
use Rattle.frames.specs.Fronts.{FrontSpells}
use Rattle.peer.specs.Farewells.{EndsAt, ttl_of}
use Rattle.peer.specs.declared.farewell.StreamEnd.{StreamEnd}
use Rattle.subscriber.specs.Followers.{BringsStream, IsGreatest, IsGreatestEnd, IsHeard, IsToldAmong, NotesDatagramsEnd, NotesEnds, TellsEnd, with_end}
use Rattle.subscriber.specs.declared.listening.setup_offer.ImageParams.{ImageParams}
use Rattle.peer.specs.Setups.{TellsSetup, setup_told}

same_pos : (a b : ℕ) → pos a ≡ pos b → a ≡ b
same_pos a b e = grind (arith, e)

-- one time to live tells whether a stream is broken off
one_kind : (a b : Bool) → ttl_of a ≡ ttl_of b → a ≡ b
one_kind false false e = refl
one_kind true true e = refl
one_kind false true e = absurd (grind (arith, e))
one_kind true false e = absurd (grind (arith, e))

-- a SETUP tells one end
one_place : (f : Setup) (g h : Geometry) → NamesGeometry f g → NamesGeometry f h → position_of g f.active_term_id f.term_offset ≡ position_of h f.active_term_id f.term_offset
one_place f g h a b =
    ap (λ (i : ℤ). (int_wrapping_sub w32 f.active_term_id i *ℤ pos g.term_length) +ℤ f.term_offset) (sym a.initial ∙ b.initial)
    ∙ ap (λ (n : ℕ). (int_wrapping_sub w32 f.active_term_id h.initial_term_id *ℤ pos n) +ℤ f.term_offset) (same_pos _ _ (sym a.term_length ∙ b.term_length))

one_end : (session stream : ℤ) (f : Setup) (a b : StreamEnd) → EndsAt session stream f a → EndsAt session stream f b → a ≡ b
one_end session stream f a b x y =
    ap (λ (n : ℕ). record { position = n; broken = a.broken }) (same_pos a.position b.position (sym x.here ∙ one_place f x.shape y.shape x.named y.named ∙ y.here))
    ∙ ap (λ (k : Bool). record { position = b.position; broken = k }) (one_kind a.broken b.broken (sym x.farewell.told ∙ y.farewell.told))

-- a datagram that tells one SETUP tells no other, as far as a contradiction shows it
same_setup : (f g : Setup) (w : Wire) → Some f ≡ setup_told w → Some g ≡ setup_told w → f ≡ g
same_setup f g w a b = some_same f g (a ∙ sym b)
  where
    some_same : (x y : Setup) → Some x ≡ Some y → x ≡ y
    some_same x y e = cc

never : (bytes : List ℕ) (g : Setup) → TellsSetup bytes (Some g) → ((w : Wire) → FrontSpells bytes w (length bytes) → ⊥) → ⊥
never bytes g h none = let e = h.others none in cc

-- ---- the ends in numbers

-- at least this position
abbrev AtLeast : Option StreamEnd → ℕ → Type 0
AtLeast None end = ⊥
AtLeast (Some greatest) end = end ≤ greatest.position

-- one at which the stream is broken off was noted
abbrev Breaks : Option StreamEnd → Type 0
Breaks None = ⊥
Breaks (Some end) = IsTrue end.broken

left_or : (a b : Bool) → IsTrue a → IsTrue (a || b)
left_or true b h = refl
left_or false b h = absurd (true≢false (sym h))

right_or : (a b : Bool) → IsTrue b → IsTrue (a || b)
right_or true b h = refl
right_or false b h = h

either : (a b : Bool) → IsTrue (a || b) → IsTrue a ⊎ IsTrue b
either true b h = inl refl
either false b h = inr h

with_it : (old : Option StreamEnd) (end : StreamEnd) → AtLeast (with_end old end) end.position
with_it None end = omega arith
with_it (Some before) end = omega arith

with_break : (old : Option StreamEnd) (end : StreamEnd) → IsTrue end.broken → Breaks (with_end old end)
with_break None end b = b
with_break (Some before) end b = right_or before.broken end.broken b

-- what was noted isn't lost
record KeepsIt (before new : Option StreamEnd) : Type 0 where
  most : (n : ℕ) → AtLeast before n → AtLeast new n
  breaks : Breaks before → Breaks new

keeps_same : (old : Option StreamEnd) → KeepsIt old old
keeps_same old = record { most = λ n a. a; breaks = λ b. b }

keeps_with : (old : Option StreamEnd) (end : StreamEnd) → KeepsIt old (with_end old end)
keeps_with None end = record { most = λ n a. absurd a; breaks = λ b. absurd b }
keeps_with (Some before) end = record { most = λ n a. omega (arith, a); breaks = λ b. left_or before.broken end.broken b }

keeps_on : (a b c : Option StreamEnd) → KeepsIt a b → KeepsIt b c → KeepsIt a c
keeps_on a b c x y = record { most = λ n h. y.most n (x.most n h); breaks = λ h. y.breaks (x.breaks h) }

-- its position was noted before, or one of these tells it
abbrev Comes : ℤ → ℤ → List (List ℕ) → Option StreamEnd → Option StreamEnd → Type 0
Comes session stream heard old None = ⊤
Comes session stream heard old (Some end) =
    ((before : StreamEnd) × (old ≡ Some before) × (end.position ≡ before.position))
    ⊎ ((one : StreamEnd) × IsToldAmong session stream heard one × (end.position ≡ one.position))

-- and that the stream is broken off
abbrev BreaksFrom : ℤ → ℤ → List (List ℕ) → Option StreamEnd → Option StreamEnd → Type 0
BreaksFrom session stream heard old new = Breaks new → Breaks old ⊎ ((one : StreamEnd) × IsToldAmong session stream heard one × IsTrue one.broken)

-- ---- a datagram

-- the end that a datagram tells is noted
record Noted (new : Option StreamEnd) (end : StreamEnd) : Type 0 where
  most : AtLeast new end.position
  breaks : IsTrue end.broken → Breaks new

noted_with : (old : Option StreamEnd) (end : StreamEnd) → Noted (with_end old end) end
noted_with old end = record { most = with_it old end; breaks = with_break old end }

told_noted : (session stream : ℤ) (bytes : List ℕ) (old new : Option StreamEnd) (end : StreamEnd) → NotesDatagramsEnd session stream bytes old new → TellsEnd session stream bytes end → Noted new end
told_noted session stream bytes old new end (None, tells, same) (g, found, at) =
    absurd (never bytes g found (λ w front. let a = tells.frame w front in let b = found.frame w front in cc))
told_noted session stream bytes old new end (Some f, tells, inl (e, there, is)) (g, found, at) =
    subst (λ (n : Option StreamEnd). Noted n end) (sym is) (by_same (with_end old e) (noted_with old e))
  where
    same : (w : Wire) → FrontSpells bytes w (length bytes) → e ≡ end
    same w front = one_end session stream f e end there (subst (λ (x : Setup). EndsAt session stream x end) (sym (same_setup f g w (tells.frame w front) (found.frame w front))) at)

    least : (n : Option StreamEnd) → AtLeast n e.position → AtLeast n end.position
    least None wrong = absurd wrong
    least (Some n) low =
        ⊎_elim
        (λ (less : n.position < end.position). absurd (never bytes g found (λ w front. let is = ap (λ (x : StreamEnd). x.position) (same w front) in omega (arith, is, low, less))))
        (λ (here : end.position ≤ n.position). here)
        (cases_lt n.position end.position)

    by_kind : (b : Bool) → e.broken ≡ b → (n : Option StreamEnd) → Noted n e → IsTrue end.broken → Breaks n
    by_kind true is n noted b = noted.breaks is
    by_kind false is n noted b = absurd (never bytes g found (λ w front. true≢false (sym b ∙ sym (ap (λ (x : StreamEnd). x.broken) (same w front)) ∙ is)))

    by_same : (n : Option StreamEnd) → Noted n e → Noted n end
    by_same n noted = record { most = least n noted.most; breaks = by_kind e.broken refl n noted }
told_noted session stream bytes old new end (Some f, tells, inr (none, is)) (g, found, at) =
    absurd (never bytes g found (λ w front. none end (subst (λ (x : Setup). EndsAt session stream x end) (sym (same_setup f g w (tells.frame w front) (found.frame w front))) at)))

one_keeps : (session stream : ℤ) (bytes : List ℕ) (old new : Option StreamEnd) → NotesDatagramsEnd session stream bytes old new → KeepsIt old new
one_keeps session stream bytes old new (None, tells, same) = subst (KeepsIt old) (sym same) (keeps_same old)
one_keeps session stream bytes old new (Some f, tells, inl (e, there, is)) = subst (KeepsIt old) (sym is) (keeps_with old e)
one_keeps session stream bytes old new (Some f, tells, inr (none, is)) = subst (KeepsIt old) (sym is) (keeps_same old)

comes_same : (session stream : ℤ) (heard : List (List ℕ)) (old : Option StreamEnd) → Comes session stream heard old old
comes_same session stream heard None = tt
comes_same session stream heard (Some end) = inl (end, refl, refl)

one_comes : (session stream : ℤ) (bytes : List ℕ) (old new : Option StreamEnd) → NotesDatagramsEnd session stream bytes old new → Comes session stream (bytes ∷ []) old new
one_comes session stream bytes old new (None, tells, same) = subst (Comes session stream (bytes ∷ []) old) (sym same) (comes_same session stream (bytes ∷ []) old)
one_comes session stream bytes old new (Some f, tells, inl (e, there, is)) = subst (Comes session stream (bytes ∷ []) old) (sym is) (by_old old)
  where
    this : IsToldAmong session stream (bytes ∷ []) e
    this = record { bytes = bytes; there = inl refl; told = (f, tells, there) }

    by_order : (before : StreamEnd) → Comes session stream (bytes ∷ []) (Some before) (with_end (Some before) e)
    by_order before =
        ⊎_elim
        (λ (less : before.position < e.position). inr (e, this, (let most : max before.position e.position ≡ e.position = omega arith in most)))
        (λ (high : e.position ≤ before.position). inl (before, refl, (let most : max before.position e.position ≡ before.position = omega arith in most)))
        (cases_lt before.position e.position)

    by_old : (o : Option StreamEnd) → Comes session stream (bytes ∷ []) o (with_end o e)
    by_old None = inr (e, this, refl)
    by_old (Some before) = by_order before
one_comes session stream bytes old new (Some f, tells, inr (none, is)) = subst (Comes session stream (bytes ∷ []) old) (sym is) (comes_same session stream (bytes ∷ []) old)

one_breaks : (session stream : ℤ) (bytes : List ℕ) (old new : Option StreamEnd) → NotesDatagramsEnd session stream bytes old new → BreaksFrom session stream (bytes ∷ []) old new
one_breaks session stream bytes old new (None, tells, same) = λ b. inl (subst Breaks same b)
one_breaks session stream bytes old new (Some f, tells, inl (e, there, is)) = λ b. by_old old (subst Breaks is b)
  where
    this : IsToldAmong session stream (bytes ∷ []) e
    this = record { bytes = bytes; there = inl refl; told = (f, tells, there) }

    by_old : (o : Option StreamEnd) → Breaks (with_end o e) → Breaks o ⊎ ((one : StreamEnd) × IsToldAmong session stream (bytes ∷ []) one × IsTrue one.broken)
    by_old None b = inr (e, this, b)
    by_old (Some before) b = ⊎_elim (λ (x : IsTrue before.broken). inl x) (λ (x : IsTrue e.broken). inr (e, this, x)) (either before.broken e.broken b)
one_breaks session stream bytes old new (Some f, tells, inr (none, is)) = λ b. inl (subst Breaks is b)

-- ---- all of them

later_told : (session stream : ℤ) (bytes : List ℕ) (heard : List (List ℕ)) (end : StreamEnd) → IsToldAmong session stream heard end → IsToldAmong session stream (bytes ∷ heard) end
later_told session stream bytes heard end h = record { bytes = h.bytes; there = inr h.there; told = h.told }

first_told : (session stream : ℤ) (bytes : List ℕ) (heard : List (List ℕ)) (end : StreamEnd) → IsToldAmong session stream (bytes ∷ []) end → IsToldAmong session stream (bytes ∷ heard) end
first_told session stream bytes heard end h = by_there h.there
  where
    by_there : Among h.bytes (bytes ∷ []) → IsToldAmong session stream (bytes ∷ heard) end
    by_there (inl is) = record { bytes = h.bytes; there = inl is; told = h.told }
    by_there (inr none) = absurd none

all_keep : (session stream : ℤ) (heard : List (List ℕ)) (old new : Option StreamEnd) → NotesEnds session stream heard old new → KeepsIt old new
all_keep session stream [] old new same = subst (KeepsIt old) (sym same) (keeps_same old)
all_keep session stream (bytes ∷ heard) old new (middle, one, rest) = keeps_on old middle new (one_keeps session stream bytes old middle one) (all_keep session stream heard middle new rest)

still_noted : (middle new : Option StreamEnd) (end : StreamEnd) → KeepsIt middle new → Noted middle end → Noted new end
still_noted middle new end k n = record { most = k.most end.position n.most; breaks = λ b. k.breaks (n.breaks b) }

all_noted : (session stream : ℤ) (heard : List (List ℕ)) (old new : Option StreamEnd) (bytes : List ℕ) (end : StreamEnd) → NotesEnds session stream heard old new → Among bytes heard → TellsEnd session stream bytes end → Noted new end
all_noted session stream [] old new bytes end same none told = absurd none
all_noted session stream (first ∷ heard) old new bytes end (middle, one, rest) (inl is) told =
    still_noted middle new end (all_keep session stream heard middle new rest) (told_noted session stream first old middle end one (subst (λ (b : List ℕ). TellsEnd session stream b end) is told))
all_noted session stream (first ∷ heard) old new bytes end (middle, one, rest) (inr later) told = all_noted session stream heard middle new bytes end rest later told

all_come : (session stream : ℤ) (heard : List (List ℕ)) (old new : Option StreamEnd) → NotesEnds session stream heard old new → Comes session stream heard old new
all_come session stream [] old new same = subst (Comes session stream [] old) (sym same) (comes_same session stream [] old)
all_come session stream (bytes ∷ heard) old None (middle, one, rest) = tt
all_come session stream (bytes ∷ heard) old (Some end) (middle, one, rest) = by_rest (all_come session stream heard middle (Some end) rest)
  where
    by_one : (m : StreamEnd) → end.position ≡ m.position → Comes session stream (bytes ∷ []) old (Some m) → Comes session stream (bytes ∷ heard) old (Some end)
    by_one m here (inl (before, was, is)) = inl (before, was, here ∙ is)
    by_one m here (inr (e, told, is)) = inr (e, first_told session stream bytes heard e told, here ∙ is)

    by_rest : Comes session stream heard middle (Some end) → Comes session stream (bytes ∷ heard) old (Some end)
    by_rest (inl (m, was, is)) = by_one m is (subst (Comes session stream (bytes ∷ []) old) was (one_comes session stream bytes old middle one))
    by_rest (inr (e, told, is)) = inr (e, later_told session stream bytes heard e told, is)

all_break : (session stream : ℤ) (heard : List (List ℕ)) (old new : Option StreamEnd) → NotesEnds session stream heard old new → BreaksFrom session stream heard old new
all_break session stream [] old new same = λ b. inl (subst Breaks same b)
all_break session stream (bytes ∷ heard) old new (middle, one, rest) = λ b. by_rest (all_break session stream heard middle new rest b)
  where
    by_one : Breaks old ⊎ ((e : StreamEnd) × IsToldAmong session stream (bytes ∷ []) e × IsTrue e.broken) → Breaks old ⊎ ((e : StreamEnd) × IsToldAmong session stream (bytes ∷ heard) e × IsTrue e.broken)
    by_one (inl was) = inl was
    by_one (inr (e, told, is)) = inr (e, first_told session stream bytes heard e told, is)

    by_rest : Breaks middle ⊎ ((e : StreamEnd) × IsToldAmong session stream heard e × IsTrue e.broken) → Breaks old ⊎ ((e : StreamEnd) × IsToldAmong session stream (bytes ∷ heard) e × IsTrue e.broken)
    by_rest (inl was) = by_one (one_breaks session stream bytes old middle one was)
    by_rest (inr (e, told, is)) = inr (e, later_told session stream bytes heard e told, is)

pub greatest_end : (session stream : ℤ) (heard : List (List ℕ)) (new : Option StreamEnd) → NotesEnds session stream heard None new → IsGreatestEnd session stream heard new
greatest_end session stream heard None notes = λ end h. (all_noted session stream heard None None h.bytes end notes h.there h.told).most
greatest_end session stream heard (Some greatest) notes = by_comes (all_come session stream heard None (Some greatest) notes)
  where
    by_break : Breaks None ⊎ ((e : StreamEnd) × IsToldAmong session stream heard e × IsTrue e.broken) → (e : StreamEnd) × IsToldAmong session stream heard e × IsTrue e.broken
    by_break (inl none) = absurd none
    by_break (inr one) = one

    breaks : IsTrue greatest.broken ↔ ((e : StreamEnd) × IsToldAmong session stream heard e × IsTrue e.broken)
    breaks = (
      λ b. by_break (all_break session stream heard None (Some greatest) notes b),
      λ h. (all_noted session stream heard None (Some greatest) h.1.bytes h.0 notes h.1.there h.1.told).breaks h.2,
    )

    by_comes : Comes session stream heard None (Some greatest) → IsGreatest session stream heard greatest
    by_comes (inl (before, wrong, is)) = absurd (let e = wrong in cc)
    by_comes (inr (one, told, is)) = record {
      one = one;
      told = told;
      here = sym is;
      most = λ end h. (all_noted session stream heard None (Some greatest) h.bytes end notes h.there h.told).most;
      broken = breaks;
    }

-- ---- parts

pub ends_on : (session stream : ℤ) (xs ys : List (List ℕ)) (a b c : Option StreamEnd) → NotesEnds session stream xs a b → NotesEnds session stream ys b c → NotesEnds session stream (xs ++ ys) a c
ends_on session stream [] ys a b c same rest = subst (λ (o : Option StreamEnd). NotesEnds session stream ys o c) same rest
ends_on session stream (bytes ∷ xs) ys a b c (middle, one, more) rest = (middle, one, ends_on session stream xs ys middle b c more rest)

-- ---- whether a stream was heard

pub heard_none : (o : ImageParams) (stream : ℤ) → IsHeard o stream [] → ⊥
heard_none o stream h = h.there

pub heard_first : (o : ImageParams) (stream : ℤ) (bytes : List ℕ) (heard : List (List ℕ)) → IsHeard o stream (bytes ∷ heard) ↔ (BringsStream o stream bytes ⊎ IsHeard o stream heard)
heard_first o stream bytes heard = (there, back)
  where
    by_there : (b : List ℕ) → BringsStream o stream b → Among b (bytes ∷ heard) → BringsStream o stream bytes ⊎ IsHeard o stream heard
    by_there b brings (inl is) = inl (subst (BringsStream o stream) is brings)
    by_there b brings (inr later) = inr (record { bytes = b; there = later; brings = brings })

    there : IsHeard o stream (bytes ∷ heard) → BringsStream o stream bytes ⊎ IsHeard o stream heard
    there h = by_there h.bytes h.brings h.there

    back : BringsStream o stream bytes ⊎ IsHeard o stream heard → IsHeard o stream (bytes ∷ heard)
    back (inl brings) = record { bytes = bytes; there = inl refl; brings = brings }
    back (inr h) = record { bytes = h.bytes; there = inr h.there; brings = h.brings }

pub heard_parts : (o : ImageParams) (stream : ℤ) (xs ys : List (List ℕ)) → IsHeard o stream (xs ++ ys) ↔ (IsHeard o stream xs ⊎ IsHeard o stream ys)
heard_parts o stream [] ys = (λ h. inr h, λ h. ⊎_elim (λ (x : IsHeard o stream []). absurd (heard_none o stream x)) (λ (y : IsHeard o stream ys). y) h)
heard_parts o stream (bytes ∷ xs) ys = (
  λ h. ⊎_elim
      (λ (b : BringsStream o stream bytes). inl ((heard_first o stream bytes xs).1 (inl b)))
      (λ (m : IsHeard o stream (xs ++ ys)). ⊎_elim (λ (x : IsHeard o stream xs). inl ((heard_first o stream bytes xs).1 (inr x))) (λ (y : IsHeard o stream ys). inr y) ((heard_parts o stream xs ys).0 m))
      ((heard_first o stream bytes (xs ++ ys)).0 h),
  λ h. ⊎_elim
      (λ (x : IsHeard o stream (bytes ∷ xs)). ⊎_elim
      (λ (b : BringsStream o stream bytes). (heard_first o stream bytes (xs ++ ys)).1 (inl b))
      (λ (m : IsHeard o stream xs). (heard_first o stream bytes (xs ++ ys)).1 (inr ((heard_parts o stream xs ys).1 (inl m))))
      ((heard_first o stream bytes xs).0 x))
      (λ (y : IsHeard o stream ys). (heard_first o stream bytes (xs ++ ys)).1 (inr ((heard_parts o stream xs ys).1 (inr y))))
      h,
)

-- what was heard so, and then more
pub hears_more : (o : ImageParams) (stream : ℤ) (xs ys : List (List ℕ)) (A B C : Type 0) → (B ↔ (A ⊎ IsHeard o stream xs)) → (C ↔ (B ⊎ IsHeard o stream ys)) → (C ↔ (A ⊎ IsHeard o stream (xs ++ ys)))
hears_more o stream xs ys A B C first then = (
  λ c. ⊎_elim
      (λ (b : B). ⊎_elim (λ (a : A). inl a) (λ (x : IsHeard o stream xs). inr ((heard_parts o stream xs ys).1 (inl x))) (first.0 b))
      (λ (y : IsHeard o stream ys). inr ((heard_parts o stream xs ys).1 (inr y)))
      (then.0 c),
  λ h. ⊎_elim
      (λ (a : A). then.1 (inl (first.1 (inl a))))
      (λ (m : IsHeard o stream (xs ++ ys)). ⊎_elim
      (λ (x : IsHeard o stream xs). then.1 (inl (first.1 (inr x))))
      (λ (y : IsHeard o stream ys). then.1 (inr y))
      ((heard_parts o stream xs ys).0 m))
      h,
)

pub hears_after : (o : ImageParams) (stream : ℤ) (xs ys : List (List ℕ)) (B C : Type 0) → (B ↔ IsHeard o stream xs) → (C ↔ (B ⊎ IsHeard o stream ys)) → (C ↔ IsHeard o stream (xs ++ ys))
hears_after o stream xs ys B C first then = (
  λ c. ⊎_elim
      (λ (b : B). (heard_parts o stream xs ys).1 (inl (first.0 b)))
      (λ (y : IsHeard o stream ys). (heard_parts o stream xs ys).1 (inr y))
      (then.0 c),
  λ m. ⊎_elim
      (λ (x : IsHeard o stream xs). then.1 (inl (first.1 x)))
      (λ (y : IsHeard o stream ys). then.1 (inr y))
      ((heard_parts o stream xs ys).0 m),
)

pub hears_one : (o : ImageParams) (stream : ℤ) (bytes : List ℕ) (A B : Type 0) → (B ↔ (A ⊎ BringsStream o stream bytes)) → (B ↔ (A ⊎ IsHeard o stream (bytes ∷ [])))
hears_one o stream bytes A B h = (
  λ b. ⊎_elim (λ (a : A). inl a) (λ (x : BringsStream o stream bytes). inr ((heard_first o stream bytes []).1 (inl x))) (h.0 b),
  λ c. ⊎_elim
      (λ (a : A). h.1 (inl a))
      (λ (x : IsHeard o stream (bytes ∷ [])). ⊎_elim
      (λ (y : BringsStream o stream bytes). h.1 (inr y))
      (λ (none : IsHeard o stream []). absurd (heard_none o stream none))
      ((heard_first o stream bytes []).0 x))
      c,
)

pub hears_none : (o : ImageParams) (stream : ℤ) (A : Type 0) → (A ↔ (A ⊎ IsHeard o stream []))
hears_none o stream A = (λ a. inl a, λ h. ⊎_elim (λ (a : A). a) (λ (none : IsHeard o stream []). absurd (heard_none o stream none)) h)
