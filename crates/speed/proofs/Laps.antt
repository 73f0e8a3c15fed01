-- Spans joined one after the other are from the first begin to the last end.
use Rattle.std.proofs.Common.{◌≡◌, ℕ, zero, suc, ◌+◌, ◌<◌, ◌≤◌, max, min, inl, inr, ⊎_elim, List, [], ◌∷◌, ◌++◌, map, length, get_or, take, Option, None, Some, refl, sym, ap, ◌∙◌, subst, arith}
use Rattle.std.proofs.Math.Seq.{take-suc}
use Rattle.std.proofs.lemmas.List.{map-append, take_all}
use Rattle.std.specs.List.{AllByRecursion}
use Rattle.std.proofs.lemmas.Bool.{cases_lt}
use Rattle.theory.specs.Placed.{Among}
use Rattle.theory.proofs.Lists.{all_append, all_weaker}
use Rattle.speed.specs.Laps.{IsWhole, IsWithin, Span, joined_span}

-- of all spans, these were joined
pub record SoFar (all done : List (Option Span)) (whole : Span) : Type 0 where
  pub within : AllByRecursion (IsWithin whole) done
  pub first : Span
  pub first_among : Among (Some first) all
  pub begins : whole.began ≡ first.began
  pub last : Span
  pub last_among : Among (Some last) all
  pub ends : whole.ended ≡ last.ended

abbrev pub IsSoFar : List (Option Span) → List (Option Span) → Option Span → Type 0
IsSoFar all done None = Among None all
IsSoFar all done (Some whole) = SoFar all done whole

pub begins : (s : Option Span) (rest : List (Option Span)) → IsSoFar (s ∷ rest) [] s
begins None rest = inl refl
begins (Some s) rest = record { within = tt; first = s; first_among = inl refl; begins = refl; last = s; last_among = inl refl; ends = refl }

wider : (v w : Span) → w.began ≤ v.began → v.ended ≤ w.ended → (x : Option Span) → IsWithin v x → IsWithin w x
wider v w low high None h = h
wider v w low high (Some s) h = (omega (arith, low, h.0), omega (arith, high, h.1))

-- the earlier of two begins is one of the two, and so is the later of two ends
first_of_both : (all : List (Option Span)) (w s f : Span) → Among (Some f) all → w.began ≡ f.began → Among (Some s) all → (g : Span) × Among (Some g) all × (min w.began s.began ≡ g.began)
first_of_both all w s f here same there =
    ⊎_elim
    (λ (low : w.began < s.began). (f, here, omega (arith, low, same)))
    (λ (high : s.began ≤ w.began). (s, there, omega (arith, high)))
    (cases_lt w.began s.began)

last_of_both : (all : List (Option Span)) (w s f : Span) → Among (Some f) all → w.ended ≡ f.ended → Among (Some s) all → (g : Span) × Among (Some g) all × (max w.ended s.ended ≡ g.ended)
last_of_both all w s f here same there =
    ⊎_elim
    (λ (low : w.ended < s.ended). (s, there, omega (arith, low)))
    (λ (high : s.ended ≤ w.ended). (f, here, omega (arith, high, same)))
    (cases_lt w.ended s.ended)

pub goes_on : (all done : List (Option Span)) (whole x : Option Span) → Among x all → IsSoFar all done whole → IsSoFar all (done ++ x ∷ []) (joined_span whole x)
goes_on all done None x among h = h
goes_on all done (Some w) None among h = among
goes_on all done (Some w) (Some s) among h =
    let both : Span = record { began = min w.began s.began; ended = max w.ended s.ended } in
    let first = first_of_both all w s h.first h.first_among h.begins among in
    let last = last_of_both all w s h.last h.last_among h.ends among in
    record {
      within = all_append (IsWithin both) done (Some s ∷ []) (all_weaker (IsWithin w) (IsWithin both) (wider w both (omega arith) (omega arith)) done h.within) ((omega arith, omega arith), tt);
      first = first.0;
      first_among = first.1;
      begins = first.2;
      last = last.0;
      last_among = last.1;
      ends = last.2;
    }

pub whole_of : (all : List (Option Span)) (whole : Option Span) → IsSoFar all all whole → IsWhole all whole
whole_of all None h = inr h
whole_of all (Some w) h = record { all = h.within; first = h.first; first_among = h.first_among; begins = h.begins; last = h.last; last_among = h.last_among; ends = h.ends }

-- ---- of the elements of a list, each with a span

among_at : {A : Type 0} (f : A → Option Span) (xs : List A) (k : ℕ) (x : A) → k < length xs → x ≡ get_or xs k x → Among (f x) (map f xs)
among_at f [] k x low e = absurd (omega arith)
among_at f (y ∷ ys) zero x low e = inl (ap f e)
among_at f (y ∷ ys) (suc k) x low e = inr (among_at f ys k x (omega arith) e)

pub one_more : {A : Type 0} (f : A → Option Span) (xs : List A) (k : ℕ) (x : A) (whole : Option Span) → k < length xs → x ≡ get_or xs k x → IsSoFar (map f xs) (map f (take k xs)) whole → IsSoFar (map f xs) (map f (take (k + 1) xs)) (joined_span whole (f x))
one_more f xs k x whole low e h =
    let next : k + 1 ≡ suc k = omega arith in
    let more : take (k + 1) xs ≡ take k xs ++ x ∷ [] = ap (λ n. take n xs) next ∙ take-suc xs k x low ∙ ap (λ y. take k xs ++ y ∷ []) (sym e) in
    subst (λ ys. IsSoFar (map f xs) ys (joined_span whole (f x))) (sym (ap (map f) more ∙ map-append f (take k xs) (x ∷ []))) (goes_on (map f xs) (map f (take k xs)) whole (f x) (among_at f xs k x low e) h)

pub from_first : {A : Type 0} (f : A → Option Span) (xs : List A) (x : A) → 0 < length xs → x ≡ get_or xs 0 x → IsSoFar (map f xs) (map f (take 0 xs)) (f x)
from_first f [] x low e = absurd (omega arith)
from_first f (y ∷ ys) x low e = subst (λ z. IsSoFar (map f (y ∷ ys)) [] (f z)) (sym e) (begins (f y) (map f ys))

pub to_last : {A : Type 0} (f : A → Option Span) (xs : List A) (k : ℕ) (whole : Option Span) → length xs ≤ k → IsSoFar (map f xs) (map f (take k xs)) whole → IsWhole (map f xs) whole
to_last f xs k whole high h = whole_of (map f xs) whole (subst (λ ys. IsSoFar (map f xs) (map f ys) whole) (take_all k xs high) h)
