-- Which messages of a life were given before its last tick.
use Rattle.std.proofs.Common.{◌≡◌, ◌∙◌, ℕ, Bool, true, false, if◌then◌else◌, List, [], ◌∷◌, ◌++◌, refl, ap, append-nil}
use Rattle.receiver.specs.Lives.{Act, Gives, GivesNone, Hears, Ticks, given_in}
use Rattle.subscriber.specs.Breaking.{is_ticked, told_in}

-- of a life with two ticks, what was given behind the second isn't told
two_ticks : (a b c d : List ℕ) → told_in (Gives a ∷ Ticks 1 ∷ Gives b ∷ GivesNone ∷ Hears 2 c ∷ Ticks 2 ∷ Gives d ∷ GivesNone ∷ []) ≡ a ∷ b ∷ []
two_ticks a b c d = refl

pub ticked_on : (xs ys : List Act) → is_ticked ys ≡ true → is_ticked (xs ++ ys) ≡ true
ticked_on [] ys h = h
ticked_on (Hears now bytes ∷ xs) ys h = ticked_on xs ys h
ticked_on (Ticks now ∷ xs) ys h = refl
ticked_on (Gives message ∷ xs) ys h = ticked_on xs ys h
ticked_on (GivesNone ∷ xs) ys h = ticked_on xs ys h

unticked_on : (xs ys : List Act) → is_ticked ys ≡ false → is_ticked (xs ++ ys) ≡ is_ticked xs
unticked_on [] ys h = h
unticked_on (Hears now bytes ∷ xs) ys h = unticked_on xs ys h
unticked_on (Ticks now ∷ xs) ys h = refl
unticked_on (Gives message ∷ xs) ys h = unticked_on xs ys h
unticked_on (GivesNone ∷ xs) ys h = unticked_on xs ys h

-- all that was given is told, where a tick comes behind it
pub told_behind : (xs ys : List Act) → is_ticked ys ≡ true → told_in (xs ++ ys) ≡ given_in xs ++ told_in ys
told_behind [] ys h = refl
told_behind (Hears now bytes ∷ xs) ys h = told_behind xs ys h
told_behind (Ticks now ∷ xs) ys h = told_behind xs ys h
told_behind (Gives message ∷ xs) ys h = ap (λ b. if b then message ∷ told_in (xs ++ ys) else []) (ticked_on xs ys h) ∙ ap (λ ms. message ∷ ms) (told_behind xs ys h)
told_behind (GivesNone ∷ xs) ys h = told_behind xs ys h

-- without a tick nothing is
pub none_told : (ys : List Act) → is_ticked ys ≡ false → told_in ys ≡ []
none_told [] h = refl
none_told (Hears now bytes ∷ ys) h = none_told ys h
none_told (Ticks now ∷ ys) h = absurd (cc)
none_told (Gives message ∷ ys) h = ap (λ b. if b then message ∷ told_in ys else []) h
none_told (GivesNone ∷ ys) h = none_told ys h

-- and nothing more
pub none_told_behind : (xs ys : List Act) → is_ticked ys ≡ false → told_in (xs ++ ys) ≡ told_in xs
none_told_behind [] ys h = none_told ys h
none_told_behind (Hears now bytes ∷ xs) ys h = none_told_behind xs ys h
none_told_behind (Ticks now ∷ xs) ys h = none_told_behind xs ys h
none_told_behind (Gives message ∷ xs) ys h =
    ap (λ b. if b then message ∷ told_in (xs ++ ys) else []) (unticked_on xs ys h) ∙ ap (λ ms. if is_ticked xs then message ∷ ms else []) (none_told_behind xs ys h)
none_told_behind (GivesNone ∷ xs) ys h = none_told_behind xs ys h

-- so it is what was given before the last tick
told_before_last : (xs ys : List Act) (now : ℕ) → is_ticked ys ≡ false → told_in (xs ++ Ticks now ∷ ys) ≡ given_in xs
told_before_last xs ys now h = told_behind xs (Ticks now ∷ ys) refl ∙ ap (λ ms. given_in xs ++ ms) (none_told ys h) ∙ append-nil (given_in xs)

-- what is told was given, and first
pub told_first : (xs : List Act) → (rest : List (List ℕ)) × (given_in xs ≡ told_in xs ++ rest)
told_first [] = ([], refl)
told_first (Hears now bytes ∷ xs) = told_first xs
told_first (Ticks now ∷ xs) = told_first xs
told_first (Gives message ∷ xs) = by_tick (is_ticked xs) (told_first xs)
  where
    by_tick : (b : Bool) → ((rest : List (List ℕ)) × (given_in xs ≡ told_in xs ++ rest)) → (rest : List (List ℕ)) × (message ∷ given_in xs ≡ (if b then message ∷ told_in xs else []) ++ rest)
    by_tick true (rest, is) = (rest, ap (λ ms. message ∷ ms) is)
    by_tick false more = (message ∷ given_in xs, refl)
told_first (GivesNone ∷ xs) = told_first xs
