-- What was given at places, and what of it at one.
use Rattle.std.proofs.Common.{◌≡◌, ◌≢◌, ◌∙◌, ◌<◌, ◌≤◌, ℕ, suc, Bool, true, false, if◌then◌else◌, List, [], ◌∷◌, ◌++◌, length, refl, sym, ap, arith, append-nil}
use Rattle.std.specs.Prelude.{nat_eq}
use Rattle.std.proofs.lemmas.Bool.{eq-eqb, ne_eqb}
use Rattle.subscriber.specs.Places.{AreBelow, Given, given_at, messages_of, of_place}

-- ---- of one place

pub of_place_on : (place : ℕ) (xs ys : List Given) → of_place place (xs ++ ys) ≡ of_place place xs ++ of_place place ys
of_place_on place [] ys = refl
of_place_on place (g ∷ xs) ys = by_place (nat_eq g.place place) (of_place_on place xs ys)
  where
    by_place : (b : Bool) → of_place place (xs ++ ys) ≡ of_place place xs ++ of_place place ys
        → (if b then g.message ∷ of_place place (xs ++ ys) else of_place place (xs ++ ys)) ≡ (if b then g.message ∷ of_place place xs else of_place place xs) ++ of_place place ys
    by_place true more = ap (λ ms. g.message ∷ ms) more
    by_place false more = more

of_place_own : (place : ℕ) (messages : List (List ℕ)) → of_place place (given_at place messages) ≡ messages
of_place_own place [] = refl
of_place_own place (m ∷ ms) =
    ap (λ (b : Bool). if b then m ∷ of_place place (given_at place ms) else of_place place (given_at place ms)) (eq-eqb place place refl)
    ∙ ap (λ xs. m ∷ xs) (of_place_own place ms)

of_place_other : (place at : ℕ) (messages : List (List ℕ)) → place ≢ at → of_place place (given_at at messages) ≡ []
of_place_other place at [] other = refl
of_place_other place at (m ∷ ms) other =
    ap (λ (b : Bool). if b then m ∷ of_place place (given_at at ms) else of_place place (given_at at ms)) (ne_eqb at place (λ is. other (sym is)))
    ∙ of_place_other place at ms other

-- what a place gives more is behind what it gave
pub of_place_more : (place : ℕ) (given : List Given) (messages : List (List ℕ)) → of_place place (given ++ given_at place messages) ≡ of_place place given ++ messages
of_place_more place given messages = of_place_on place given (given_at place messages) ∙ ap (λ ms. of_place place given ++ ms) (of_place_own place messages)

-- and no other place's
pub of_place_beside : (place at : ℕ) (given : List Given) (messages : List (List ℕ)) → place ≢ at → of_place place (given ++ given_at at messages) ≡ of_place place given
of_place_beside place at given messages other =
    of_place_on place given (given_at at messages) ∙ ap (λ ms. of_place place given ++ ms) (of_place_other place at messages other) ∙ append-nil (of_place place given)

-- a place that nothing was given at has none of it
pub none_above : (places place : ℕ) (given : List Given) → places ≤ place → AreBelow places given → of_place place given ≡ []
none_above places place [] above below = refl
none_above places place (g ∷ given) above below =
    ap (λ (b : Bool). if b then g.message ∷ of_place place given else of_place place given) (ne_eqb g.place place (λ is. omega (arith, is, above, below.0)))
    ∙ none_above places place given above below.1

-- one place alone has all
pub all_of_one : (given : List Given) → AreBelow 1 given → of_place 0 given ≡ messages_of given
all_of_one [] below = refl
all_of_one (g ∷ given) below =
    ap (λ (b : Bool). if b then g.message ∷ of_place 0 given else of_place 0 given) (eq-eqb g.place 0 (omega (arith, below.0)))
    ∙ ap (λ ms. g.message ∷ ms) (all_of_one given below.1)

-- ---- the messages

pub messages_on : (xs ys : List Given) → messages_of (xs ++ ys) ≡ messages_of xs ++ messages_of ys
messages_on [] ys = refl
messages_on (g ∷ xs) ys = ap (λ ms. g.message ∷ ms) (messages_on xs ys)

pub messages_at : (place : ℕ) (messages : List (List ℕ)) → messages_of (given_at place messages) ≡ messages
messages_at place [] = refl
messages_at place (m ∷ ms) = ap (λ xs. m ∷ xs) (messages_at place ms)

pub messages_more : (place : ℕ) (given : List Given) (messages : List (List ℕ)) → messages_of (given ++ given_at place messages) ≡ messages_of given ++ messages
messages_more place given messages = messages_on given (given_at place messages) ∙ ap (λ ms. messages_of given ++ ms) (messages_at place messages)

pub given_on : (place : ℕ) (xs ys : List (List ℕ)) → given_at place (xs ++ ys) ≡ given_at place xs ++ given_at place ys
given_on place [] ys = refl
given_on place (m ∷ xs) ys = ap (λ gs. record { place = place; message = m } ∷ gs) (given_on place xs ys)

pub length-messages_of : (given : List Given) → length (messages_of given) ≡ length given
length-messages_of [] = refl
length-messages_of (g ∷ given) = ap suc (length-messages_of given)

pub length-given_at : (place : ℕ) (messages : List (List ℕ)) → length (given_at place messages) ≡ length messages
length-given_at place [] = refl
length-given_at place (m ∷ ms) = ap suc (length-given_at place ms)

-- ---- the places

pub below_on : (places : ℕ) (xs ys : List Given) → AreBelow places xs → AreBelow places ys → AreBelow places (xs ++ ys)
below_on places [] ys first more = more
below_on places (g ∷ xs) ys first more = (first.0, below_on places xs ys first.1 more)

pub below_front : (places : ℕ) (xs ys : List Given) → AreBelow places (xs ++ ys) → AreBelow places xs
below_front places [] ys all = tt
below_front places (g ∷ xs) ys all = (all.0, below_front places xs ys all.1)

pub below_back : (places : ℕ) (xs ys : List Given) → AreBelow places (xs ++ ys) → AreBelow places ys
below_back places [] ys all = all
below_back places (g ∷ xs) ys all = below_back places xs ys all.1

pub below_at : (places place : ℕ) (messages : List (List ℕ)) → place < places → AreBelow places (given_at place messages)
below_at places place [] less = tt
below_at places place (m ∷ ms) less = (less, below_at places place ms less)

pub below_more : (few many : ℕ) (given : List Given) → few ≤ many → AreBelow few given → AreBelow many given
below_more few many [] more below = tt
below_more few many (g ∷ given) more below = (omega (arith, more, below.0), below_more few many given more below.1)
