-- Rows: a sender that goes on by another group gives nothing out by that, stands where it stood and reads on; it does nothing else then.
use Rattle.std.specs.Prelude.{◌≡◌, ℕ, suc, List, [], ◌∷◌, Some}
use Rattle.std.proofs.Common.{ap, refl, sym, subst, arith}
use Rattle.flow_control.specs.Stream.{flow_after}
use Rattle.sender_meaning.specs.Lives.{Hears, Ticks}
use Rattle.sender_meaning.specs.Moments.{StreamCore}
use Rattle.sender_meaning.specs.StreamLives.{Acts, Regroups, StreamLives, given_in_all}

abbrev one : List ℕ
one = 1 ∷ []

abbrev two : List ℕ
two = 2 ∷ []

-- what it gave out before and behind it
gives : given_in_all (Acts (Hears 5 [] (one ∷ [])) ∷ Regroups 2 ∷ Acts (Ticks 6 (two ∷ one ∷ [])) ∷ []) ≡ one ∷ two ∷ one ∷ []
gives = refl

gives_nothing : given_in_all (Regroups 2 ∷ Regroups 1 ∷ []) ≡ []
gives_nothing = refl

regroups : (s : StreamCore) → StreamLives 3 s (Regroups 2 ∷ []) (record s { flow = flow_after (Some 2) s.handler.at [] })
regroups s = (record s { flow = flow_after (Some 2) s.handler.at [] }, record { some = omega arith; fewer = omega arith; is = refl }, refl)

-- it stands where it stood
stands : (n : ℕ) (s t : StreamCore) → StreamLives n s (Regroups 2 ∷ []) t → t.handler.at ≡ s.handler.at
stands n s t lives = subst (λ (z : StreamCore). z.handler.at ≡ s.handler.at) (sym lives.2) (ap (λ (z : StreamCore). z.handler.at) lives.1.is)

-- and can't have moved on
moves : (n : ℕ) (s t : StreamCore) → StreamLives n s (Regroups 2 ∷ []) t → t.handler.at ≡ suc s.handler.at → ⊥
moves n s t lives on = let same = stands n s t lives in omega (arith, same, on)

-- to two destinations it can't go on by a group of two
as_many : (s t : StreamCore) → StreamLives 2 s (Regroups 2 ∷ []) t → ⊥
as_many s t lives = let fewer = lives.1.fewer in omega (arith, fewer)
