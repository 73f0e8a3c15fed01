-- Refusals at worked words: what justifies them, and what doesn't.
use Rattle.std.specs.Prelude.{◌≡◌, ℕ, ◌+◌, ◌*◌, ◌/◌, ◌%◌, ◌≤◌, List, [], ◌∷◌, ◌++◌}
use Rattle.std.proofs.Common.{refl, inl, inr, sym, ap, subst, arith}
use Rattle.theory.specs.Placed.{Among}
use Rattle.theory.specs.Refusal.{Sight, SawLimit, SawCount, SawTail, AddedTo, Before, Closed, NotConnected, AdminAction, MaxPositionExceeded, IsFull, IsJustified}
use Rattle.theory.proofs.Lists.{among_left, among_right}
use Rattle.theory.proofs.Rows.{the_geometry}

-- ---- justified

closed : IsJustified the_geometry 64 (SawLimit 2 ∷ []) Closed
closed = (2, inl refl, refl)

-- a fresh log that was never connected: the tail is at the limit
unconnected : IsJustified the_geometry 64 (SawLimit 0 ∷ SawCount 0 ∷ SawTail 0 0x0000000700000000 ∷ []) NotConnected
unconnected = (0, inl refl, (refl, refl, record { count = 0; word = 0x0000000700000000; order = record { front = SawLimit 0 ∷ []; middle = []; back = []; parts = refl }; id = refl; below = omega arith; reached = omega arith }))

-- the term is at its end, and the last term is full
at_end : IsJustified the_geometry 64 (SawLimit 89921 ∷ SawCount 0 ∷ SawTail 0 0x0000000700010000 ∷ []) AdminAction
at_end = (89921, inl refl, (refl, inr (inl (record { count = 0; word = 0x0000000700010000; order = record { front = SawLimit 89921 ∷ []; middle = []; back = []; parts = refl }; id = refl; over = omega arith; which = omega arith }))))

full : IsJustified the_geometry 96 (SawLimit 140737488388033 ∷ AddedTo 1 0x800000060000ffc0 ∷ []) MaxPositionExceeded
full = (140737488388033, inl refl, (refl, inr (record { partition = 1; word = 0x800000060000ffc0; count = 2147483647; among = inr (inl refl); id = refl; over = omega arith; which = refl })))

-- ---- not justified

no_closed : IsJustified the_geometry 64 (SawLimit 1 ∷ []) Closed → ⊥
no_closed (limit, inl e, h) = let same : limit ≡ 1 = word 1 e in let none : (1 / 2 % 2) ≡ 0 = refl in absurd (cc)
  where
    word : (n : ℕ) → SawLimit limit ≡ SawLimit n → limit ≡ n
    word n x = cc
no_closed (limit, inr a, h) = absurd a

second_among : (a b : Sight) (sights : List Sight) → Before a b sights → Among b sights
second_among a b sights o = subst (Among b) (sym o.parts) (among_right b (o.front ++ a ∷ o.middle) (b ∷ o.back) (inl refl))

first_among : (a b : Sight) (sights : List Sight) → Before a b sights → Among a sights
first_among a b sights o = subst (Among a) (sym o.parts) (among_left a (o.front ++ a ∷ o.middle) (b ∷ o.back) (among_right a o.front (a ∷ o.middle) (inl refl)))

abbrev IsTail : Sight → Type 0
IsTail (SawLimit x) = ⊥
IsTail (SawCount x) = ⊥
IsTail (SawTail x y) = Unit {0}
IsTail (AddedTo x y) = ⊥

-- without a tail that was loaded no limit was reached
no_tail : (count limit : ℕ) → IsFull the_geometry (SawLimit 32769 ∷ SawCount count ∷ []) limit → ⊥
no_tail count limit f = none (second_among (SawCount f.count) (SawTail (f.count % 3) f.word) (SawLimit 32769 ∷ SawCount count ∷ []) f.order)
  where
    none : Among (SawTail (f.count % 3) f.word) (SawLimit 32769 ∷ SawCount count ∷ []) → ⊥
    none (inl e) = absurd (subst IsTail e tt)
    none (inr (inl e)) = absurd (subst IsTail e tt)
    none (inr (inr a)) = absurd a

abbrev IsCount : ℕ → Sight → Type 0
IsCount n (SawLimit x) = ⊥
IsCount n (SawCount x) = n ≡ x
IsCount n (SawTail x y) = ⊥
IsCount n (AddedTo x y) = ⊥

abbrev IsWord : ℕ → Sight → Type 0
IsWord n (SawLimit x) = ⊥
IsWord n (SawCount x) = ⊥
IsWord n (SawTail x y) = n ≡ y
IsWord n (AddedTo x y) = ⊥

-- a tail below the limit has not reached it
abbrev fresh : List Sight
fresh = SawLimit 32769 ∷ SawCount 0 ∷ SawTail 0 0x0000000700000000 ∷ []

no_full : IsFull the_geometry fresh 32769 → ⊥
no_full f =
    let count : f.count ≡ 0 = counted (first_among (SawCount f.count) (SawTail (f.count % 3) f.word) fresh f.order) in
    let word : f.word ≡ 0x0000000700000000 = loaded (second_among (SawCount f.count) (SawTail (f.count % 3) f.word) fresh f.order) in
    let offset : f.word % 4294967296 ≡ 0 = ap (λ w. w % 4294967296) word in
    let reached : 32769 / 4 * 4 ≤ f.count * 65536 + f.word % 4294967296 = f.reached in
    absurd (omega arith)
  where
    counted : Among (SawCount f.count) fresh → f.count ≡ 0
    counted (inl e) = absurd (subst (IsCount f.count) e refl)
    counted (inr (inl e)) = subst (IsCount f.count) e refl
    counted (inr (inr (inl e))) = absurd (subst (IsCount f.count) e refl)
    counted (inr (inr (inr a))) = absurd a

    loaded : Among (SawTail (f.count % 3) f.word) fresh → f.word ≡ 0x0000000700000000
    loaded (inl e) = absurd (subst (IsWord f.word) e refl)
    loaded (inr (inl e)) = absurd (subst (IsWord f.word) e refl)
    loaded (inr (inr (inl e))) = subst (IsWord f.word) e refl
    loaded (inr (inr (inr a))) = absurd a
