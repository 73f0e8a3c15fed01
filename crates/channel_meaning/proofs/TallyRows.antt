-- Rows: what the law of a run's tally says of a stream of two messages, and what is the tally of some messages. The stream is that of
-- the messages abc and ab, session 1, stream 1001.
use Rattle.std.specs.Prelude.{◌≡◌, ◌<◌, ◌≤◌, ℕ, ℤ, zero, suc, Bool, true, false, List, [], ◌∷◌, slice_index, None}
use Rattle.std.specs.List.{AllByRecursion}
use Rattle.std.proofs.Common.{arith, refl}
use Rattle.theory.specs.Position.{Geometry}
use Rattle.theory.proofs.Rows.{abc}
use Rattle.receiver.specs.CoreLives.{CoreAct, CoreLives, heard_in}
use Rattle.receiver.specs.Lives.{IsHonest}
use Rattle.receiver.specs.Representing.{Core, Represents}
use Rattle.run_parties.specs.Messages.{message_of}
use Rattle.run_parties.specs.Receivers.{new_receiver}
use Rattle.run_parties.specs.Receptions.{PolledOf}
use Rattle.run_parties.specs.Tallies.{AreInOrder, Counted, IsTallyOf, count_of}
use Rattle.sender_meaning.proofs.StreamRows.{ab, is_stream, two}
use Rattle.channel_meaning.specs.Tallies.{TalliesAll}

-- two were tallied, so these are both
of_two : TalliesAll → (g : Geometry) (id : ℤ) (first core : Core) (acts : List CoreAct) → Represents first (new_receiver g id) → CoreLives first acts core → AllByRecursion (IsHonest two) (heard_in acts)
    → (t : Counted) → PolledOf core.image t 0 → 2 ≤ t.polled → IsTallyOf (abc ∷ ab ∷ []) t
of_two law g id first core acts new lives honest t polled many = law two is_stream refl refl g id first core acts new lives honest t polled many

-- without an image no message was refused
none_refused : (t : Counted) → PolledOf None t 1 → ⊥
none_refused t p = omega (arith, p.1)

-- ---- tallies: of the first publisher's messages 0 and 1, and the second's message 0

abbrev first : List ℕ
first = message_of 8 0 0

abbrev next : List ℕ
next = message_of 8 0 1

abbrev other : List ℕ
other = message_of 8 1 0

in_order : AreInOrder (first ∷ other ∷ next ∷ [])
in_order zero low = record { whole = omega arith; known = omega arith; next = refl }
in_order (suc zero) low = record { whole = omega arith; known = omega arith; next = refl }
in_order (suc (suc zero)) low = record { whole = omega arith; known = omega arith; next = refl }
in_order (suc (suc (suc k))) low = absurd (omega (arith, low))

turned : AreInOrder (next ∷ first ∷ []) → ⊥
turned all = let at_first = all 0 (omega arith) in omega (arith, at_first.next)

twice : AreInOrder (first ∷ first ∷ []) → ⊥
twice all = let again = all 1 (omega arith) in omega (arith, again.next)

tallied : IsTallyOf (first ∷ other ∷ next ∷ []) (record { polled = 3; kept = true; counts = 2 ∷ 1 ∷ 0 ∷ 0 ∷ 0 ∷ 0 ∷ 0 ∷ 0 ∷ [] })
tallied = record { many = refl; order = (λ kept. in_order, λ all. refl); counts = λ kept. counts }
  where
    counts : (publisher : ℕ) → publisher < 8 → slice_index (2 ∷ 1 ∷ 0 ∷ 0 ∷ 0 ∷ 0 ∷ 0 ∷ 0 ∷ []) publisher ≡ count_of publisher (first ∷ other ∷ next ∷ [])
    counts zero low = refl
    counts (suc zero) low = refl
    counts (suc (suc zero)) low = refl
    counts (suc (suc (suc zero))) low = refl
    counts (suc (suc (suc (suc zero)))) low = refl
    counts (suc (suc (suc (suc (suc zero))))) low = refl
    counts (suc (suc (suc (suc (suc (suc zero)))))) low = refl
    counts (suc (suc (suc (suc (suc (suc (suc zero))))))) low = refl
    counts (suc (suc (suc (suc (suc (suc (suc (suc n)))))))) low = absurd (omega (arith, low))

-- one less, and a broken order as kept, are none
one_less : (kept : Bool) (counts : List ℕ) → IsTallyOf (first ∷ other ∷ next ∷ []) (record { polled = 2; kept = kept; counts = counts }) → ⊥
one_less kept counts t = omega (arith, t.many)

kept_though_turned : (counts : List ℕ) → IsTallyOf (next ∷ first ∷ []) (record { polled = 2; kept = true; counts = counts }) → ⊥
kept_though_turned counts t = turned (t.order.0 refl)

broken_though_kept : (counts : List ℕ) → IsTallyOf (first ∷ other ∷ next ∷ []) (record { polled = 3; kept = false; counts = counts }) → ⊥
broken_though_kept counts t = let e = t.order.1 in_order in absurd (cc)
