-- Rows: when all of an input has arrived. The stream begins at 0, and its messages end at 64.
use Rattle.std.specs.Prelude.{◌≡◌, ℕ, true, false, [], ◌∷◌, None, Some, Result, Ok, Err}
use Rattle.std.proofs.Common.{pos, ap, refl, sym, ◌∙◌}
use Rattle.peer.specs.Attending.{after_all, nobody}
use Rattle.peer.specs.Endings.{is_whole}
use Rattle.peer.specs.declared.attendance.Attendance.{Attendance}
use Rattle.publisher.specs.declared.offering.reading.ReadingFault.{ReadingFault}
use Rattle.publisher.specs.declared.offering.reading.Reading.{Reading}
use Rattle.publisher.specs.declared.offering.reading.ReadingEnd.{ReadingEnd}
use Rattle.publisher.specs.declared.offering.reading.ReadingEnd.TheVariants.{All, Stopped}
use Rattle.publisher.specs.Ended.{AllArrived, HasArrived}

-- a receiver told its positions
abbrev one : ℕ → ℕ → Attendance
one first last = after_all (nobody 0) ((pos 1, first) ∷ (pos 1, last) ∷ [])

-- and then another did
abbrev two : Attendance
two = after_all (nobody 0) ((pos 1, 0) ∷ (pos 2, 0) ∷ (pos 2, 64) ∷ [])

-- where the input was read to its end, and one receiver told its positions from the start to there
arrived : (r : Reading) → r.ended ≡ Ok All → r.offered.tail ≡ 64 → HasArrived r (one 0 64)
arrived r all tail = record { all = all; heard = ap (λ (n : ℕ). is_whole (one 0 64) (Some n)) tail }

-- or no message was accepted
nothing_to_arrive : (r : Reading) → r.ended ≡ Ok All → r.offered.tail ≡ 0 → HasArrived r (nobody 0)
nothing_to_arrive r all tail = record { all = all; heard = ap (λ (n : ℕ). is_whole (nobody 0) (Some n)) tail }

-- a reading that was stopped has not arrived, nor one that a fault ended
stopped : (r : Reading) (a : Attendance) → r.ended ≡ Ok Stopped → HasArrived r a → ⊥
stopped r a ended h = no (sym ended ∙ h.all)
  where
    no : ◌≡◌ {A = Result ReadingEnd ReadingFault} (Ok Stopped) (Ok All) → ⊥
    no e = absurd (cc)

failed : (r : Reading) (a : Attendance) (fault : ReadingFault) → r.ended ≡ Err fault → HasArrived r a → ⊥
failed r a fault ended h = no (sym ended ∙ h.all)
  where
    no : ◌≡◌ {A = Result ReadingEnd ReadingFault} (Err fault) (Ok All) → ⊥
    no e = absurd (cc)

-- nor where nobody told where the messages end
unheard : (a : Attendance) → is_whole a (Some 64) ≡ false → (r : Reading) → r.offered.tail ≡ 64 → HasArrived r a → ⊥
unheard a not r tail h = no (sym not ∙ sym (ap (λ (n : ℕ). is_whole a (Some n)) tail) ∙ h.heard)
  where
    no : false ≡ true → ⊥
    no e = absurd (cc)

nobody_heard : (r : Reading) → r.offered.tail ≡ 64 → HasArrived r (nobody 0) → ⊥
nobody_heard r tail h = unheard (nobody 0) refl r tail h

-- nor where the one that was heard joined late, or told less
joined_late : (r : Reading) → r.offered.tail ≡ 64 → HasArrived r (one 32 64) → ⊥
joined_late r tail h = unheard (one 32 64) refl r tail h

told_less : (r : Reading) → r.offered.tail ≡ 64 → HasArrived r (one 0 32) → ⊥
told_less r tail h = unheard (one 0 32) refl r tail h

-- nor where another was heard
another_came : (r : Reading) → r.offered.tail ≡ 64 → HasArrived r two → ⊥
another_came r tail h = unheard two refl r tail h

-- nor where the reading didn't end
unended : (a : Attendance) → AllArrived None a → ⊥
unended a h = h
