-- What a reader has read was committed.
use Rattle.std.proofs.Common.{ℕ, zero, suc, List, [], ◌∷◌, inl, inr, refl}
use Rattle.std.specs.List.{AllByRecursion}
use Rattle.theory.specs.Placed.{Among}
use Rattle.publication.specs.declared.pass.FrameWords.{FrameWords}
use Rattle.publication.specs.declared.pass.Reading.{Reading}
use Rattle.log_rule.proofs.Saying.{rule_says}
use Rattle.shared_log.specs.Readers.{known_at}
use Rattle.log_messages.specs.Law.{ReadIsCommitted}

at_place : (P : FrameWords → Type 0) (rs : List Reading) (place : ℕ) → ((r : Reading) → Among r rs → AllByRecursion P r.known) → AllByRecursion P (known_at rs place)
at_place P [] place each = tt
at_place P (r ∷ rs) zero each = each r (inl refl)
at_place P (r ∷ rs) (suc place) each = at_place P rs place (λ x a. each x (inr a))

pub read_is_committed : ReadIsCommitted
read_is_committed m key s i ruled at = at_place _ m.reader.held.pass.reading m.reader.place (λ r a. (rule_says key s ruled).known i m.reader.held.pass r at a)
