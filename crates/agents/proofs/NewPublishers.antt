-- The publishers of a log that was just opened.
use Rattle.std.proofs.Common.{◌≡◌, ℕ, suc, List, [], ◌∷◌, subst, sym, ap, arith}
use Rattle.std.specs.Prelude.{slice_index_or}
use Rattle.std.specs.List.{AllByRecursion}
use Rattle.publication.specs.declared.pass.Pass.{Pass}
use Rattle.shared_log.specs.Steps.Handles.{LogValue, PublisherValue}
use Rattle.shared_log.specs.Handles.{AreNew}
use Rattle.shared_log.specs.Books.{IsDone}

-- they have nothing open
pub are_done : (l : LogValue) (n : ℕ) (ps : List PublisherValue) → AreNew l n ps → AllByRecursion (IsDone l) ps
are_done l n [] new = tt
are_done l n (p ∷ ps) new = (
  record { idle = record { of = new.0.of; unarmed = ap (λ (v : Pass). v.right.armed) new.0.pass }; ended = ap (λ (v : Pass). v.work.drafts) new.0.pass },
  are_done l (suc n) ps new.1,
)

pub first_done : (l : LogValue) (ps : List PublisherValue) (p : PublisherValue) → AreNew l 0 ps → p ≡ slice_index_or ps 0 p → IsDone l p
first_done l [] p new is = let e : 0 ≡ 8 = new in absurd (omega arith)
first_done l (x ∷ ps) p new is = subst (IsDone l) (sym is) (are_done l 0 (x ∷ ps) new).0
