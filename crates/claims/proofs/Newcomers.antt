-- The publishers of a log that was just opened.
use Rattle.std.proofs.Common.{ℕ, suc, List, [], ◌∷◌, ap}
use Rattle.std.specs.List.{AllByRecursion}
use Rattle.publication.specs.declared.pass.Pass.{Pass}
use Rattle.shared_log.specs.Steps.Handles.{IsOf, LogValue, PublisherValue}
use Rattle.shared_log.specs.Handles.{AreNew}
use Rattle.claims.specs.Holdings.{IsResting}

pub new_of : (l : LogValue) (n : ℕ) (ps : List PublisherValue) → AreNew l n ps → AllByRecursion (IsOf l) ps
new_of l n [] new = tt
new_of l n (p ∷ ps) new = (new.0.of, new_of l (suc n) ps new.1)

pub new_rest : (l : LogValue) (n : ℕ) (ps : List PublisherValue) → AreNew l n ps → AllByRecursion IsResting ps
new_rest l n [] new = tt
new_rest l n (p ∷ ps) new = (record { unarmed = ap (λ (v : Pass). v.right.armed) new.0.pass; ended = ap (λ (v : Pass). v.work.drafts) new.0.pass }, new_rest l (suc n) ps new.1)
