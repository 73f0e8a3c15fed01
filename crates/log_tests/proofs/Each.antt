-- The publishers of a log that was just opened are its own.
use Rattle.std.proofs.Common.{◌≡◌, ℕ, zero, suc, ◌<◌, List, [], ◌∷◌, length, slice_index_or, sym, ap, ◌∙◌, subst, arith}
use Rattle.publication.specs.declared.pass.Pass.{Pass}
use Rattle.shared_log.specs.Handles.{AreNew, IsNew}
use Rattle.shared_log.specs.Steps.Handles.{IsOf, LogValue, PublisherValue}
use Rattle.shared_log.specs.Steps.Meets.{IsBack}
use Rattle.log_tests.specs.Stays.{IsRested, Stays}

pub each_of : (l : LogValue) (n : ℕ) (ps : List PublisherValue) → AreNew l n ps → (i : ℕ) (x : PublisherValue) → i < length ps → x ≡ slice_index_or ps i x → IsOf l x
each_of l n [] new i x low e = absurd (omega arith)
each_of l n (p ∷ ps) new zero x low e = subst (IsOf l) (sym e) new.0.of
each_of l n (p ∷ ps) new (suc i) x low e = each_of l (suc n) ps new.1 i x (omega arith) e

-- ---- publishers that meet

pub new_rests : (l : LogValue) (n : ℕ) (p : PublisherValue) → IsNew l n p → IsRested l p
new_rests l n p new = record { idle = record { of = new.of; unarmed = ap (λ (v : Pass). v.right.armed) new.pass }; keeping = ap (λ (v : Pass). v.keeping) new.pass }

pub rests_on : (l : LogValue) (p q : PublisherValue) → IsRested l p → Stays l p q → IsRested l q
rests_on l p q r s = record { idle = record { of = s.of; unarmed = s.idle r.idle.unarmed }; keeping = s.keeping ∙ r.keeping }

pub back_rests : (l : LogValue) (p q : PublisherValue) (position : ℕ) → IsRested l p → IsBack p q position → IsRested l q
back_rests l p q position r b = record {
  idle = record {
    of = record { table = b.of ∙ r.idle.of.table; identity = ap (λ (v : Pass). v.identity) b.pass ∙ r.idle.of.identity; start = ap (λ (v : Pass). v.start) b.pass ∙ r.idle.of.start };
    unarmed = ap (λ (v : Pass). v.right.armed) b.pass ∙ r.idle.unarmed;
  };
  keeping = ap (λ (v : Pass). v.keeping) b.pass ∙ r.keeping;
}
