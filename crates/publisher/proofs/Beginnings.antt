-- The first publisher of a log that was just opened, and an input of which nothing was taken yet.
use Rattle.std.proofs.Common.{◌≡◌, ◌∙◌, ◌==◌, ◌+◌, ◌*◌, ℕ, suc, nat_eq, List, [], ◌∷◌, Option, None, Some, if◌then◌else◌, refl, sym, subst, arith}
use Rattle.std.specs.Prelude.{remove, slice_index_or}
use Rattle.std.specs.List.{AllByRecursion}
use Rattle.std.proofs.lemmas.Bool.Decides.{nat_tests}
use Rattle.std.specs.Io.Buffered.{reader_buffer, reader_capacity, reader_inner, reader_remaining}
use Rattle.std.specs.Io.KnownBytes.{prepend_known}
use Rattle.std.specs.declared.io.buffered.BufReader.{BufReader}
use Rattle.shared_log.specs.Steps.Handles.{LogValue, PublisherValue, parts_in}
use Rattle.log_rule.specs.Claims.Sums.{total}
use Rattle.shared_log.specs.Handles.{AreNew, IsNew}
use Rattle.shared_log.specs.Keepers.{KeeperValue}
use Rattle.shared_log.specs.Parts.{IsNewKeeper}
use Rattle.agents.proofs.NewPublishers.{are_done}
use Rattle.publisher.specs.Openings.{AreOthers, HasNone, IsKept}

pub first_new : (l : LogValue) (ps : List PublisherValue) (p : PublisherValue) → AreNew l 0 ps → p ≡ slice_index_or ps 0 p → IsNew l 0 p
first_new l [] p new is = let e : 0 ≡ 8 = new in let none : ⊥ = omega (arith, e) in absurd none
first_new l (x ∷ ps) p new is = subst (IsNew l 0) (sym is) new.0

-- ---- the others

not_first : (n a b : ℕ) → (if nat_eq (suc n) 0 then a else b) ≡ b
not_first n a b = grind (arith, nat_tests)

later_parts : (l : LogValue) (n : ℕ) (ps : List PublisherValue) → AreNew l (suc n) ps → total parts_in ps + 120 * suc n ≡ 960
later_parts l n [] new = let e : suc n ≡ 8 = new in omega arith
later_parts l n (p ∷ ps) new =
    let e : parts_in p ≡ 120 = (λ i. (new.0.pass i).right.parts) ∙ not_first n 176 120 in
    let r = later_parts l (suc n) ps new.1 in
    omega arith

unclaimed : (l : LogValue) (n : ℕ) (ps : List PublisherValue) → AreNew l n ps → AllByRecursion HasNone ps
unclaimed l n [] new = tt
unclaimed l n (p ∷ ps) new = (((λ i. (new.0.pass i).right.claims), (λ i. (new.0.pass i).work.frames)), unclaimed l (suc n) ps new.1)

pub others_new : (l : LogValue) (ps rest : List PublisherValue) → AreNew l 0 ps → rest ≡ remove ps 0 → AreOthers l rest
others_new l [] rest new is = let e : 0 ≡ 8 = new in let none : ⊥ = omega (arith, e) in absurd none
others_new l (x ∷ ps) rest new is =
    subst (AreOthers l) (sym is) (record { done = are_done l 1 ps new.1; unclaimed = unclaimed l 1 ps new.1; parts = (let e = later_parts l 0 ps new.1 in omega (arith, e)) })

pub new_kept : (l : LogValue) (k : KeeperValue) → IsNewKeeper l k → IsKept l k
new_kept l k new = record {
  done = record { idle = record { of = new.held.of; unarmed = λ i. (new.held.pass_is i).right.armed }; ended = λ i. (new.held.pass_is i).work.drafts };
  unclaimed = λ i. (new.held.pass_is i).right.claims;
  parts = λ i. (new.held.pass_is i).right.parts;
}

none_before : (o : Option (List ℕ)) → prepend_known [] o ≡ o
none_before None = refl
none_before (Some bytes) = refl

-- with nothing in its buffer a reader has what is behind it
pub unbuffered : {T A : Type 0} (remaining : T → Option (List ℕ)) (r : BufReader T A) (input : T) → reader_inner r ≡ input → reader_buffer r ≡ [] → reader_capacity r ≡ 8192 → reader_remaining remaining r ≡ remaining input
unbuffered {T} {A} remaining r input inner buffer capacity =
    let e : reader_remaining remaining r ≡ prepend_known [] (remaining input) = λ j. if capacity j == 0 then None else prepend_known (buffer j) (remaining (inner j)) in
    e ∙ none_before (remaining input)
