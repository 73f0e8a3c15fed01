-- What may be cleaned, and how far the limit may be raised.
use Rattle.std.proofs.Common.{◌≡◌, ℕ, ◌+◌, ◌*◌, ◌/◌, ◌%◌, ◌<◌, ◌≤◌, sym, refl, ap, ◌∙◌, subst, arith}
use Rattle.theory.specs.Position.{Geometry, IsGeometry, greatest_claim}
use Rattle.theory.specs.Refusal.{limit_in}
use Rattle.theory.proofs.Claims.{claim_bounded}
use Rattle.theory.proofs.Places.{power_half}
use Rattle.publication.specs.Steps.{geometry_of}
use Rattle.log_rule.specs.Keepings.{MayRaise, with_keeping}
use Rattle.shared_log.specs.Keepers.{IsKeeping, KeepsAs, KeeperValue, KnowsLimit, MayRaiseFrom, with_cleaned}

-- ---- the limit is raised

raised_in : (p h : ℕ) → p % 32 ≡ 0 → h % 32 ≡ 0 → limit_in (p + h + 1) ≡ p + h
raised_in p h a d = omega arith

half_unit : (t : ℕ) → t % 64 ≡ 0 → t / 2 % 32 ≡ 0
half_unit t e = omega arith

-- half a term above the least consumer, if that is further
pub may_raise : (k : KeeperValue) (g : Geometry) (least word : ℕ) → IsGeometry g → IsKeeping k.held.pass k.limit k.cleaned → geometry_of k.held.pass ≡ g → MayRaiseFrom k least → word ≡ least + g.term_length / 2 + 1 → k.limit / 4 * 4 < least + g.term_length / 2 → MayRaise k.held.pass word
may_raise k g least word is keeps same may e lt =
    let h : g.term_length / 2 % 32 ≡ 0 = half_unit g.term_length (power_half g.term_length is.term.power is.term.least) in
    let limit : limit_in word ≡ least + g.term_length / 2 = ap limit_in e ∙ raised_in least (g.term_length / 2) may.stands.unit h in
    let bound : greatest_claim g ≤ g.term_length / 7 + 63 = (claim_bounded g 0 is (omega arith)).1 in let is_limit = keeps.limit_is in
    let clean : least ≤ k.cleaned + g.term_length = subst (λ (x : Geometry). least ≤ k.cleaned + x.term_length) same may.clean in
    let some = is.term.least in record {
      keeper = keeps.keeper;
      rises = rise (limit_in k.held.pass.keeping.limit) (k.limit / 4 * 4) (least + g.term_length / 2) (limit_in word) (ap limit_in is_limit) lt limit;
      clean = λ _. subst (λ (x : ℕ × Geometry). limit_in word + greatest_claim x.1 * 8 < x.0 + 3 * x.1.term_length) (λ i. (sym keeps.cleaned_is i, sym same i)) (room (limit_in word) least k.cleaned g.term_length (greatest_claim g) limit bound clean some);
    }
  where
    rise : (a b c d : ℕ) → a ≡ b → b < c → d ≡ c → a ≤ d
    rise a b c d e lt f = omega arith

    room : (w least c t g : ℕ) → w ≡ least + t / 2 → g ≤ t / 7 + 63 → least ≤ c + t → 65536 ≤ t → w + g * 8 < c + 3 * t
    room w least c t g e b le some = omega arith

-- ---- a word is cleaned

-- nothing is cleaned yet
pub cleans_none : (k : KeeperValue) → IsKeeping k.held.pass k.limit k.cleaned → KnowsLimit k → KeepsAs k (with_cleaned k.cleaned k) k
cleans_none k is knows = record {
  of = refl;
  seat = refl;
  pass = ap (λ (n : ℕ). with_keeping k.held.pass (record k.held.pass.keeping { cleaned = n })) is.cleaned_is;
  sure = refl;
  controls = λ one. ap (λ (n : ℕ). record k.held.controls { limit = n }) (knows one ∙ sym is.limit_is);
  limit = sym is.limit_is;
  cleaned = refl;
}
