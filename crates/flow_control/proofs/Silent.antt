-- One that is silent doesn't count.
use Rattle.std.proofs.Common.{◌≡◌, ◌∙◌, ⊎_elim, ℕ, zero, suc, ◌<◌, List, Bool, true, false, Option, None, Some, length, refl, sym, ap, subst}
use Rattle.std.specs.Prelude.{slice_set, if◌then◌else◌}
use Rattle.std.proofs.lemmas.Bool.{cases_eq}
use Rattle.std.proofs.lemmas.List.{get_or-set_other, get_or-set_same}
use Rattle.theory.specs.GroupLimit.{least_or}
use Rattle.flow_control.specs.Group.{best_of, is_live, least_live, member_at, with_member}
use Rattle.flow_control.specs.Laws.{SilentOnesDontCount}
use Rattle.flow_control.specs.declared.least.Member.{Member}

-- the least with one more, by whether that is live
abbrev counted : Bool → ℕ → Option ℕ → Option ℕ
counted live best least = if live then least_or best least else least

silent_adds_nothing : (now : ℕ) (m : Option Member) (least : Option ℕ) → is_live now m ≡ false → with_member now m least ≡ least
silent_adds_nothing now m least silent = ap (λ (live : Bool). counted live (best_of m) least) silent

pub dont_count : SilentOnesDontCount
dont_count zero now r members low silent = refl
dont_count (suc n) now r members low silent =
    let rest = dont_count n now r members low silent in
    ⊎_elim
    (λ (e : n ≡ r).
    let here : is_live now (member_at members n) ≡ false = ap (λ k. is_live now (member_at members k)) e ∙ silent in
    let gone : member_at (slice_set members r None) n ≡ None = ap (member_at (slice_set members r None)) e ∙ get_or-set_same members r None None low in
    silent_adds_nothing now (member_at members n) (least_live n now members) here
    ∙ rest
    ∙ sym (ap (λ m. with_member now m (least_live n now (slice_set members r None))) gone))
    (λ (d : n ≡ r → ⊥).
    let same : member_at (slice_set members r None) n ≡ member_at members n = get_or-set_other members r n None None d in
    ap (with_member now (member_at members n)) rest
    ∙ sym (ap (λ m. with_member now m (least_live n now (slice_set members r None))) same))
    (cases_eq n r)
