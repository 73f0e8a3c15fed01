-- The steps of a publisher keep the whole rule.
use Rattle.std.proofs.Common.{◌≡◌, ◌≢◌, ◌⊎◌, ℕ, suc, ◌+◌, ◌*◌, ◌<◌, ◌≤◌, List, map, length, set, get_or-set_other, sym, refl, ap, ◌∙◌, subst, arith}
use Rattle.std.specs.Prelude.{slice_index}
use Rattle.std.proofs.lemmas.List.{map-set, set-get_or}
use Rattle.atomic_table.specs.Table.{Allows, keeps}
use Rattle.atomic_table.proofs.Lists.{at_map}
use Rattle.publication.specs.declared.pass.Controls.{Controls}
use Rattle.publication.specs.declared.pass.Pass.{Pass}
use Rattle.publication.specs.declared.step.WordStep.{WordStep}
use Rattle.publication.specs.Controls.{Leads}
use Rattle.log_rule.specs.declared.claims.view.View.{View}
use Rattle.log_rule.specs.Claims.Packs.{consumer_place, limit_place}
use Rattle.log_rule.specs.Claims.Rule.{Bounds}
use Rattle.log_rule.specs.Claims.Memory.{Ruled}
use Rattle.log_rule.specs.Claims.Admits.{Same}
use Rattle.log_rule.specs.Claims.Events.{Eventful}
use Rattle.log_rule.specs.Claims.Sure.{LearnsControls, controls_in}
use Rattle.log_rule.specs.Claims.Plays.{Mine, pass_in}
use Rattle.log_rule.proofs.Claimed.Sures.{Leaves, Turns, sure_on}
use Rattle.log_rule.specs.declared.rule.Key.{Key}
use Rattle.log_rule.specs.Kept.{Kept}
use Rattle.log_rule.specs.Table.{LogRuled, now_at}
use Rattle.log_rule.specs.Numbers.{AreNumbered}
use Rattle.log_rule.proofs.Growing.{Spared, grows, kept_on}
use Rattle.log_rule.proofs.Owning.{Goes, numbered_on}

-- a step that leaves the limit word and the consumers' positions
abbrev pub Spares : ℕ → (ℕ → ℕ) → Type 0
Spares i f = (words : List ℕ) → Spared words (set words i (f (slice_index words i)))

pub load_spares : (i : ℕ) → Spares i (λ n. n)
load_spares i words = record {
  limit = ap (λ (l : List ℕ). slice_index l limit_place) (set-get_or words i 0);
  consumers = λ j lt. ap (λ (l : List ℕ). slice_index l (consumer_place j)) (set-get_or words i 0);
}

-- one elsewhere
pub other_spares : (i : ℕ) (f : ℕ → ℕ) → i ≢ 0 → ((j : ℕ) → j < 8 → i ≢ j * 16 + 80) → Spares i f
other_spares i f ne far words = record {
  limit = get_or-set_other words i 0 (f (slice_index words i)) 0 (λ e. ne (sym e));
  consumers = λ j lt. get_or-set_other words i (j * 16 + 80) (f (slice_index words i)) 0 (λ e. far j lt (sym e));
}

wide : (key : Key) (word cleaned : ℕ) (ws : List ℕ) (ps : List Pass) → Ruled (now_at key word cleaned) ws ps → 208 ≤ length ws
wide key word cleaned ws ps r = let e = r.claims.wide in omega arith

pub lifted : (key : Key) (slots id i : ℕ) (m : Mine) (f : ℕ → ℕ) (told : ℕ → Pass → Type 0) (noted : ℕ → List WordStep) → Turns i f noted → (0 < m.0.pass.right.parts) ⊎ Leaves i f → Spares i f → ((n : ℕ) (w : Pass) → told n w → Goes m.0.pass w) → ((b : Bounds) → Eventful b id m.0.pass i f told)
    → Allows (LogRuled key) slots id m i f (λ n m'. (m'.1 ≡ m.1) × (m'.0.steps ≡ suc m.0.steps) × Same m.0.pass m'.0.pass × LearnsControls (noted n) m.0 m'.0 × told n m'.0.pass)
lifted key slots id i m f told noted turns may spares own go s r homes at small =
    let ws : List ℕ = s.words in let n : ℕ = slice_index ws i in let v : View = m.0 in let mine = r.sure.each id v at in let ps : List Pass = map pass_in s.views in
    let b : Bounds = now_at key (slice_index ws limit_place) r.cleaned in let ws' : List ℕ = set ws i (f n) in
    let here = at_map pass_in s.views id v at in
    let g = go b ws ps r.ruled here in let spared = spares ws in
    let after : Controls = controls_in ws' in let w : View = record { pass = g.0; steps = suc v.steps; controls = after; sure = v.sure } in
    let is : map pass_in (set s.views id w) ≡ set ps id g.0 = map-set pass_in s.views id w in
    let kept : Kept b r.there ws' (set ps id g.0) = kept_on b r.there ws ws' ps id v.pass g.0 here g.2 (grows b ws ws' ps (set ps id g.0) r.ruled g.1 g.4) spared r.kept in (
      w,
      keeps,
      tt,
      record {
        cleaned = r.cleaned;
        there = r.there;
        ruled = subst (λ (x : ℕ × List Pass). Ruled (now_at key x.0 r.cleaned) ws' x.1) (λ j. (sym spared.limit j, sym is j)) g.1;
        kept = subst (λ (x : ℕ × List Pass). Kept (now_at key x.0 r.cleaned) r.there ws' x.1) (λ j. (sym spared.limit j, sym is j)) kept;
        sure = sure_on b ws s.views r.ruled r.sure id v w at i f may record { whole = λ one. g.2.parts ∙ mine.whole one; exact = λ _. refl };
        numbered = subst AreNumbered (sym is) (numbered_on ps id v.pass g.0 here (own n g.0 g.3) r.numbered);
      },
      (
        refl,
        refl,
        g.2,
        record { sure = refl; leads = λ one. subst (λ (c : Controls). Leads c (noted n) after) (sym (mine.exact one)) (turns ws (wide key (slice_index ws limit_place) r.cleaned ws ps r.ruled)) },
        g.3,
      ),
    )
