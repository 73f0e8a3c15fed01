-- The words of the stream below where memory was taken back are cleaned one after the other: so many looks, in which no control word changes.
use Rattle.std.proofs.Common.{◌≡◌, ℕ, zero, suc, ◌+◌, ◌-◌, ◌*◌, ◌/◌, ◌%◌, ◌<◌, ◌≤◌, ⊎_elim, max, List, [], ◌∷◌, length, map, set, get_or-set_other, sym, refl, ap, ◌∙◌, subst, arith}
use mathlib.Core.Option.{some}
use lib.ListN.{get_elem?}
use Rattle.std.specs.Prelude.{slice_index}
use Rattle.std.proofs.lemmas.List.{map-set, set-get_or}
use Rattle.atomic_table.specs.Table.{Allows, keeps}
use Rattle.atomic_table.proofs.Lists.{at_map, at_set, set_again, set_here}
use Rattle.theory.specs.Placed.{Among}
use Rattle.theory.specs.Position.{greatest_claim}
use Rattle.theory.specs.Refusal.{limit_in}
use Rattle.publication.specs.declared.pass.Pass.{Pass}
use Rattle.publication.specs.Steps.{term_of}
use Rattle.log_rule.specs.declared.claims.view.View.{View}
use Rattle.log_rule.specs.declared.rule.Key.{Key}
use Rattle.log_rule.specs.Claims.Events.{IsLook}
use Rattle.log_rule.specs.Claims.Packs.{slot}
use Rattle.log_rule.specs.Claims.Sure.{LearnsControls}
use Rattle.log_rule.specs.Keepings.{CleansWord, MayClean, keeping, least_there, with_keeping}
use Rattle.log_rule.specs.Table.{LogRuled}
use Rattle.log_rule.proofs.Claimed.Eventful.{look as same_look}
use Rattle.log_rule.proofs.Cleaning as cleaning
use Rattle.log_memory.specs.declared.view.LogView.{LogView}
use Rattle.log_memory.specs.declared.view.Site.{Site}
use Rattle.log_memory.specs.Rule.{AreSmall, Board, IsBeyond, KnowsRoom, LogMemoryRuled, passes_of, shape, stream_state, term, view_in}
use Rattle.log_memory.specs.Steps.{CleansTo, IsIdle, MayCleanTo, Mine}
use Rattle.log_memory.proofs.Committing.{restep}
use Rattle.log_memory.proofs.Facts.{pass_at}
use Rattle.log_memory.proofs.Lifting.{passes_set, there_low, with_reader_on}
use Rattle.log_memory.proofs.Resting.{none_parked, parked_set, rests, still}
use Rattle.log_memory.proofs.Storing.{Became, set_twice}
use Rattle.log_rule.specs.Kept.{IsThere}

module _ (key : Key) (stream : List ℕ) (views : List View) (q : LogRuled key (record { words = stream; homes = []; views = views })) (small : AreSmall stream) (id : ℕ) (v : View) (at : get_elem? views id ≡ some v) (keeper : v.pass.keeping.right ≡ 1) where
  -- it is zero so far
  abbrev to : ℕ → Pass
  to c = with_keeping v.pass (record v.pass.keeping { cleaned = c })

  begin : Became key views id v (to v.pass.keeping.cleaned) stream stream
  begin = record {
    view = v;
    pass_is = refl;
    sure = refl;
    leads = λ _. refl;
    ruled = subst (λ (l : List View). LogRuled key (record { words = stream; homes = []; views = l })) (sym (set_again views id v at)) q;
    controls = λ i lt. refl;
    small = λ a. a;
  }

  step : (c : ℕ) (now : List ℕ) → Became key views id v (to c) now stream → c + 8 ≤ max v.pass.start (least_there v.pass.keeping.there v.pass.keeping.positions - term_of v.pass) → Became key views id v (to (c + 8)) (set now (slot key.identity.geometry c) 0) stream
  step c now b below =
      let u = b.view in let e = b.pass_is in let here = set_here views id u (there_low views id v at) in let i : ℕ = slot key.identity.geometry c in
      let may : MayClean u.pass = subst MayClean (sym e) record { keeper = keeper; below = below } in
      let same : slot key.identity.geometry u.pass.keeping.cleaned ≡ i = ap (λ (p : Pass). slot key.identity.geometry p.keeping.cleaned) e in
      let g = subst (λ (k : ℕ). Allows (LogRuled key) 0 id (u, []) k (λ _. 0) (λ _ m'. keeping (λ v w. LearnsControls [] v w) CleansWord (u, []) m')) same (cleaning.clean key 0 id (u, []) may) (record { words = now; homes = []; views = set views id u }) b.ruled refl here (b.small small i (omega arith)) in
      let told = g.4 in let r = g.3 in record {
        view = g.0;
        pass_is = told.3 ∙ ap (λ (p : Pass). with_keeping p (record p.keeping { cleaned = p.keeping.cleaned + 8 })) e;
        sure = told.2.sure ∙ b.sure;
        leads = λ one. told.2.leads (b.sure ∙ one) ∙ b.leads one;
        ruled = subst (λ (l : List View). LogRuled key (record { words = set now i 0; homes = []; views = l })) (set_twice views id u g.0) record { cleaned = r.cleaned; there = r.there; ruled = r.ruled; kept = r.kept; sure = r.sure; numbered = r.numbered };
        controls = λ j low. get_or-set_other now i j 0 0 (λ e. omega arith) ∙ b.controls j low;
        small = λ a j far. zero_set now i j (b.small a j far);
      }
    where
      zero_set : (xs : List ℕ) (i j : ℕ) → slice_index xs j < 18446744073709551616 → slice_index (set xs i 0) j < 18446744073709551616
      zero_set [] i j b = b
      zero_set (x ∷ xs) zero zero b = omega arith
      zero_set (x ∷ xs) zero (suc j) b = b
      zero_set (x ∷ xs) (suc i) zero b = b
      zero_set (x ∷ xs) (suc i) (suc j) b = zero_set xs i j b

  pub record Cleaned (end : ℕ) : Type 0 where
    pub now : List ℕ
    pub became : Became key views id v (with_keeping v.pass (record v.pass.keeping { cleaned = end })) now stream

  run : (k : ℕ) → v.pass.keeping.cleaned + 8 * k ≤ max v.pass.start (least_there v.pass.keeping.there v.pass.keeping.positions - term_of v.pass) → Cleaned (v.pass.keeping.cleaned + 8 * k)
  run zero below = subst Cleaned (let e : v.pass.keeping.cleaned ≡ v.pass.keeping.cleaned + 8 * 0 = omega arith in e) record { now = stream; became = begin }
  run (suc k) below = let r = run k (omega arith) in let c : ℕ = v.pass.keeping.cleaned + 8 * k in subst Cleaned (let e : c + 8 ≡ v.pass.keeping.cleaned + 8 * suc k = omega arith in e) record { now = set r.now (slot key.identity.geometry c) 0; became = step c r.now r.became (omega arith) }

  pub cleaned : (end : ℕ) → v.pass.keeping.cleaned ≤ end → (end - v.pass.keeping.cleaned) % 8 ≡ 0 → end ≤ max v.pass.start (least_there v.pass.keeping.there v.pass.keeping.positions - term_of v.pass) → Cleaned end
  cleaned end from unit below = let k : ℕ = (end - v.pass.keeping.cleaned) / 8 in let e : v.pass.keeping.cleaned + 8 * k ≡ end = omega arith in subst Cleaned e (run k (omega arith))

pub clean_to : (t : Site) (id i end : ℕ) (m : Mine) → MayCleanTo end m.0 → IsIdle m.0 → (slots : ℕ) → Allows (LogMemoryRuled t) slots id m i (λ n. n) (λ _ w. CleansTo end m w)
clean_to t id i end m may idle slots s r homes at small =
    let v = m.0 in let there = at_map view_in s.views id v at in let same : set s.words i (slice_index s.words i) ≡ s.words = set-get_or s.words i 0 in
    let c = cleaned t.key r.stream (map view_in s.views) r.ruled r.words.small id v.view there may.keeper end may.from may.unit may.below in let b = c.became in
    let w : LogView = record v { view = record b.view { steps = suc v.view.steps } } in
    let q : LogRuled t.key (stream_state c.now (set s.views id w)) = subst (λ (l : List View). LogRuled t.key (record { words = c.now; homes = []; views = l })) (sym (map-set view_in s.views id w)) (restep t.key c.now (map view_in s.views) id (suc v.view.steps) b.view (there_low (map view_in s.views) id v.view there) b.ruled) in
    let pass = pass_at s.views id v at in let e = b.pass_is in (
      w,
      keeps,
      tt,
      rests t s r (set s.words i (slice_index s.words i)) c.now (set s.views id w) record {
        ruled = q;
        look = still (passes_of s.views) (passes_of (set s.views id w)) (subst (IsLook (passes_of s.views)) (sym (passes_set s.views id w)) (same_look (passes_of s.views) id v.view.pass w.view.pass pass (ap (λ (p : Pass). p.right.claims) e) (ap (λ (p : Pass). p.work.frames) e)));
        long = ap length same;
        small = b.small r.words.small;
        controls = λ j lt. ap (λ (l : List ℕ). slice_index l j) same ∙ r.words.controls j lt ∙ sym (b.controls j lt);
        heads = λ j lt. ap (λ (l : List ℕ). slice_index l j) same;
        ahead = subst (λ (l : List ℕ). limit_in (slice_index l 0) + greatest_claim (shape t) * 8 < r.freed + 3 * term t) (sym same) r.memory.ahead;
        with_reader = with_reader_on s (set s.words i (slice_index s.words i)) id v w at idle;
        held = λ j x here has. ⊎_elim
            (λ a. absurd (clash v.part.has x.part.has (ap (λ (y : LogView). y.part.has) a.1) has idle.0))
            (λ a. r.memory.held j x a.1 has)
            (at_set s.views id j w x here);
        readers = λ j x y here among low. ⊎_elim
            (λ a. r.memory.readers id v y at (subst (Among y) (sym (ap (λ (z : LogView). z.view.pass.reading) a.1) ∙ ap (λ (p : Pass). p.reading) e) among) low)
            (λ a. r.memory.readers j x y a.1 among low)
            (at_set s.views id j w x here);
        keeper = λ j x here one. ⊎_elim
            (λ a. subst (KnowsRoom t (passes_of s.views) r.freed r.out) a.1 (own s r at b.view e))
            (λ a. r.memory.keeper j x a.1 one)
            (at_set s.views id j w x here);
        parked = parked_set t s s id w (none_parked t s w idle.1) (λ j x f ne here among. r.memory.parked j x f here among);
      },
      record { carried = refl; part = refl; room = refl; parked = refl; steps = refl; learns = record { sure = b.sure; leads = b.leads }; pass = e },
    )
  where
    clash : (a c : ℕ) → a ≡ c → c ≡ 1 → a ≡ 0 → ⊥
    clash a c e has none = omega arith

    own : (s : Board) (r : LogMemoryRuled t s) → get_elem? s.views id ≡ some m.0 → (w : View) → w.pass ≡ with_keeping m.0.view.pass (record m.0.view.pass.keeping { cleaned = end }) → KnowsRoom t (passes_of s.views) r.freed r.out (record m.0 { view = record w { steps = suc m.0.view.steps } })
    own s r at w same = let k = r.memory.keeper id m.0 at may.keeper in record {
      freed_is = k.freed_is;
      out_is = k.out_is;
      cleaned = subst (λ (x : Pass). x.keeping.cleaned ≤ r.freed) (sym same) (let a = may.freed in let f = k.freed_is in omega arith);
      seen = λ j there. subst (λ (x : Pass). IsBeyond t (passes_of s.views) (r.freed + r.out) (slice_index x.keeping.positions j)) (sym same) (k.seen j (subst (λ (x : Pass). IsThere x.keeping.there j) same there));
    }
