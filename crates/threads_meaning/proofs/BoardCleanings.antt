-- Where a log that runs knows that all is zero up to a position, the words of its stream are cleaned one after the other.
use Rattle.std.proofs.Common.{◌≡◌, ℕ, zero, suc, ◌+◌, ◌-◌, ◌*◌, ◌/◌, ◌<◌, ◌≤◌, max, List, [], ◌∷◌, map, replicate, set, get_or-set_other, sym, refl, ap, ◌∙◌, subst, arith}
use mathlib.Core.Option.{some}
use lib.ListN.{get_elem?}
use Rattle.std.specs.Prelude.{slice_index}
use Rattle.std.proofs.lemmas.List.{map-set}
use Rattle.atomic_table.specs.Table.{State}
use Rattle.atomic_table.proofs.Lists.{at_map, set_here}
use Rattle.publication.specs.declared.pass.Pass.{Pass}
use Rattle.publication.specs.Steps.{geometry_of, term_of}
use Rattle.log_rule.specs.declared.claims.view.View.{View}
use Rattle.log_rule.specs.declared.rule.Key.{Key}
use Rattle.log_rule.specs.Claims.Packs.{slot}
use Rattle.log_rule.specs.Claims.Plays.{pass_in}
use Rattle.log_rule.specs.Keepings.{CleansWord, MayClean, least_there, with_keeping}
use Rattle.log_rule.specs.Lookings.{Looking, OthersAreLooks}
use Rattle.log_rule.specs.Table.{LogRuled}
use Rattle.log_memory.specs.declared.view.Site.{Site}
use Rattle.log_memory.specs.Law.{StepsKeep}
use Rattle.log_memory.specs.Rule.{AreSmall, Board, passes_of, view_in}
use Rattle.log_memory.specs.Steps.{CleansTo, IsIdle, MayCleanTo, Mine}
use Rattle.log_memory.proofs.Lifting.{passes_set, there_low}
use Rattle.log_memory.proofs.Storing.{set_twice}
use Rattle.model.specs.Log.{Clean}
use Rattle.threads_meaning.specs.Law.{Steps}
use Rattle.threads_meaning.specs.Running.{CleansUpTo, Happen, Makes, Means, cleanings, stream_of}
use Rattle.threads_meaning.specs.Steps.{StepCleans}
use Rattle.threads_meaning.proofs.Boards.{load_same, looked, made}
use Rattle.threads_meaning.proofs.Looking.{Controls}

-- a word that is zero then is small, and so are the others
zero_small : (xs : List ℕ) (i : ℕ) → AreSmall xs → AreSmall (set xs i 0)
zero_small xs i small j far = go xs i j (small j far)
  where
    go : (xs : List ℕ) (i j : ℕ) → slice_index xs j < 18446744073709551616 → slice_index (set xs i 0) j < 18446744073709551616
    go [] i j b = b
    go (x ∷ xs) zero zero b = omega arith
    go (x ∷ xs) zero (suc j) b = b
    go (x ∷ xs) (suc i) zero b = b
    go (x ∷ xs) (suc i) (suc j) b = go xs i j b

module _ (looks : OthersAreLooks) (key : Key) (gone : List ℕ) (id : ℕ) (v : Pass) (keeper : v.keeping.right ≡ 1) where
  -- the pass, when all is zero so far
  abbrev to : ℕ → Pass
  to c = with_keeping v (record v.keeping { cleaned = c })

  abbrev least : ℕ
  least = least_there v.keeping.there v.keeping.positions

  abbrev bound : ℕ
  bound = max v.start (least - term_of v)

  -- one word more
  one : (s t : State (Unit {0}) View) (c : ℕ) → get_elem? (map pass_in s.views) id ≡ some (to c) → c + 8 ≤ bound → map pass_in t.views ≡ set (map pass_in s.views) id (to (c + 8)) → Controls t.words s.words → StepCleans s least t
  one s t c at below passes same = record {
    id = id;
    v = to c;
    may = record { keeper = keeper; below = below };
    least_is = refl;
    turn = record {
      at = at;
      after = to (c + 8);
      words = λ j lt. same j lt ∙ sym (get_or-set_other s.words (slot (geometry_of v) c) j 0 0 (λ e. omega arith));
      passes = passes;
      told = refl;
    };
  }

  -- each from a state that the rule holds of, to the last
  run : (t : State (Unit {0}) View) → LogRuled key t → (n c : ℕ) (s : State (Unit {0}) View) (u : View) → LogRuled key s → AreSmall s.words → get_elem? s.views id ≡ some u → u.pass ≡ to c → c + 8 * suc n ≤ bound → map pass_in t.views ≡ set (map pass_in s.views) id (to (c + 8 * suc n)) → Controls t.words s.words
      → Steps key gone s (replicate (suc n) (Clean least)) t gone
  run t q' zero c s u q small at e below passes same = (t, gone, q', (refl, one s t c (at_map pass_in s.views id u at ∙ ap some e) (omega arith) (passes ∙ ap (λ (x : ℕ). set (map pass_in s.views) id (to x)) (let y : c + 8 * 1 ≡ c + 8 = omega arith in y)) same), (refl, refl))
  run t q' (suc n) c s u q small at e below passes same =
      let i : ℕ = slot key.identity.geometry c in
      let may : MayClean u.pass = subst MayClean (sym e) record { keeper = keeper; below = omega arith } in
      let i_is : slot key.identity.geometry u.pass.keeping.cleaned ≡ i = ap (λ (p : Pass). slot key.identity.geometry p.keeping.cleaned) e in
      let g = subst (λ (k : ℕ). Looking key id u k (λ _. 0) (λ _ w. CleansWord u.pass w)) i_is (looks.clean key id u may) s q at (small i (omega arith)) in
      let w : View = g.0 in let x : State (Unit {0}) View = record { words = set s.words i 0; homes = s.homes; views = set s.views id w } in
      let w_is : w.pass ≡ to (c + 8) = g.2 ∙ ap (λ (p : Pass). with_keeping p (record p.keeping { cleaned = p.keeping.cleaned + 8 })) e in
      let x_passes : map pass_in x.views ≡ set (map pass_in s.views) id (to (c + 8)) = map-set pass_in s.views id w ∙ ap (set (map pass_in s.views) id) w_is in
      let x_same : Controls x.words s.words = λ j lt. get_or-set_other s.words i j 0 0 (λ z. omega arith) in
      let far : c + 8 * suc (suc n) ≡ c + 8 + 8 * suc n = omega arith in (
        x,
        gone,
        g.1,
        (refl, one s x c (at_map pass_in s.views id u at ∙ ap some e) (omega arith) x_passes x_same),
        run t q' n (c + 8) x w g.1 (zero_small s.words i small) (set_here s.views id w (there_low s.views id u at)) w_is (omega arith)
            (passes ∙ ap (λ (y : ℕ). set (map pass_in s.views) id (to y)) far ∙ sym (set_twice (map pass_in s.views) id (to (c + 8)) (to (c + 8 + 8 * suc n))) ∙ ap (λ (l : List Pass). set l id (to (c + 8 + 8 * suc n))) (sym x_passes))
            (λ j lt. same j lt ∙ sym (x_same j lt)),
      )

module _ (looks : OthersAreLooks) (k : StepsKeep) (t : Site) (gone : List ℕ) (id i end : ℕ) (m : Mine) (may : MayCleanTo end m.0) (idle : IsIdle m.0) where
  abbrev v : Pass
  v = m.0.view.pass

  abbrev tells : ℕ → Mine → Type 0
  tells n w = CleansTo end m w

  cleans : (s s' : Board) (y : Makes t s id m i (λ n. n) tells s') (n : ℕ) → v.keeping.cleaned + 8 * n ≡ end → Happen t gone s (cleanings (least_there v.keeping.there v.keeping.positions) n) s' gone
  cleans s s' y zero e = record {
    before = y.before;
    after = y.after;
    steps = (
      stream_of t s' y.after,
      gone,
      y.after.ruled,
      looked t gone id m i (λ n. n) tells s s' y (load_same t gone id m i tells s s' y) (y.told.pass ∙ ap (λ (x : ℕ). with_keeping v (record v.keeping { cleaned = x })) (let z : end ≡ v.keeping.cleaned = omega arith in z)),
      (refl, refl),
    );
  }
  cleans s s' y (suc n) e = record {
    before = y.before;
    after = y.after;
    steps = run looks t.key gone id v may.keeper (stream_of t s' y.after) y.after.ruled n v.keeping.cleaned (stream_of t s y.before) m.0.view y.before.ruled y.before.words.small (at_map view_in s.views id m.0 y.at) refl (let a = may.below in omega arith)
        (ap passes_of y.views ∙ passes_set s.views id y.mine.0 ∙ ap (set (passes_of s.views) id) (y.told.pass ∙ ap (λ (x : ℕ). with_keeping v (record v.keeping { cleaned = x })) (sym e)))
        (λ j lt. sym (y.after.words.controls j lt) ∙ load_same t gone id m i tells s s' y j lt ∙ y.before.words.controls j lt);
  }

  pub clean_to : Means t gone id m i (λ n. n) tells (CleansUpTo v end)
  clean_to = record {
    leads = made t gone id m i (λ n. n) tells (k.clean_to t id i end m may idle);
    are = λ s s' y. (let n : ℕ = (end - v.keeping.cleaned) / 8 in (cleanings (least_there v.keeping.there v.keeping.positions) n, refl, cleans s s' y n (let a = may.from in let u = may.unit in omega arith)));
  }
