-- A step on the words of a log that runs is a step on the words of its stream.
use Rattle.std.proofs.Common.{◌≡◌, inl, ℕ, ◌/◌, ◌%◌, ◌^◌, ◌<◌, ◌≤◌, List, [], ◌∷◌, length, set, get_or-set_other, sym, refl, ap, ◌∙◌, subst, arith}
use mathlib.Core.Option.{some}
use lib.ListN.{get_elem?}
use Rattle.std.specs.Prelude.{slice_index}
use Rattle.std.proofs.lemmas.List.{set-get_or}
use Rattle.atomic_table.specs.Table.{Allows, carried_after, stepped}
use Rattle.publication.specs.declared.pass.Pass.{Pass}
use Rattle.log_memory.specs.declared.view.Site.{Site}
use Rattle.log_memory.specs.Places.{head_place}
use Rattle.log_memory.specs.Rule.{Board, LogMemoryRuled, passes_of}
use Rattle.log_memory.specs.Steps.{Mine}
use Rattle.log_memory.proofs.Facts.{pass_at}
use Rattle.log_memory.proofs.Lifting.{passes_set, set_both}
use Rattle.model.specs.Log.{LogEvent, Look}
use Rattle.threads_meaning.specs.Law.{StepOf}
use Rattle.threads_meaning.specs.Running.{Happen, IsOne, Makes, Means, stream_of}
use Rattle.threads_meaning.specs.Steps.{Turns, load_own}

module _ (t : Site) (gone : List ℕ) (id : ℕ) (m : Mine) (i : ℕ) (f : ℕ → ℕ) (tells : ℕ → Mine → Type 0) where
  -- what is allowed may be made
  pub made : ((slots : ℕ) → Allows (LogMemoryRuled t) slots id m i f tells) → (s : Board) → LogMemoryRuled t s → get_elem? s.views id ≡ some m.0 → slice_index s.words i < 2 ^ 64 → (s' : Board) × Makes t s id m i f tells s'
  made allows s r at small = let g = allows (length s.homes) s r refl at small in (
    stepped s i (f (slice_index s.words i)) id m.1 g.0 g.1,
    record { before = r; after = g.3; at = at; mine = (g.0, carried_after m.1 g.1); words = refl; views = refl; told = g.4 },
  )

  -- ---- its stream

  module _ (s s' : Board) (y : Makes t s id m i f tells s') where
    abbrev pub new : Pass
    new = y.mine.0.view.pass

    passes : passes_of s'.views ≡ set (passes_of s.views) id new
    passes = ap passes_of y.views ∙ passes_set s.views id y.mine.0

    -- a step on a control word is one on that word of the stream
    pub turned : i < 208 → (told : ℕ → Pass → Type 0) → told (slice_index s.words i) new → Turns (stream_of t s y.before) id m.0.view.pass i f told (stream_of t s' y.after)
    turned low told is =
        let r = y.before in let e = r.words.controls i low in
        let wide_s : i < length s.words = (let a = r.words.long in omega arith) in let wide_t : i < length r.stream = (let a = r.ruled.ruled.claims.wide in omega arith) in record {
          at = pass_at s.views id m.0 y.at;
          after = new;
          words = λ j lt. sym (y.after.words.controls j lt) ∙ ap (λ (l : List ℕ). slice_index l j) y.words ∙ set_both s.words r.stream i f j wide_s wide_t e (r.words.controls j lt);
          passes = passes;
          told = subst (λ (n : ℕ). told n new) e is;
        }

    -- a step by which no control word changes is one on whatever word of the stream, which stays
    pub rested : ((j : ℕ) → j < 208 → slice_index s'.words j ≡ slice_index s.words j) → (k : ℕ) (told : Pass → Type 0) → told new → Turns (stream_of t s y.before) id m.0.view.pass k (λ n. n) (λ _ w. told w) (stream_of t s' y.after)
    rested same k told is = let r = y.before in record {
      at = pass_at s.views id m.0 y.at;
      after = new;
      words = λ j lt. sym (y.after.words.controls j lt) ∙ same j lt ∙ r.words.controls j lt ∙ ap (λ (l : List ℕ). slice_index l j) (sym (set-get_or r.stream k 0));
      passes = passes;
      told = is;
    }

    -- the word of a unit is no control word
    pub far_same : 208 ≤ i → (j : ℕ) → j < 208 → slice_index s'.words j ≡ slice_index s.words j
    far_same far j lt = ap (λ (l : List ℕ). slice_index l j) y.words ∙ get_or-set_other s.words i j (f (slice_index s.words i)) 0 (λ e. omega arith)

    pub put_far : 208 ≤ i → (x : ℕ) (told : Pass → Type 0) → told new → Turns (stream_of t s y.before) id m.0.view.pass i (λ _. x) (λ _ w. told w) (stream_of t s' y.after)
    put_far far x told is = let r = y.before in record {
      at = pass_at s.views id m.0 y.at;
      after = new;
      words = λ j lt. sym (y.after.words.controls j lt) ∙ far_same far j lt ∙ r.words.controls j lt ∙ sym (get_or-set_other r.stream i j x 0 (λ e. omega arith));
      passes = passes;
      told = is;
    }

    -- by which the pass is as it was
    pub looked : ((j : ℕ) → j < 208 → slice_index s'.words j ≡ slice_index s.words j) → new ≡ m.0.view.pass → StepOf t.key gone (stream_of t s y.before) Look (stream_of t s' y.after) gone
    looked same is = (refl, inl (load_own id m.0.view.pass 0 (rested same 0 (λ w. w ≡ m.0.view.pass) is)))

    -- ---- its events

    pub happens : (e : LogEvent) → StepOf t.key gone (stream_of t s y.before) e (stream_of t s' y.after) gone → Happen t gone s (e ∷ []) s' gone
    happens e step = record { before = y.before; after = y.after; steps = (stream_of t s' y.after, gone, y.after.ruled, step, (refl, refl)) }

  pub means : ((slots : ℕ) → Allows (LogMemoryRuled t) slots id m i f tells) → (e : LogEvent) → ((s s' : Board) (y : Makes t s id m i f tells s') → StepOf t.key gone (stream_of t s y.before) e (stream_of t s' y.after) gone) → Means t gone id m i f tells (IsOne e)
  means allows e step = record { leads = made allows; are = λ s s' y. (e ∷ [], refl, happens s s' y e (step s s' y)) }

-- ---- loads

module _ (t : Site) (gone : List ℕ) (id : ℕ) (m : Mine) (i : ℕ) (tells : ℕ → Mine → Type 0) where
  pub load_same : (s s' : Board) → Makes t s id m i (λ n. n) tells s' → (j : ℕ) → j < 208 → slice_index s'.words j ≡ slice_index s.words j
  load_same s s' y j lt = ap (λ (l : List ℕ). slice_index l j) (y.words ∙ set-get_or s.words i 0)

  -- a load after which the pass is as it was
  pub own : ((slots : ℕ) → Allows (LogMemoryRuled t) slots id m i (λ n. n) tells) → ((n : ℕ) (w : Mine) → tells n w → w.0.view.pass ≡ m.0.view.pass) → Means t gone id m i (λ n. n) tells (IsOne Look)
  own allows same = means t gone id m i (λ n. n) tells allows Look (λ s s' y. looked t gone id m i (λ n. n) tells s s' y (load_same s s' y) (same (slice_index s.words i) y.mine y.told))

pub is_far : (n p : ℕ) → 208 ≤ head_place n p
is_far n p = let x : ℕ = p / 32 % n in omega arith
