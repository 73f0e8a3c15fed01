-- The words of a frame are stored in the stream one behind the other, and the frame is committed: so many events, in which no control word changes.
use Rattle.std.proofs.Common.{◌≡◌, ℕ, zero, suc, ◌+◌, ◌-◌, ◌*◌, ◌/◌, ◌^◌, ◌<◌, ◌≤◌, ◌⊎◌, inl, inr, List, [], ◌∷◌, ◌++◌, length, replicate, set, length-set, get_or-set_same, get_or-set_other, sym, refl, ap, ◌∙◌, subst, arith}
use mathlib.Core.Option.{some}
use mathlib.Core.Logic.{dite}
use native.Mathlib.Decide.{ℕ_discrete}
use lib.ListN.{get_elem?}
use Rattle.std.specs.Prelude.{slice_index}
use Rattle.std.specs.List.{AllByRecursion}
use Rattle.std.proofs.lemmas.List.{ext_get_or, length-replicate}
use Rattle.atomic_table.proofs.Lists.{at_map, set_again, set_here}
use Rattle.theory.specs.Bytes.{Identity}
use Rattle.theory.specs.Position.{aligned}
use Rattle.theory.proofs.Lists.{all_behind}
use Rattle.publication.specs.declared.pass.FrameWords.{FrameWords}
use Rattle.publication.specs.declared.pass.Pass.{Pass}
use Rattle.publication.specs.Frames.{CompletesFrame}
use Rattle.publication.specs.Steps.{Commits, HasWord, Stores, blank, frame, geometry_of, with_work, written}
use Rattle.log_rule.specs.declared.claims.view.View.{View}
use Rattle.log_rule.specs.declared.rule.Key.{Key}
use Rattle.log_rule.specs.Claims.Memory.{IsCommittedFrame, StandsInTable}
use Rattle.log_rule.specs.Claims.Packs.{limit_place, slot}
use Rattle.log_rule.specs.Claims.Plays.{pass_in}
use Rattle.log_rule.specs.Claims.Rule.{Bounds}
use Rattle.log_rule.specs.Table.{LogRuled, now_at}
use Rattle.log_rule.proofs.Claimed.Eventful.{steps_are_events}
use Rattle.log_rule.proofs.Claimed.Sures.{data_leaves, data_turns}
use Rattle.log_rule.proofs.Lifting.{lifted, other_spares}
use Rattle.log_rule.proofs.Owning.{commits_goes, stores_goes}
use Rattle.log_memory.specs.Rule.{AreSmall}
use Rattle.log_memory.proofs.Lifting.{there_low}
use Rattle.position.specs.Words.{IsLegal, frame_words}
use Rattle.log_rule.specs.Claims.Events.{Eventful}

pub set_twice : {A : Type 0} (l : List A) (i : ℕ) (a b : A) → set (set l i a) i b ≡ set l i b
set_twice [] i a b = refl
set_twice (x ∷ xs) zero a b = refl
set_twice (x ∷ xs) (suc i) a b = λ j. x ∷ set_twice xs i a b j

zero_at : (n i : ℕ) → slice_index (replicate {A = ℕ} n 0) i ≡ 0
zero_at zero i = refl
zero_at (suc n) zero = refl
zero_at (suc n) (suc i) = zero_at n i

-- the words of a frame behind its first, as far as they are stored
abbrev pub filled : List ℕ → ℕ → List ℕ
filled ws zero = replicate (length ws) 0
filled ws (suc k) = set (filled ws k) (suc k) (slice_index ws (suc k))

filled_long : (ws : List ℕ) (k : ℕ) → length (filled ws k) ≡ length ws
filled_long ws zero = length-replicate (length ws) 0
filled_long ws (suc k) = length-set (filled ws k) (suc k) (slice_index ws (suc k)) ∙ filled_long ws k

filled_else : (ws : List ℕ) (k i : ℕ) → (i ≡ 0) ⊎ (k < i) → slice_index (filled ws k) i ≡ 0
filled_else ws zero i out = zero_at (length ws) i
filled_else ws (suc k) i out = get_or-set_other (filled ws k) (suc k) i (slice_index ws (suc k)) 0 (λ e. apart out e) ∙ filled_else ws k i (fewer out)
  where
    apart : (i ≡ 0) ⊎ (suc k < i) → i ≡ suc k → ⊥
    apart (inl z) e = omega arith
    apart (inr lt) e = omega arith

    fewer : (i ≡ 0) ⊎ (suc k < i) → (i ≡ 0) ⊎ (k < i)
    fewer (inl z) = inl z
    fewer (inr lt) = inr (omega arith)

filled_at : (ws : List ℕ) (k i : ℕ) → 0 < i → i ≤ k → i < length ws → slice_index (filled ws k) i ≡ slice_index ws i
filled_at ws zero i pos le lt = absurd (omega arith)
filled_at ws (suc k) i pos le lt = dite (ℕ_discrete i (suc k))
    (λ e. subst (λ (x : ℕ). slice_index (set (filled ws k) (suc k) (slice_index ws (suc k))) x ≡ slice_index ws x) (sym e) (get_or-set_same (filled ws k) (suc k) (slice_index ws (suc k)) 0 (let a = filled_long ws k in omega arith)))
    (λ ne. get_or-set_other (filled ws k) (suc k) i (slice_index ws (suc k)) 0 ne ∙ filled_at ws k i pos (omega arith) lt)

all_filled : (ws : List ℕ) (k : ℕ) → length ws ≡ suc k → set (filled ws k) 0 (slice_index ws 0) ≡ ws
all_filled ws k long = ext_get_or 0 (set (filled ws k) 0 (slice_index ws 0)) ws (length-set (filled ws k) 0 (slice_index ws 0) ∙ filled_long ws k) (λ i lt. dite (ℕ_discrete i 0)
    (λ e. subst (λ (x : ℕ). slice_index (set (filled ws k) 0 (slice_index ws 0)) x ≡ slice_index ws x) (sym e) (get_or-set_same (filled ws k) 0 (slice_index ws 0) 0 (let a = filled_long ws k in omega arith)))
    (λ ne. let a = length-set (filled ws k) 0 (slice_index ws 0) in let c = filled_long ws k in get_or-set_other (filled ws k) 0 i (slice_index ws 0) 0 ne ∙ filled_at ws k i (omega arith) (omega arith) (omega arith)))

small_set : (xs : List ℕ) (i n j : ℕ) → n < 2 ^ 64 → slice_index xs j < 2 ^ 64 → slice_index (set xs i n) j < 2 ^ 64
small_set [] i n j a b = b
small_set (x ∷ xs) zero n zero a b = a
small_set (x ∷ xs) zero n (suc j) a b = b
small_set (x ∷ xs) (suc i) n zero a b = b
small_set (x ∷ xs) (suc i) n (suc j) a b = small_set xs i n j a b

-- ---- one seat's pass, and nothing of the control words

pub record Became (key : Key) (views : List View) (id : ℕ) (v : View) (pass : Pass) (stream before : List ℕ) : Type 0 where
  pub view : View
  pub pass_is : view.pass ≡ pass
  pub sure : view.sure ≡ v.sure
  pub leads : v.sure ≡ 1 → view.controls ≡ v.controls
  pub ruled : LogRuled key (record { words = stream; homes = []; views = set views id view })
  pub controls : (i : ℕ) → i < 208 → slice_index stream i ≡ slice_index before i
  pub small : AreSmall before → AreSmall stream

module _ (key : Key) (stream : List ℕ) (views : List View) (q : LogRuled key (record { words = stream; homes = []; views = views })) (id : ℕ) (v : View) (at : get_elem? views id ≡ some v) (p cut : ℕ) (ws : List ℕ) (front behind : List FrameWords) (drafts : v.pass.work.drafts ≡ front ++ blank p cut ∷ behind) (long : length ws ≡ length (blank p cut).words)
    (done : IsCommittedFrame key.identity (frame p cut ws)) (narrow : (i : ℕ) → slice_index ws i < 2 ^ 64) where
  abbrev partly : ℕ → Pass
  partly k = with_work v.pass.work.frames (front ++ frame p cut (filled ws k) ∷ behind) v.pass

  blank_is : frame p cut (filled ws 0) ≡ blank p cut
  blank_is = let e : length ws ≡ aligned cut / 8 = long ∙ length-replicate (aligned cut / 8) 0 in λ i. frame p cut (replicate (e i) 0)

  begin : Became key views id v (partly 0) stream stream
  begin = record {
    view = v;
    pass_is = λ i. with_work v.pass.work.frames ((drafts ∙ (λ j. front ++ sym blank_is j ∷ behind)) i) v.pass;
    sure = refl;
    leads = λ _. refl;
    ruled = subst (λ (l : List View). LogRuled key (record { words = stream; homes = []; views = l })) (sym (set_again views id v at)) q;
    controls = λ i lt. refl;
    small = λ a. a;
  }

  identity_is : v.pass.identity ≡ key.identity
  identity_is = (q.ruled.claims.each id v.pass (at_map pass_in views id v at)).identity

  module _ (k : ℕ) (now : List ℕ) (b : Became key views id v (partly k) now stream) where
    abbrev seats : List View
    seats = set views id b.view

    here : get_elem? (set views id b.view) id ≡ some b.view
    here = set_here views id b.view (there_low views id v at)

    drafts_are : b.view.pass.work.drafts ≡ front ++ frame p cut (filled ws k) ∷ behind
    drafts_are = ap (λ (x : Pass). x.work.drafts) b.pass_is

    shape : geometry_of b.view.pass ≡ key.identity.geometry
    shape = ap (λ (x : Pass). x.identity.geometry) b.pass_is ∙ ap (λ (x : Identity). x.geometry) identity_is

    -- a word of the frame that isn't stored yet is zero there
    none_yet : (j : ℕ) → (j ≡ 0) ⊎ (k < j) → j < length ws → slice_index now (slot key.identity.geometry (p + 8 * j)) ≡ 0
    none_yet j out lt =
        let bs : Bounds = now_at key (slice_index now limit_place) b.ruled.cleaned in
        let m = b.ruled.ruled.memory.each id b.view.pass (at_map pass_in (set views id b.view) id b.view here) in
        let all = subst (AllByRecursion (StandsInTable bs now)) drafts_are (all_behind (StandsInTable bs now) b.view.pass.work.frames b.view.pass.work.drafts m.stands) in
        let kept = subst (AllByRecursion (λ (f : FrameWords). bs.cleaned ≤ f.start)) drafts_are m.kept in
        let low = (all_behind (λ (f : FrameWords). bs.cleaned ≤ f.start) front (frame p cut (filled ws k) ∷ behind) kept).0 in
        (all_behind (StandsInTable bs now) front (frame p cut (filled ws k) ∷ behind) all).0 j (let e = filled_long ws k in omega arith) (omega arith) ∙ filled_else ws k j out

    store : suc k < length ws → Became key views id v (partly (suc k)) (set now (slot key.identity.geometry (p + 8 * suc k)) (slice_index ws (suc k))) stream
    store lt =
        let u = b.view in let x : ℕ = p + 8 * suc k in let n : ℕ = slice_index ws (suc k) in let i : ℕ = slot key.identity.geometry x in let e = filled_long ws k in
        let has : HasWord u.pass 1 x = record { front = front; draft = frame p cut (filled ws k); behind = behind; parts = drafts_are; place = suc k; above = omega arith; inside = omega arith; position = refl } in
        let g = lifted key 0 id i (u, []) (λ _. n) (λ _ w. Stores u.pass x n w) (λ _. []) (data_turns i n (omega arith)) (inr (data_leaves i n (omega arith))) (other_spares i (λ _. n) (λ e. omega arith) (λ j lt e. omega arith)) (λ _ w. stores_goes u.pass x n w has)
        (λ bs. subst (λ (y : ℕ). Eventful bs id u.pass y (λ _. n) (λ _ w. Stores u.pass x n w)) (ap (λ g. slot g x) shape) (steps_are_events.store bs id u.pass x n has))
        (record { words = now; homes = []; views = set views id u }) b.ruled refl here (subst (λ (y : ℕ). y < 2 ^ 64) (sym (none_yet (suc k) (inr (omega arith)) lt)) (omega arith)) in
        let told = g.4 in let r = g.3 in record {
          view = g.0;
          pass_is = told.4 front (frame p cut (filled ws k)) behind (suc k) drafts_are (omega arith) (omega arith) refl ∙ ap (λ (y : Pass). with_work y.work.frames (front ++ written (frame p cut (filled ws k)) (suc k) n ∷ behind) y) b.pass_is;
          sure = told.3.sure ∙ b.sure;
          leads = λ one. told.3.leads (b.sure ∙ one) ∙ b.leads one;
          ruled = subst (λ (l : List View). LogRuled key (record { words = set now i n; homes = []; views = l })) (set_twice views id u g.0) record { cleaned = r.cleaned; there = r.there; ruled = r.ruled; kept = r.kept; sure = r.sure; numbered = r.numbered };
          controls = λ j low. get_or-set_other now i j n 0 (λ e. omega arith) ∙ b.controls j low;
          small = λ a j far. small_set now i n j (narrow (suc k)) (b.small a j far);
        }

    commit : length ws ≡ suc k → Became key views id v (with_work (v.pass.work.frames ++ frame p cut ws ∷ []) (front ++ behind) v.pass) (set now (slot key.identity.geometry p) (slice_index ws 0)) stream
    commit last =
        let u = b.view in let n : ℕ = slice_index ws 0 in let i : ℕ = slot key.identity.geometry p in let e = filled_long ws k in let d = frame p cut (filled ws k) in
        let whole : set (filled ws k) 0 n ≡ ws = all_filled ws k last in
        let own : u.pass.identity ≡ key.identity = ap (λ (x : Pass). x.identity) b.pass_is ∙ identity_is in
        let completes : CompletesFrame u.pass p n = record { front = front; draft = d; behind = behind; parts = drafts_are; inside = omega arith; position = refl; content = done.content; legal = subst (λ (y : Identity). IsLegal y.geometry done.content) (sym own) done.legal; whole = done.whole; spelt = whole ∙ done.spelt ∙ ap (λ (y : Identity). frame_words y p done.content) (sym own) } in
        let g = lifted key 0 id i (u, []) (λ _. n) (λ _ w. Commits u.pass p n w) (λ _. []) (data_turns i n (omega arith)) (inr (data_leaves i n (omega arith))) (other_spares i (λ _. n) (λ e. omega arith) (λ j lt e. omega arith)) (λ _ w. commits_goes u.pass p n w completes)
        (λ bs. subst (λ (y : ℕ). Eventful bs id u.pass y (λ _. n) (λ _ w. Commits u.pass p n w)) (ap (λ g. slot g p) shape) (steps_are_events.commit bs id u.pass p n completes done.first))
        (record { words = now; homes = []; views = set views id u }) b.ruled refl here (subst (λ (y : ℕ). y < 2 ^ 64) (sym (ap (λ (y : ℕ). slice_index now (slot key.identity.geometry y)) (let z : p ≡ p + 8 * 0 = omega arith in z) ∙ none_yet 0 (inl refl) (omega arith))) (omega arith)) in
        let told = g.4 in let r = g.3 in record {
          view = g.0;
          pass_is = told.4 front d behind drafts_are (omega arith) refl ∙ ap (λ (y : Pass). with_work (y.work.frames ++ written d 0 n ∷ []) (front ++ behind) y) b.pass_is ∙ ap (λ (l : List ℕ). with_work (v.pass.work.frames ++ frame p cut l ∷ []) (front ++ behind) v.pass) whole;
          sure = told.3.sure ∙ b.sure;
          leads = λ one. told.3.leads (b.sure ∙ one) ∙ b.leads one;
          ruled = subst (λ (l : List View). LogRuled key (record { words = set now i n; homes = []; views = l })) (set_twice views id u g.0) record { cleaned = r.cleaned; there = r.there; ruled = r.ruled; kept = r.kept; sure = r.sure; numbered = r.numbered };
          controls = λ j low. get_or-set_other now i j n 0 (λ e. omega arith) ∙ b.controls j low;
          small = λ a j far. small_set now i n j (narrow 0) (b.small a j far);
        }

  -- after so many stores
  record Run (k : ℕ) : Type 0 where
    now : List ℕ
    became : Became key views id v (partly k) now stream

  run : (k : ℕ) → k < length ws → Run k
  run zero lt = record { now = stream; became = begin }
  run (suc k) lt = let r = run k (omega arith) in record { now = set r.now (slot key.identity.geometry (p + 8 * suc k)) (slice_index ws (suc k)); became = store k r.now r.became lt }

  pub record Stored : Type 0 where
    pub after : List ℕ
    pub became : Became key views id v (with_work (v.pass.work.frames ++ frame p cut ws ∷ []) (front ++ behind) v.pass) after stream

  pub stored : 0 < length ws → Stored
  stored some' = let k : ℕ = length ws - 1 in let r = run k (omega arith) in record { after = set r.now (slot key.identity.geometry p) (slice_index ws 0); became = commit k r.now r.became (omega arith) }
