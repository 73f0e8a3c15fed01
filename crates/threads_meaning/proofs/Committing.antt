-- A frame is committed, and a claim of one frame aborted.
use Rattle.std.proofs.Common.{◌≡◌, ◌≢◌, inl, inr, ⊎_elim, ℕ, ◌+◌, ◌*◌, ◌<◌, ◌≤◌, Bool, true, cond, List, [], ◌∷◌, ◌++◌, map, set, sym, refl, ap, ◌∙◌, subst, eq-eqb, ne_eqb, arith}
use mathlib.Core.Option.{some}
use mathlib.Core.Logic.{dite}
use native.Mathlib.Decide.{ℕ_discrete}
use lib.ListN.{get_elem?}
use Rattle.std.specs.List.{AllByRecursion}
use Rattle.atomic_table.specs.Table.{State}
use Rattle.theory.specs.Bytes.{Identity}
use Rattle.theory.specs.Entry.{Entry, IsEntry, committed, entry_end}
use Rattle.theory.specs.Placed.{Among, Frame, Pad, Placed, place_all}
use Rattle.theory.specs.Position.{Geometry, span}
use Rattle.theory.specs.Refusal.{is_closed, is_connected, limit_in}
use Rattle.theory.specs.Tiling.{Tiles}
use Rattle.theory.proofs.Lists.{all_map, all_pushed, among_right}
use Rattle.position.specs.Words.{IsLegal}
use Rattle.publication.specs.declared.pass.FrameWords.{FrameWords}
use Rattle.publication.specs.declared.pass.Pass.{Pass}
use Rattle.publication.specs.declared.pass.Reading.{Reading}
use Rattle.publication.specs.Steps.{with_work}
use Rattle.log_rule.specs.declared.claims.view.View.{View}
use Rattle.log_rule.specs.declared.rule.Key.{Key}
use Rattle.log_rule.specs.Claims.Events.{committed_weight}
use Rattle.log_rule.specs.Claims.Plays.{pass_in}
use Rattle.log_rule.specs.Claims.Rule.{entry_of, weight}
use Rattle.log_rule.specs.Claims.Sums.{total}
use Rattle.log_rule.specs.Table.{LogRuled}
use Rattle.log_rule.proofs.Claimed.Totals.{total_append}
use Rattle.model.specs.Log.{Abort, Commit, Log, LogStep, aborted_at, with_frame}
use Rattle.model.proofs.LogSteps.{Grows, entry_from, log_step, one_entry}
use Rattle.threads_meaning.specs.Modelled.{AreAs, AreEntries, ArePublishers, AreReaders, IsAborted, IsAs, IsModelOf, KeepsReaders, armed_as, spelled}
use Rattle.threads_meaning.specs.Steps.{StepAborts, StepCommits}
use Rattle.threads_meaning.proofs.Alike.{alike_map}
use Rattle.threads_meaning.proofs.Cut.{ExactCut, committed_total, not_whole, placed_push}
use Rattle.threads_meaning.proofs.Looking.{put_same}
use Rattle.threads_meaning.proofs.Open.{may_abort, next_fits}
use Rattle.threads_meaning.proofs.Parts.{kept_entries, readers_more}
use Rattle.threads_meaning.proofs.Resting.{SameWords, armed_same, modelled, one_readers, publishers_rest}
use Rattle.threads_meaning.proofs.Totals.{total_kept, total_more}

-- ---- sums over entries of which one has a frame more

one_grows : (f g : Entry → ℕ) (term p tail : ℕ) (es : List Entry) (e : Entry) (n : ℕ) → Tiles term p tail es → AllByRecursion IsEntry es → Among e es → ((y : Entry) → y.start ≢ e.start → g y ≡ f y) → g e ≡ f e + n → total g es ≡ total f es + n
one_grows f g term p tail [] e n t are a others mine = absurd a
one_grows f g term p tail (x ∷ es) e n t are (inl same) others mine =
    let here : g x ≡ f x + n = subst (λ (y : Entry). g y ≡ f y + n) same mine in let begins : x.start ≡ e.start = ap (λ (y : Entry). y.start) (sym same) in
    let rest : total g es ≡ total f es = later es (λ y a. others y (λ z. (let from = entry_from term (entry_end x) tail es y t.2 a in let long = are.0.long in far x.start y.start e.start (span x.cuts) from long z begins))) in
    sums (g x) (f x) n (total g es) (total f es) here rest
  where
    later : (ys : List Entry) → ((y : Entry) → Among y ys → g y ≡ f y) → total g ys ≡ total f ys
    later [] same = refl
    later (y ∷ ys) same = let a = same y (inl refl) in let r = later ys (λ z b. same z (inr b)) in omega arith

    far : (x y e n : ℕ) → x + n ≤ y → 0 < n → y ≡ e → x ≡ e → ⊥
    far x y e n le pos a b = omega arith

    sums : (gx fx n gs fs : ℕ) → gx ≡ fx + n → gs ≡ fs → gx + gs ≡ fx + fs + n
    sums gx fx n gs fs a b = omega arith
one_grows f g term p tail (x ∷ es) e n t are (inr a) others mine =
    let from = entry_from term (entry_end x) tail es e t.2 a in let long = are.0.long in
    let here : g x ≡ f x = others x (λ z. far x.start e.start (span x.cuts) from long z) in
    let rest : total g es ≡ total f es + n = one_grows f g term (entry_end x) tail es e n t.2 are.1 a others mine in
    sums (g x) (f x) n (total g es) (total f es) here rest
  where
    far : (x e n : ℕ) → x + n ≤ e → 0 < n → x ≡ e → ⊥
    far x e n le pos a = omega arith

    sums : (gx fx n gs fs : ℕ) → gx ≡ fx → gs ≡ fs + n → gx + gs ≡ fx + fs + n
    sums gx fx n gs fs a b = omega arith

total_mapped : {A : Type 0} (f : A → ℕ) (g : A → A) (xs : List A) → total f (map g xs) ≡ total (λ x. f (g x)) xs
total_mapped f g [] = refl
total_mapped f g (x ∷ xs) = ap (λ (n : ℕ). f (g x) + n) (total_mapped f g xs)

-- of committed frames
frames_grow : (i : Identity) (g : Entry → Entry) (term p tail : ℕ) (es : List Entry) (e : Entry) (new : Placed) → Tiles term p tail es → AllByRecursion IsEntry es → Among e es → ((y : Entry) → y.start ≢ e.start → g y ≡ y) → (g e).start ≡ e.start → place_all e.start (g e).frames ≡ place_all e.start e.frames ++ new ∷ []
    → (h : FrameWords → ℕ) → total h (map (spelled i) (committed (map g es))) ≡ total h (map (spelled i) (committed es)) + h (spelled i new)
frames_grow i g term p tail es e new t are a others begins placed h =
    let d : Entry → ℕ = λ y. total (λ s. h (spelled i s)) (place_all y.start y.frames) in
    let mine : d (g e) ≡ d e + h (spelled i new) = ap (λ (n : ℕ). total (λ s. h (spelled i s)) (place_all n (g e).frames)) begins ∙ ap (total (λ s. h (spelled i s))) placed ∙ total_append (λ s. h (spelled i s)) (place_all e.start e.frames) (new ∷ []) ∙ none_more (d e) (h (spelled i new)) in
    committed_total i h (map g es) ∙ total_mapped d g es ∙ one_grows d (λ y. d (g y)) term p tail es e (h (spelled i new)) t are a (λ y ne. ap d (others y ne)) mine ∙ ap (λ (n : ℕ). n + h (spelled i new)) (sym (committed_total i h es))
  where
    none_more : (x y : ℕ) → x + (y + 0) ≡ x + y
    none_more x y = omega arith

far_limit : (i : ℕ) → 208 ≤ i → i ≢ 0
far_limit i far e = omega arith

far_consumer : (i : ℕ) → 208 ≤ i → (j : ℕ) → j < 8 → i ≢ j * 16 + 80
far_consumer i far j lt e = omega arith

-- an entry elsewhere is left
with_else : (start : ℕ) (f : Frame) (y : Entry) → y.start ≢ start → with_frame start f y ≡ y
with_else start f y ne = ap (λ (b : Bool). record y { frames = cond b (y.frames ++ f ∷ []) y.frames }) (ne_eqb y.start start ne)

aborted_else : (start : ℕ) (y : Entry) → y.start ≢ start → aborted_at start y ≡ y
aborted_else start y ne = ap (λ (b : Bool). record y { padding = cond b true y.padding; frames = cond b (map Pad y.cuts) y.frames }) (ne_eqb y.start start ne)

with_here : (start : ℕ) (f : Frame) (y : Entry) → y.start ≡ start → (with_frame start f y).frames ≡ y.frames ++ f ∷ []
with_here start f y e = ap (λ (b : Bool). cond b (y.frames ++ f ∷ []) y.frames) (eq-eqb y.start start e)

aborted_here : (start : ℕ) (y : Entry) → y.start ≡ start → (aborted_at start y).frames ≡ map Pad y.cuts
aborted_here start y e = ap (λ (b : Bool). cond b (map Pad y.cuts) y.frames) (eq-eqb y.start start e)

padded_here : (start : ℕ) (y : Entry) → y.start ≡ start → (aborted_at start y).padding ≡ true
padded_here start y e = ap (λ (b : Bool). cond b true y.padding) (eq-eqb y.start start e)

module _ (key : Key) (gone : List ℕ) (s t : State (Unit {0}) View) (l : Log) (q : LogRuled key s) (q' : LogRuled key t) (k : IsModelOf key gone s l) where
  -- one frame more is committed, of an entry that is changed so
  committing : (id : ℕ) (v w : Pass) (new : Placed) (drafts : List FrameWords) (g : Entry → Entry) → get_elem? (map pass_in s.views) id ≡ some v → map pass_in t.views ≡ set (map pass_in s.views) id w → SameWords s.words t.words → w ≡ with_work (v.work.frames ++ spelled key.identity new ∷ []) drafts v
      → AreAs k.entries.log (map g l.entries) → ((h : FrameWords → ℕ) → total h (map (spelled key.identity) (committed (map g l.entries))) ≡ total h (map (spelled key.identity) (committed l.entries)) + h (spelled key.identity new))
      → AllByRecursion (λ e. AllByRecursion (IsLegal key.identity.geometry) e.frames) (map g l.entries) → Grows (record l { readers = [] }) (record l { readers = []; entries = map g l.entries }) → IsModelOf key gone t (record l { entries = map g l.entries })
  committing id v w new drafts g at passes same e alike frames legal grown =
      let all : List Pass = map pass_in s.views in let m : Log = record l { entries = map g l.entries } in let f : FrameWords = spelled key.identity new in
      let work : w.work.frames ≡ v.work.frames ++ f ∷ [] = ap (λ (y : Pass). y.work.frames) e in let keeping = ap (λ (y : Pass). y.keeping) e in
      modelled key gone t m q' k.identity k.start (k.limit ∙ ap limit_in (sym same.limit)) (k.connected ∙ ap is_connected (sym same.limit)) (k.closed ∙ ap is_closed (sym same.limit))
      (subst (λ (qs : List Pass). AreEntries key qs m.start m.tail m.entries) (sym passes) record {
        log = k.entries.log;
        claimed = λ h. total_kept (weight h) all id v w at (ap (λ cs. total h (map entry_of cs)) (ap (λ (y : Pass). y.right.claims) e)) ∙ k.entries.claimed h;
        alike = alike;
        frames = λ h. total_more (committed_weight h) all id v w (h f) at (ap (total h) work ∙ total_append h v.work.frames (f ∷ []) ∙ none_more (total h v.work.frames) (h f)) ∙ ap (λ (n : ℕ). n + h f) (k.entries.frames h) ∙ sym (frames h);
        tiles = subst (λ (i : Identity). Tiles i.geometry.term_length m.start m.tail m.entries) k.identity grown.kept.tiles;
        are = grown.kept.entries;
        legal = legal;
      })
      (subst (λ (qs : List Pass). ArePublishers gone qs l.armed l.retired) (sym passes) (publishers_rest gone all (set all id w) l.armed l.retired k.publishers (λ n lt. total_kept (armed_as n) all id v w at (armed_same v w (ap (λ (y : Pass). y.right.armed) e) (ap (λ (y : Pass). y.number) e) n))))
      (subst (λ (qs : List Pass). AreReaders t.words qs m.start m.cleaned (committed m.entries) m.readers) (sym passes) (readers_more (committed l.entries) (committed m.entries) grown.more t.words (set all id w) l.start l.cleaned l.readers (one_readers s.words t.words all l.start l.cleaned (committed l.entries) l.readers k.readers id v w at same.consumers
      (λ r a. (r, subst (λ (rs : List Reading). Among r rs) (ap (λ (y : Pass). y.reading) e) a, refl))
      (λ right. (ap (λ z. z.right) (sym keeping) ∙ right, λ z. subst (KeepsReaders l.start l.cleaned (committed l.entries) l.readers) (sym keeping) z)))))
    where
      none_more : (x y : ℕ) → x + (y + 0) ≡ x + y
      none_more x y = omega arith

  -- the model's entry at a start is the only one
  only : (start : ℕ) (e y : Entry) → Among e l.entries → Among y l.entries → e.start ≡ start → y.start ≡ start → y ≡ e
  only start e y a b x z = one_entry key.identity.geometry.term_length l.start l.tail l.entries y e k.entries.tiles k.entries.are b a (z ∙ sym x)

  pub commits : (start : ℕ) (f : Frame) → StepCommits key s start f t → (m : Log) × LogStep [] l (Commit start f) m × IsModelOf key gone t m
  commits start f y =
      let v : Pass = y.v in let c = y.step in let h = c.turn.told in let w : Pass = c.turn.after in let n = y.next in let g : Entry → Entry = with_frame start f in let geometry : Geometry = key.identity.geometry in
      let draft : Among h.draft v.work.drafts = subst (Among h.draft) (sym h.parts) (among_right h.draft h.front (h.draft ∷ h.behind) (inl refl)) in
      let legal : IsLegal geometry f = h.legal in let new : Placed = record { at = y.p; frame = f } in
      let e : w ≡ with_work (v.work.frames ++ spelled key.identity new ∷ []) (h.front ++ h.behind) v = h.after in
      let next = next_fits key gone s l q k y.id v c.turn.at start y.p f n h.draft draft (sym h.position) h.inside legal in
      let fits = next.may in let x : Entry = fits.entry in let exact : ExactCut n.front x.frames = next.exact in
      let place : y.p ≡ x.start + span n.front = n.place ∙ ap (λ (z : ℕ). z + span n.front) (sym fits.here) in
      let placed : place_all x.start (g x).frames ≡ place_all x.start x.frames ++ new ∷ [] = ap (place_all x.start) (with_here start f x fits.here) ∙ placed_push x.start n.front x.frames (f ∷ []) exact ∙ ap (λ (z : ℕ). place_all x.start x.frames ++ record { at = z; frame = f } ∷ []) (sym place) in (
        record l { entries = map g l.entries },
        (fits, refl),
        committing y.id v w new (h.front ++ h.behind) g c.turn.at c.turn.passes (put_same s.words t.words c.i c.x c.turn.words (far_limit c.i c.far) (far_consumer c.i c.far)) e
            (alike_map g k.entries.log l.entries k.entries.alike (λ c z a is. record {
              start = is.start;
              owner = is.owner;
              cuts = is.cuts;
              padding = ⊎_elim (λ (p : z.padding ≡ c.padding). inl p)
                  (λ (p : IsAborted c z). dite (ℕ_discrete z.start start)
                  (λ here. let one : z ≡ x = only start x z fits.among a fits.here here in absurd (not_whole n.front n.cut n.behind x.frames exact (subst (λ (u : Entry). u.frames ≡ map Pad u.cuts) one p.frames ∙ ap (map Pad) next.cuts)))
                  (λ ne. let left = with_else start f z ne in inr record { message = p.message; padding = p.padding; frames = ap (λ (u : Entry). u.frames) left ∙ p.frames }))
                  is.padding;
            }))
            (frames_grow key.identity g geometry.term_length l.start l.tail l.entries x new k.entries.tiles k.entries.are fits.among (λ z ne. with_else start f z (λ u. ne (u ∙ sym fits.here))) refl placed)
            (all_map (λ (z : Entry). AllByRecursion (IsLegal geometry) z.frames) g l.entries (λ z a are. dite (ℕ_discrete z.start start)
            (λ here. subst (AllByRecursion (IsLegal geometry)) (sym (with_here start f z here)) (all_pushed (IsLegal geometry) z.frames f are legal))
            (λ ne. subst (λ (u : Entry). AllByRecursion (IsLegal geometry) u.frames) (sym (with_else start f z ne)) are)) k.entries.legal)
            (log_step [] (record l { readers = [] }) (Commit start f) (record l { readers = []; entries = map g l.entries }) (kept_entries key s q gone l k) (record { entry = fits.entry; among = fits.among; here = fits.here; frames = fits.frames; bytes = fits.bytes }, refl)),
      )

  pub aborts : (start : ℕ) → StepAborts key s start t → (m : Log) × LogStep [] l (Abort start) m × IsModelOf key gone t m
  aborts start y =
      let v : Pass = y.v in let c = y.step in let h = c.turn.told in let w : Pass = c.turn.after in let g : Entry → Entry = aborted_at start in let geometry : Geometry = key.identity.geometry in let f : Frame = Pad y.cut in
      let draft : Among h.draft v.work.drafts = subst (Among h.draft) (sym h.parts) (among_right h.draft h.front (h.draft ∷ h.behind) (inl refl)) in
      let legal : IsLegal geometry f = h.legal in let new : Placed = record { at = start; frame = f } in
      let e : w ≡ with_work (v.work.frames ++ spelled key.identity new ∷ []) (h.front ++ h.behind) v = h.after in
      let found = may_abort key gone s l q k y.id v c.turn.at start y.claim y.among y.here y.message y.cut y.single h.draft draft (sym h.position) h.inside in let may = found.0 in
      let x : Entry = may.entry in let single : x.cuts ≡ y.cut ∷ [] = may.single ∙ ap (λ (z : ℕ). z ∷ []) found.1 in
      let placed : place_all x.start (g x).frames ≡ place_all x.start x.frames ++ new ∷ [] = ap (place_all x.start) (aborted_here start x may.here ∙ ap (map Pad) single) ∙ ap (λ (z : ℕ). record { at = z; frame = f } ∷ []) may.here ∙ ap (λ (fs : List Frame). place_all x.start fs ++ new ∷ []) (sym may.untouched) in (
        record l { entries = map g l.entries },
        (may, refl),
        committing y.id v w new (h.front ++ h.behind) g c.turn.at c.turn.passes (put_same s.words t.words c.i c.x c.turn.words (far_limit c.i c.far) (far_consumer c.i c.far)) e
            (alike_map g k.entries.log l.entries k.entries.alike (λ c z a is. dite (ℕ_discrete z.start start)
            (λ here. let one : z ≡ x = only start x z may.among a may.here here in record {
              start = is.start;
              owner = is.owner;
              cuts = is.cuts;
              padding = inr record { message = ⊎_elim (λ (p : z.padding ≡ c.padding). sym p ∙ ap (λ (u : Entry). u.padding) one ∙ may.open_message) (λ (p : IsAborted c z). p.message) is.padding; padding = padded_here start z here; frames = aborted_here start z here };
            })
            (λ ne. subst (IsAs c) (sym (aborted_else start z ne)) is)))
            (frames_grow key.identity g geometry.term_length l.start l.tail l.entries x new k.entries.tiles k.entries.are may.among (λ z ne. aborted_else start z (λ u. ne (u ∙ sym may.here))) refl placed)
            (all_map (λ (z : Entry). AllByRecursion (IsLegal geometry) z.frames) g l.entries (λ z a are. dite (ℕ_discrete z.start start)
            (λ here. let one : z ≡ x = only start x z may.among a may.here here in subst (AllByRecursion (IsLegal geometry)) (sym (aborted_here start z here ∙ ap (map Pad) (ap (λ (u : Entry). u.cuts) one ∙ single))) (legal, tt))
            (λ ne. subst (λ (u : Entry). AllByRecursion (IsLegal geometry) u.frames) (sym (aborted_else start z ne)) are)) k.entries.legal)
            (log_step [] (record l { readers = [] }) (Abort start) (record l { readers = []; entries = map g l.entries }) (kept_entries key s q gone l k) (record { entry = may.entry; among = may.among; here = may.here; open_message = may.open_message; untouched = may.untouched; cut = may.cut; single = may.single }, refl)),
      )
