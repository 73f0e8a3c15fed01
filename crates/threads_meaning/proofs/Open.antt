-- The frame that a pass commits is the next of its claim's entry.
use Rattle.std.proofs.Common.{◌≡◌, ◌≢◌, ◌⊎◌, inl, inr, ⊎_elim, ℕ, ◌+◌, ◌-◌, ◌*◌, ◌<◌, ◌≤◌, Bool, true, false, List, [], ◌∷◌, ◌++◌, length, map, min, sym, refl, ap, ◌∙◌, subst, lt_of_not-le, arith}
use mathlib.Core.Option.{some}
use mathlib.Core.Logic.{dite}
use native.Mathlib.Decide.{dec_le, ℕ_discrete}
use lib.ListN.{get_elem?}
use Rattle.std.specs.List.{AllByRecursion}
use Rattle.std.specs.Prelude.{slice_index}
use Rattle.atomic_table.specs.Table.{State}
use Rattle.theory.specs.Entry.{Entry, HaveFrames, IsEntry, committed}
use Rattle.theory.specs.Placed.{Among, Data, Frame, Pad, Placed, frame_length, payload_of, place_all}
use Rattle.theory.specs.Position.{Geometry, aligned, span}
use Rattle.theory.proofs.Frames.{AreCut, are_cut}
use Rattle.theory.proofs.Lists.{all_at, all_behind, all_front, among_left, among_right}
use Rattle.position.specs.Words.{IsLegal}
use Rattle.publication.specs.declared.pass.ClaimRange.{ClaimRange}
use Rattle.publication.specs.declared.pass.FrameWords.{FrameWords}
use Rattle.publication.specs.declared.pass.Pass.{Pass}
use Rattle.publication.specs.Steps.{Extent, extent_of, extents}
use Rattle.log_rule.specs.declared.claims.view.View.{View}
use Rattle.log_rule.specs.declared.rule.Key.{Key}
use Rattle.log_rule.specs.Claims.Events.{committed_weight}
use Rattle.log_rule.specs.Claims.Packs.{limit_place}
use Rattle.log_rule.specs.Claims.Plays.{pass_in}
use Rattle.log_rule.specs.Claims.Rule.{Bounds, entries_of, entry_of, weight}
use Rattle.log_rule.specs.Claims.Sums.{covers, total}
use Rattle.log_rule.specs.Claims.Memory.{tail_of}
use Rattle.log_rule.specs.Edges.{begins_at, claimed_sum, committed_sum, in_entry, open_sum, open_weight}
use Rattle.log_rule.specs.Table.{LogRuled, now_at}
use Rattle.log_rule.proofs.Claimed.Totals.{total_at}
use Rattle.log_rule.proofs.Known.{among_total}
use Rattle.log_rule.proofs.Sums.{all_parted, covered, covering, has_some, parted, sum_up}
use Rattle.model.specs.Log.{Log, MayAbort, MayCommit}
use Rattle.threads_meaning.specs.Modelled.{IsAborted, IsModelOf, spelled}
use Rattle.threads_meaning.specs.Steps.{IsFrameOf, IsNextFrame}
use Rattle.threads_meaning.proofs.Alike.{HasEntry, alike_total, entry_for}
use Rattle.threads_meaning.proofs.Cut.{ExactCut, IsBehind, IsWithin, committed_total, extent_counts, extent_spelled, locate, not_whole, pieces_push, placed_less, placed_next, placed_push, total_less}
use Rattle.threads_meaning.proofs.Looking.{among_here}

-- ---- a claim is told from another

record IsClaim (a d : Entry) : Type 0 where
  start : d.start ≡ a.start
  owner : d.owner ≡ a.owner
  padding : d.padding ≡ a.padding
  cuts : d.cuts ≡ a.cuts

either_nat : (m n : ℕ) → (m ≡ n) ⊎ (m ≢ n)
either_nat m n = dite (ℕ_discrete m n) inl inr

either_bool : (a b : Bool) → (a ≡ b) ⊎ (a ≢ b)
either_bool true true = inl refl
either_bool true false = inr (λ e. cc)
either_bool false true = inr (λ e. cc)
either_bool false false = inl refl

abbrev head_is : ℕ → List ℕ → ℕ
head_is d [] = d
head_is d (x ∷ xs) = x

abbrev rest_is : List ℕ → List ℕ
rest_is [] = []
rest_is (x ∷ xs) = xs

either_list : (xs ys : List ℕ) → (xs ≡ ys) ⊎ (xs ≢ ys)
either_list [] [] = inl refl
either_list [] (y ∷ ys) = inr (λ e. cc)
either_list (x ∷ xs) [] = inr (λ e. cc)
either_list (x ∷ xs) (y ∷ ys) = ⊎_elim
    (λ (h : x ≡ y). ⊎_elim (λ (t : xs ≡ ys). inl (λ i. h i ∷ t i)) (λ (n : xs ≢ ys). inr (λ e. n (ap rest_is e))) (either_list xs ys))
    (λ (n : x ≢ y). inr (λ e. n (ap (head_is x) e)))
    (either_nat x y)

either_claim : (a d : Entry) → IsClaim a d ⊎ (IsClaim a d → ⊥)
either_claim a d = ⊎_elim
    (λ (s : d.start ≡ a.start). ⊎_elim
    (λ (o : d.owner ≡ a.owner). ⊎_elim
    (λ (p : d.padding ≡ a.padding). ⊎_elim (λ (c : d.cuts ≡ a.cuts). inl record { start = s; owner = o; padding = p; cuts = c }) (λ (n : d.cuts ≢ a.cuts). inr (λ x. n x.cuts)) (either_list d.cuts a.cuts))
    (λ (n : d.padding ≢ a.padding). inr (λ x. n x.padding))
    (either_bool d.padding a.padding))
    (λ (n : d.owner ≢ a.owner). inr (λ x. n x.owner))
    (either_nat d.owner a.owner))
    (λ (n : d.start ≢ a.start). inr (λ x. n x.start))
    (either_nat d.start a.start)

-- 1 for this claim, else 0
is_claim : Entry → Entry → ℕ
is_claim a d = ⊎_elim (λ (_ : IsClaim a d). 1) (λ (_ : IsClaim a d → ⊥). 0) (either_claim a d)

abbrev IsOne : ℕ → Type 0
IsOne n = n ≡ 1

is_itself : (a : Entry) → is_claim a a ≡ 1
unfolding is_claim
is_itself a = go (either_claim a a)
  where
    go : (d : IsClaim a a ⊎ (IsClaim a a → ⊥)) → IsOne (⊎_elim (λ (_ : IsClaim a a). 1) (λ (_ : IsClaim a a → ⊥). 0) d)
    go (inl e) = refl
    go (inr n) = absurd (n record { start = refl; owner = refl; padding = refl; cuts = refl })

is_same : (a d : Entry) → 0 < is_claim a d → IsClaim a d
unfolding is_claim
is_same a d = go (either_claim a d)
  where
    go : (c : IsClaim a d ⊎ (IsClaim a d → ⊥)) → 0 < ⊎_elim (λ (_ : IsClaim a d). 1) (λ (_ : IsClaim a d → ⊥). 0) c → IsClaim a d
    go (inl e) pos = e
    go (inr n) pos = absurd (omega arith)

among_mapped : {A B : Type 0} (f : A → B) (xs : List A) (x : A) → Among x xs → Among (f x) (map f xs)
among_mapped f [] x a = absurd a
among_mapped f (y ∷ ys) x (inl e) = inl (ap f e)
among_mapped f (y ∷ ys) x (inr a) = inr (among_mapped f ys x a)

among_committed : (e : Entry) (es : List Entry) (x : Placed) → Among e es → Among x (place_all e.start e.frames) → Among x (committed es)
among_committed e [] x a b = absurd a
among_committed e (d ∷ es) x (inl same) b = among_left x (place_all d.start d.frames) (committed es) (subst (λ (y : Entry). Among x (place_all y.start y.frames)) same b)
among_committed e (d ∷ es) x (inr a) b = among_right x (place_all d.start d.frames) (committed es) (among_committed e es x a b)

span_more : (done : List ℕ) (next : ℕ) (more : List ℕ) → span done + aligned next ≤ span (done ++ next ∷ more)
span_more [] next more = omega arith
span_more (c ∷ done) next more = let r = span_more done next more in omega arith

regroup : (done : List ℕ) (next : ℕ) (more : List ℕ) (cut : ℕ) (behind : List ℕ) → (done ++ next ∷ more) ++ cut ∷ behind ≡ done ++ next ∷ (more ++ cut ∷ behind)
regroup [] next more cut behind = refl
regroup (c ∷ done) next more cut behind = ap (λ (l : List ℕ). c ∷ l) (regroup done next more cut behind)

module _ (key : Key) (gone : List ℕ) (s : State (Unit {0}) View) (l : Log) (q : LogRuled key s) (k : IsModelOf key gone s l) (id : ℕ) (v : Pass) (at : get_elem? (map pass_in s.views) id ≡ some v) where
  -- a claim of the pass is one of the model's entries
  pub claim_entry : (c : ClaimRange) → Among c v.right.claims → HasEntry (entry_of c) l.entries
  claim_entry c among =
      let ps : List Pass = map pass_in s.views in let a : Entry = entry_of c in let h : Entry → ℕ = is_claim a in let self = is_itself a in
      let one = among_total h (entries_of v) a (among_mapped entry_of v.right.claims c among) in let all = total_at (weight h) ps id v at in let is = k.entries.claimed h in
      let some' : 0 < total h k.entries.log = positive (h a) (total h (entries_of v)) (total (weight h) ps) (total h k.entries.log) self one all is in
      let d = has_some h k.entries.log some' in let same = is_same a d.one d.some in
      let e = entry_for d.one k.entries.log l.entries k.entries.alike (among_here k.entries.log d.place d.one d.at) in
      record {
        entry = e.entry;
        among = e.among;
        is = record {
          start = e.is.start ∙ same.start;
          owner = e.is.owner ∙ same.owner;
          cuts = e.is.cuts ∙ same.cuts;
          padding = ⊎_elim (λ (p : e.entry.padding ≡ d.one.padding). inl (p ∙ same.padding)) (λ (p : IsAborted d.one e.entry). inr record { message = sym same.padding ∙ p.message; padding = p.padding; frames = p.frames }) e.is.padding;
        };
      }
    where
      positive : (n a b c : ℕ) → n ≡ 1 → n ≤ a → a ≤ b → b ≡ c → 0 < c
      positive n a b c e x y z = omega arith

  -- no more than one frame begins at a position
  begins_once : (p : ℕ) → claimed_sum (begins_at p) (map pass_in s.views) ≤ 1
  begins_once p =
      let ps : List Pass = map pass_in s.views in let b : Bounds = now_at key (slice_index s.words limit_place) q.cleaned in
      let less = sum_up (begins_at p) (covering p) ps (λ x. at_covers p x.start x.bytes) in let one = covered b s.words ps q.ruled.claims p in
      bound (claimed_sum (begins_at p) ps) (claimed_sum (covering p) ps) (min (p + 1 - key.start) (tail_of b ps - p)) less one
    where
      at_covers : (p s n : ℕ) → min n (1 - ((s - p) + (p - s))) ≤ covers p s n
      at_covers p s n = omega arith

      bound : (c v m : ℕ) → c ≤ v → v ≡ min 1 m → c ≤ 1
      bound c v m b d = omega arith

  -- so where an open one does, none is committed
  one_begins : (p : ℕ) → committed_sum (begins_at p) (map pass_in s.views) + open_sum (begins_at p) (map pass_in s.views) ≤ 1
  one_begins p = let b : Bounds = now_at key (slice_index s.words limit_place) q.cleaned in let two = all_parted b s.words (map pass_in s.views) q.ruled.memory (begins_at p) in let one = begins_once p in omega arith

  -- what the model has committed at a position
  committed_there : (p : ℕ) (x : Placed) → Among x (committed l.entries) → x.at ≡ p → 0 < frame_length x.frame → 1 ≤ committed_sum (begins_at p) (map pass_in s.views)
  committed_there p x among here long =
      let h : FrameWords → ℕ = λ f. begins_at p (extent_of f) in let i = key.identity in let is = k.entries.frames h in
      let one = among_total h (map (spelled i) (committed l.entries)) (spelled i x) (among_mapped (spelled i) (committed l.entries) x among) in
      let ext : h (spelled i x) ≡ begins_at p (record { start = x.at; bytes = aligned (frame_length x.frame); cut = frame_length x.frame }) = ap (begins_at p) (extent_spelled i x.at x.frame) in
      count p x.at (frame_length x.frame) (h (spelled i x)) (total h (map (spelled i) (committed l.entries))) (committed_sum (begins_at p) (map pass_in s.views)) here long ext one is
    where
      count : (p a n x y z : ℕ) → a ≡ p → 0 < n → x ≡ min (aligned n) (1 - ((a - p) + (p - a))) → x ≤ y → z ≡ y → 1 ≤ z
      count p a n x y z e pos f le g = omega arith

  open_there : (p : ℕ) (d : FrameWords) → Among d v.work.drafts → d.start ≡ p → 0 < length d.words → 1 ≤ open_sum (begins_at p) (map pass_in s.views)
  open_there p d among here long =
      let h : FrameWords → ℕ = λ f. begins_at p (extent_of f) in let one = among_total h v.work.drafts d among in let all = total_at (open_weight (begins_at p)) (map pass_in s.views) id v at in
      count p d.start (length d.words) (h d) (total h v.work.drafts) (open_sum (begins_at p) (map pass_in s.views)) here long refl one all
    where
      count : (p a n x y z : ℕ) → a ≡ p → 0 < n → x ≡ min (8 * n) (1 - ((a - p) + (p - a))) → x ≤ y → y ≤ z → 1 ≤ z
      count p a n x y z e pos f le g = omega arith

  -- the frames of the entry that are committed are those before an open one, below which none of the claim is open
  pub next_exact : (c : ClaimRange) → Among c v.right.claims → (front : List ℕ) (cut : ℕ) (behind : List ℕ) → c.cuts ≡ front ++ cut ∷ behind → (d : FrameWords) → Among d v.work.drafts → d.start ≡ c.start + span front → 0 < length d.words
      → ((d' : FrameWords) → Among d' v.work.drafts → c.start ≤ d'.start → c.start + span front ≤ d'.start) → (x : HasEntry (entry_of c) l.entries) → ExactCut front x.entry.frames
  next_exact c among front cut behind cuts d draft here long first x = ⊎_elim
      (λ (exact : ExactCut front x.entry.frames). exact)
      (λ (r : IsBehind front x.entry.frames ⊎ IsWithin front cut x.entry.frames). ⊎_elim (λ (y : IsBehind front x.entry.frames). absurd (behind_none y)) (λ (y : IsWithin front cut x.entry.frames). absurd (within_none y)) r)
      (locate front cut behind x.entry.frames (subst (λ (l : List ℕ). AreCut l x.entry.frames) parts (are_cut x.entry.padding x.entry.cuts x.entry.frames is.frames)))
    where
      is : IsEntry x.entry
      is = all_at IsEntry x.entry l.entries k.entries.are x.among

      parts : x.entry.cuts ≡ front ++ cut ∷ behind
      parts = x.is.cuts ∙ cuts

      begins : x.entry.start ≡ c.start
      begins = x.is.start

      there : Among x.entry l.entries
      there = x.among

      large : AllByRecursion (λ n. 0 < n) (front ++ cut ∷ behind)
      large = subst (AllByRecursion (λ n. 0 < n)) parts is.cuts

      two : (a b : ℕ) → 1 ≤ a → 1 ≤ b → a + b ≤ 1 → ⊥
      two a b p q le = omega arith

      within_none : IsWithin front cut x.entry.frames → ⊥
      within_none y =
          let p : ℕ = c.start + span front in
          let z : Placed = record { at = x.entry.start + span front; frame = y.frame } in
          let placed : Among z (place_all x.entry.start x.entry.frames) = subst (λ (fs : List Frame). Among z (place_all x.entry.start fs)) (sym y.parts) (subst (Among z) (sym (placed_push x.entry.start front y.done (y.frame ∷ y.more) y.exact)) (among_right z (place_all x.entry.start y.done) (place_all (x.entry.start + span front) (y.frame ∷ y.more)) (inl refl))) in
          let pos : 0 < cut = (all_behind (λ n. 0 < n) front (cut ∷ behind) large).0 in
          two (committed_sum (begins_at p) (map pass_in s.views)) (open_sum (begins_at p) (map pass_in s.views)) (committed_there p z (among_committed x.entry l.entries z there placed) (ap (λ (n : ℕ). n + span front) begins) (subst (λ (n : ℕ). 0 < n) (sym y.long) pos)) (open_there p d draft here long) (one_begins p)

      behind_none : IsBehind front x.entry.frames → ⊥
      behind_none y =
          let ps : List Pass = map pass_in s.views in let b : Bounds = now_at key (slice_index s.words limit_place) q.cleaned in let i = key.identity in
          let at' : ℕ = c.start + span y.done in let h : Extent → ℕ = begins_at at' in
          let pos : 0 < y.next = (all_behind (λ n. 0 < n) y.done (y.next ∷ y.more) (subst (AllByRecursion (λ n. 0 < n)) y.parts (all_front (λ n. 0 < n) front (cut ∷ behind) large))).0 in
          let rest : List ℕ = y.more ++ cut ∷ behind in
          let whole : front ++ cut ∷ behind ≡ y.done ++ y.next ∷ rest = ap (λ (l : List ℕ). l ++ cut ∷ behind) y.parts ∙ regroup y.done y.next y.more cut behind in
          let one : 1 ≤ h (record { start = at'; bytes = aligned y.next; cut = y.next }) = first_one at' y.next pos in
          let mine : 1 ≤ weight (in_entry h) v = trans 1 (h (record { start = at'; bytes = aligned y.next; cut = y.next })) (in_entry h (entry_of c)) (weight (in_entry h) v) one (subst (λ (l : List ℕ). h (record { start = at'; bytes = aligned y.next; cut = y.next }) ≤ total h (extents c.start l)) (sym (cuts ∙ whole)) (extent_counts h c.start y.done y.next rest)) (among_total (in_entry h) (entries_of v) (entry_of c) (among_mapped entry_of v.right.claims c among)) in
          let split = parted b s.words v (q.ruled.memory.each id v at) h in
          let none : total (λ f. h (extent_of f)) v.work.drafts ≡ 0 = dite (dec_le 1 (total (λ f. h (extent_of f)) v.work.drafts))
          (λ some'. let g = has_some (λ f. h (extent_of f)) v.work.drafts some' in let starts = at_start at' g.one.start (length g.one.words) g.some in
          absurd (clash c.start (span y.done) (span front) (aligned y.next) g.one.start starts (first g.one (among_here v.work.drafts g.place g.one g.at) (low c.start (span y.done) g.one.start starts)) (subst (λ (l : List ℕ). span y.done + aligned y.next ≤ span l) (sym y.parts) (span_more y.done y.next y.more)) (up_to y.next pos)))
          (λ no. least (total (λ f. h (extent_of f)) v.work.drafts) (lt_of_not-le no)) in
          let done : 1 ≤ committed_sum h ps = trans3 (weight (in_entry h) v) (committed_weight (λ f. h (extent_of f)) v) (total (λ f. h (extent_of f)) v.work.drafts) (committed_sum h ps) mine split none (total_at (committed_weight (λ f. h (extent_of f))) ps id v at) in
          let sums : committed_sum h ps ≡ total (λ z. total (λ x'. h (extent_of (spelled i x'))) (place_all z.start z.frames)) l.entries = k.entries.frames (λ f. h (extent_of f)) ∙ committed_total i (λ f. h (extent_of f)) l.entries in
          let more : total (λ z. total (λ x'. h (extent_of (spelled i x'))) (place_all z.start z.frames)) l.entries + 1 ≤ total (in_entry h) l.entries = total_less (λ z. total (λ x'. h (extent_of (spelled i x'))) (place_all z.start z.frames)) (in_entry h) l.entries x.entry 1
          (λ z a. placed_less i h z.start z.cuts z.frames (are_cut z.padding z.cuts z.frames (all_at IsEntry z l.entries k.entries.are a).frames)) there
          (trans' (total (λ x'. h (extent_of (spelled i x'))) (place_all x.entry.start x.entry.frames)) (h (record { start = x.entry.start + span y.done; bytes = aligned y.next; cut = y.next })) (in_entry h x.entry) (subst (λ (n : ℕ). 1 ≤ h (record { start = n + span y.done; bytes = aligned y.next; cut = y.next })) (sym begins) one) (subst (λ (l : List ℕ). total (λ x'. h (extent_of (spelled i x'))) (place_all x.entry.start x.entry.frames) + h (record { start = x.entry.start + span y.done; bytes = aligned y.next; cut = y.next }) ≤ total h (extents x.entry.start l)) (sym (parts ∙ whole)) (placed_next i h x.entry.start y.done y.next rest x.entry.frames y.exact))) in
          let same : total (in_entry h) l.entries ≡ claimed_sum h ps = sym (alike_total (in_entry h) (λ a z m. λ j. total h (extents (sym m.start j) (sym m.cuts j))) k.entries.log l.entries k.entries.alike) ∙ sym (k.entries.claimed (in_entry h)) in
          many (committed_sum h ps) (total (λ z. total (λ x'. h (extent_of (spelled i x'))) (place_all z.start z.frames)) l.entries) (total (in_entry h) l.entries) (claimed_sum h ps) done sums more same (begins_once at')
        where
          first_one : (p n : ℕ) → 0 < n → 1 ≤ min (aligned n) (1 - ((p - p) + (p - p)))
          first_one p n pos = omega arith

          up_to : (n : ℕ) → 0 < n → 0 < aligned n
          up_to n pos = omega arith

          trans : (w x y z : ℕ) → w ≤ x → x ≤ y → y ≤ z → w ≤ z
          trans w x y z a b c = omega arith

          trans' : (d h n : ℕ) → 1 ≤ h → d + h ≤ n → d + 1 ≤ n
          trans' d h n a b = omega arith

          at_start : (p s n : ℕ) → 0 < min (8 * n) (1 - ((s - p) + (p - s))) → s ≡ p
          at_start p s n pos = omega arith

          low : (c d s : ℕ) → s ≡ c + d → c ≤ s
          low c d s e = omega arith

          clash : (c d f n s : ℕ) → s ≡ c + d → c + f ≤ s → d + n ≤ f → 0 < n → ⊥
          clash c d f n s e le more pos = omega arith

          least : (n : ℕ) → n < 1 → n ≡ 0
          least n lt = omega arith

          trans3 : (w k d c : ℕ) → 1 ≤ w → w ≡ k + d → d ≡ 0 → k ≤ c → 1 ≤ c
          trans3 w k d c a e f le = omega arith

          many : (k d n c : ℕ) → 1 ≤ k → k ≡ d → d + 1 ≤ n → n ≡ c → c ≤ 1 → ⊥
          many k d n c a e m f le = omega arith

  -- so no entry of an open frame was aborted
  pub not_aborted : (c : ClaimRange) (front : List ℕ) (cut : ℕ) (behind : List ℕ) → c.cuts ≡ front ++ cut ∷ behind → (x : HasEntry (entry_of c) l.entries) → ExactCut front x.entry.frames → x.entry.padding ≡ c.padding
  not_aborted c front cut behind cuts x exact = ⊎_elim
      (λ (e : x.entry.padding ≡ c.padding). e)
      (λ (y : IsAborted (entry_of c) x.entry). absurd (not_whole front cut behind x.entry.frames exact (y.frames ∙ ap (map Pad) (x.is.cuts ∙ cuts))))
      x.is.padding

-- ---- what the model asks

have_frames : (padding : Bool) (front : List ℕ) (cut : ℕ) (behind : List ℕ) (fs : List Frame) (f : Frame) → ExactCut front fs → HaveFrames padding (front ++ cut ∷ behind) fs → IsFrameOf padding front cut behind f → HaveFrames padding (front ++ cut ∷ behind) (fs ++ f ∷ [])
have_frames true [] cut [] [] f x h is = is.2
have_frames true [] cut [] (g ∷ fs) f x h is = absurd x
have_frames true [] cut (b ∷ bs) fs f x h is = let e = is.1 in absurd (cc)
have_frames true (c ∷ front) cut behind fs f x h is = let e = is.0 in absurd (cc)
have_frames false [] cut behind fs f x h is = pieces_push true [] cut behind fs f h x is
have_frames false (c ∷ front) cut behind fs f x h is = pieces_push true (c ∷ front) cut behind fs f h x is

legal_bytes : (g : Geometry) (f : Frame) → IsLegal g f → AllByRecursion (λ b. b < 256) (payload_of f)
legal_bytes g (Data flags payload) legal = legal.2
legal_bytes g (Pad n) legal = tt

exact_none : (fs : List Frame) → ExactCut [] fs → fs ≡ []
exact_none [] x = refl
exact_none (f ∷ fs) x = absurd x

module _ (key : Key) (gone : List ℕ) (s : State (Unit {0}) View) (l : Log) (q : LogRuled key s) (k : IsModelOf key gone s l) (id : ℕ) (v : Pass) (at : get_elem? (map pass_in s.views) id ≡ some v) where
  -- the entry, and how far it is committed
  pub record NextFits (start : ℕ) (f : Frame) (front : List ℕ) (cut : ℕ) (behind : List ℕ) : Type 0 where
    pub may : MayCommit l start f
    pub exact : ExactCut front may.entry.frames
    pub cuts : may.entry.cuts ≡ front ++ cut ∷ behind

  pub next_fits : (start p : ℕ) (f : Frame) (n : IsNextFrame v start p f) (d : FrameWords) → Among d v.work.drafts → d.start ≡ p → 0 < length d.words → IsLegal key.identity.geometry f → NextFits start f n.front n.cut n.behind
  next_fits start p f n d draft here long legal =
      let c : ClaimRange = n.claim in let x = claim_entry key gone s l q k id v at c n.among in let begins : c.start ≡ start = n.here in
      let place : p ≡ c.start + span n.front = n.place ∙ ap (λ (z : ℕ). z + span n.front) (sym begins) in
      let exact = next_exact key gone s l q k id v at c n.among n.front n.cut n.behind n.cuts d draft (here ∙ place) long (λ d' a le. subst (λ (z : ℕ). z ≤ d'.start) place (n.first d' a (subst (λ (z : ℕ). z ≤ d'.start) begins le))) x in
      let same = not_aborted key gone s l q k id v at c n.front n.cut n.behind n.cuts x exact in let cuts : x.entry.cuts ≡ n.front ++ n.cut ∷ n.behind = x.is.cuts ∙ n.cuts in
      record {
        exact = exact;
        cuts = cuts;
        may = record {
          entry = x.entry;
          among = x.among;
          here = x.is.start ∙ begins;
          frames = subst (λ (z : List ℕ). HaveFrames x.entry.padding z (x.entry.frames ++ f ∷ [])) (sym cuts) (have_frames x.entry.padding n.front n.cut n.behind x.entry.frames f exact (subst (λ (z : List ℕ). HaveFrames x.entry.padding z x.entry.frames) cuts (all_at IsEntry x.entry l.entries k.entries.are x.among).frames) (subst (λ (b : Bool). IsFrameOf b n.front n.cut n.behind f) (sym same) n.is));
          bytes = legal_bytes key.identity.geometry f legal;
        };
      }

  pub may_abort : (start : ℕ) (c : ClaimRange) → Among c v.right.claims → c.start ≡ start → c.padding ≡ false → (cut : ℕ) → c.cuts ≡ cut ∷ [] → (d : FrameWords) → Among d v.work.drafts → d.start ≡ start → 0 < length d.words → (may : MayAbort l start) × (may.cut ≡ cut)
  may_abort start c among begins message cut single d draft here long =
      let x = claim_entry key gone s l q k id v at c among in
      let none : start ≡ c.start + span [] = add_none c.start start begins in
      let exact = next_exact key gone s l q k id v at c among [] cut [] single d draft (here ∙ none) long (λ d' a le. subst (λ (z : ℕ). z ≤ d'.start) (add_none c.start c.start refl) le) x in (
        record {
          entry = x.entry;
          among = x.among;
          here = x.is.start ∙ begins;
          open_message = not_aborted key gone s l q k id v at c [] cut [] single x exact ∙ message;
          untouched = exact_none x.entry.frames exact;
          cut = cut;
          single = x.is.cuts ∙ single;
        },
        refl,
      )
    where
      add_none : (c n : ℕ) → c ≡ n → n ≡ c + 0
      add_none c n e = omega arith
