-- Each kind of step is one event of the stream, or a look.
use Rattle.std.proofs.Common.{◌≡◌, ◌⊎◌, inl, inr, ℕ, ◌+◌, ◌-◌, ◌%◌, ◌^◌, ◌<◌, ◌≤◌, eqb, min, List, [], ◌∷◌, ◌++◌, map, set, refl, ap, ◌∙◌, subst, ⊎_elim, arith}
use mathlib.Core.Option.{some}
use lib.ListN.{get_elem?}
use prog.Atomic.{either}
use Rattle.std.specs.Prelude.{slice_index}
use Rattle.std.specs.List.{AllByRecursion}
use Rattle.theory.specs.Position.{framed_length, id_of}
use Rattle.theory.specs.Entry.{Entry, length_of}
use Rattle.theory.specs.Bytes.{Identity}
use Rattle.theory.specs.Words.{tail_word}
use Rattle.theory.proofs.Lists.{all_behind}
use Rattle.publication.specs.declared.pass.ClaimRange.{ClaimRange}
use Rattle.publication.specs.declared.pass.FrameWords.{FrameWords}
use Rattle.publication.specs.declared.pass.Pass.{Pass}
use Rattle.publication.specs.Steps.{Adds, Arms, Commits, Counts, ExchangesCount, HasWord, Nexts, Rotates, Sees, Stores, geometry_of, noted, with_count, with_limit, written}
use Rattle.publication.specs.declared.step.WordStep.TheVariants as steps
use Rattle.publication.specs.Frames.{CompletesFrame}
use Rattle.log_rule.specs.Claims.Packs.{count_place, limit_place, slot, tail_place}
use Rattle.log_rule.specs.Claims.Sums.{covers, total}
use Rattle.log_rule.specs.Claims.Rule.{Bounds, IsClaimEntry, entries_of, entry_of, weight}
use Rattle.log_rule.specs.Claims.Memory.{IsCommittedFrame, Ruled, tail_of}
use Rattle.log_rule.specs.Claims.Admits.{Admits, Same}
use Rattle.log_rule.specs.Claims.Events.{Eventful, IsClaimed, IsLook, StepsAreEvents, committed_weight}
use Rattle.log_rule.proofs.Claimed.Totals.{total_append, total_set}
use Rattle.log_rule.proofs.Claimed.Memories.{Opens, Stays, cover_passes, held_by, maps_append}
use Rattle.log_rule.proofs.Claimed.Whole as whole

-- ---- sums, where one pass has changed

same_sum : (f : Pass → ℕ) (ps : List Pass) (id : ℕ) (v w : Pass) → get_elem? ps id ≡ some v → f w ≡ f v → total f (set ps id w) ≡ total f ps
same_sum f ps id v w at e = let a = total_set f ps id v w at in omega arith

more_sum : (f : Pass → ℕ) (ps : List Pass) (id : ℕ) (v w : Pass) (n : ℕ) → get_elem? ps id ≡ some v → f w ≡ f v + (n + 0) → total f (set ps id w) ≡ total f ps + n
more_sum f ps id v w n at e = let a = total_set f ps id v w at in omega arith

-- ---- events

pub look : (ps : List Pass) (id : ℕ) (v w : Pass) → get_elem? ps id ≡ some v → w.right.claims ≡ v.right.claims → w.work.frames ≡ v.work.frames → IsLook ps (set ps id w)
look ps id v w at a c = record {
  claimed = λ h. same_sum (weight h) ps id v w at (ap (λ l. total h (map entry_of l)) a);
  committed = λ h. same_sum (committed_weight h) ps id v w at (ap (total h) c);
}

-- a claim begins where the stream ended
tail_there : (s tail tail' before now m p : ℕ) → s ≤ tail → 0 < m → tail' ≡ tail + m → now ≡ before + covers tail p m → now ≡ min 1 (min (tail + 1 - s) (tail' - tail)) → before ≡ min 1 (min (tail + 1 - s) (tail - tail)) → p ≤ tail
tail_there s tail tail' before now m p up pos e sum is was = omega arith

start_there : (s tail tail' before now m p : ℕ) → 0 < m → now ≡ before + covers p p m → now ≡ min 1 (min (p + 1 - s) (tail' - p)) → before ≡ min 1 (min (p + 1 - s) (tail - p)) → tail ≤ p
start_there s tail tail' before now m p pos sum is was = omega arith

claim : (b : Bounds) (ws ws' : List ℕ) (ps : List Pass) (id : ℕ) (v w : Pass) → Ruled b ws ps → Ruled b ws' (set ps id w) → get_elem? ps id ≡ some v → Opens v w → IsClaimed b ps (set ps id w)
claim b ws ws' ps id v w r r' at g =
    let c : ClaimRange = g.claim in let e : Entry = entry_of c in let ps' : List Pass = set ps id w in
    let entries : entries_of w ≡ entries_of v ++ e ∷ [] = ap (map entry_of) g.claims ∙ maps_append entry_of v.right.claims (c ∷ []) in
    let weighs : (h : Entry → ℕ) → total (weight h) ps' ≡ total (weight h) ps + h e = λ h. more_sum (weight h) ps id v w (h e) at (ap (total h) entries ∙ total_append h (entries_of v) (e ∷ [])) in
    let legal : IsClaimEntry e = (all_behind IsClaimEntry (entries_of v) (e ∷ []) (subst (AllByRecursion IsClaimEntry) entries (r'.claims.each id w (whole.set_at ps id v w at)).entries)).0 in
    let m : ℕ = length_of e in let long : 0 < m = legal.entry.long in
    let far : tail_of b ps' ≡ tail_of b ps + m = (let a = weighs length_of in more b.start (total (weight length_of) ps) (total (weight length_of) ps') m a) in
    let up : b.start ≤ tail_of b ps = least b.start (total (weight length_of) ps) in
    let sum : (x : ℕ) → total (held_by x) ps' ≡ total (held_by x) ps + covers x c.start m = λ x. weighs (λ d. covers x d.start (length_of d)) in
    let t : ℕ = tail_of b ps in
    let low : c.start ≤ t = tail_there b.start t (tail_of b ps') (total (held_by t) ps) (total (held_by t) ps') m c.start up long far (sum t) (cover_passes b ws' ps' r'.claims t) (cover_passes b ws ps r.claims t) in
    let high : t ≤ c.start = start_there b.start t (tail_of b ps') (total (held_by c.start) ps) (total (held_by c.start) ps') m c.start long (sum c.start) (cover_passes b ws' ps' r'.claims c.start) (cover_passes b ws ps r.claims c.start) in record {
      entry = e;
      legal = legal.entry;
      at_tail = both c.start t low high;
      claimed = weighs;
      committed = λ h. same_sum (committed_weight h) ps id v w at (ap (total h) g.frames);
    }
  where
    more : (s old now m : ℕ) → now ≡ old + m → s + now ≡ s + old + m
    more s old now m e = omega arith

    least : (s n : ℕ) → s ≤ s + n
    least s n = omega arith

    both : (a c : ℕ) → a ≤ c → c ≤ a → a ≡ c
    both a c p q = omega arith

eventful : (b : Bounds) (id : ℕ) (v : Pass) (i : ℕ) (f : ℕ → ℕ) (told : ℕ → Pass → Type 0) → Admits (Ruled b) id v i f (λ n w. Same v w × told n w) → ((n : ℕ) (w : Pass) → told n w → Stays v w ⊎ Opens v w) → Eventful b id v i f told
eventful b id v i f told go grows ws ps r at = let g = go ws ps r at in (
  g.0,
  g.1,
  g.2.0,
  g.2.1,
  ⊎_elim
      (λ (s : Stays v g.0). inl (look ps id v g.0 at s.claims (ap (λ k. k.frames) s.work)))
      (λ (o : Opens v g.0). inr (inl (claim b ws (set ws i (f (slice_index ws i))) ps id v g.0 r g.1 at o)))
      (grows (slice_index ws i) g.0 g.2.1),
)

stored : (b : Bounds) (id : ℕ) (v : Pass) (p x : ℕ) → HasWord v 1 p → Eventful b id v (slot (geometry_of v) p) (λ _. x) (λ _ w. Stores v p x w)
stored b id v p x h ws ps r at = let g = whole.store b id v p x h ws ps r at in let e = g.2.1 h.front h.draft h.behind h.place h.parts h.above h.inside h.position in (
  g.0,
  g.1,
  g.2.0,
  g.2.1,
  inl (look ps id v g.0 at (ap (λ y. y.right.claims) e) (ap (λ y. y.work.frames) e)),
)

committed : (b : Bounds) (id : ℕ) (v : Pass) (p x : ℕ) → CompletesFrame v p x → 0 < x → Eventful b id v (slot (geometry_of v) p) (λ _. x) (λ _ w. Commits v p x w)
committed b id v p x h pos ws ps r at = let g = whole.commit b id v p x h pos ws ps r at in let e = g.2.1 h.front h.draft h.behind h.parts h.inside h.position in let f : FrameWords = written h.draft 0 x in (
  g.0,
  g.1,
  g.2.0,
  g.2.1,
  inr (inr record {
    frame = f;
    done = subst (λ (i : Identity). IsCommittedFrame i f) (r.claims.each id v at).identity (whole.completed v p x h pos);
    claimed = λ k. same_sum (weight k) ps id v g.0 at (ap (λ y. total k (map entry_of y.right.claims)) e);
    committed = λ k. more_sum (committed_weight k) ps id v g.0 (k f) at (ap (λ y. total k y.work.frames) e ∙ total_append k v.work.frames (f ∷ []));
  }),
)

pub steps_are_events : StepsAreEvents
steps_are_events = record {
  load_limit = λ b id v. eventful b id v limit_place (λ n. n) (λ n w. Sees v n w) (whole.see b id v) (λ n w t. whole.stays v w (noted (steps.Limit n) (with_limit v n)) refl refl refl refl refl refl refl t);
  load_count = λ b id v. eventful b id v count_place (λ n. n) (λ n w. Counts v n w) (whole.count b id v) (λ n w t. whole.stays v w (noted (steps.Count n) (with_count v n)) refl refl refl refl refl refl refl t.after);
  load_tail = λ b id v able. eventful b id v (tail_place v.seen.count) (λ n. n) (λ n w. Arms v n w) (whole.arm b id v able) (λ n w t. whole.arms_grows v n w t);
  add = λ b id v size able armed short. eventful b id v (tail_place v.seen.term) (λ y. (y + framed_length v.identity.geometry size) % 2 ^ 64) (λ y w. Adds v size y w) (whole.add b id v size able armed short) (λ n w t. whole.adds_grows v size n w t);
  load_next = λ b id v k full low. eventful b id v (tail_place (k + 1)) (λ n. n) (λ n w. Nexts v k n w) (whole.next b id v k full low) (λ n w t. whole.nexts_grows v k n w t);
  exchange_next = λ b id v k from full low named. eventful b id v (tail_place (k + 1)) (λ n. either (eqb n from) (tail_word (id_of v.identity.geometry (k + 1)) 0) n) (λ n w. Rotates v k from n w) (whole.rotate b id v k from (tail_word (id_of v.identity.geometry (k + 1)) 0) full low named refl) (λ n w t. whole.rotates_grows v k from n w t);
  exchange_count = λ b id v k began. eventful b id v count_place (λ n. either (eqb n k) (k + 1) n) (λ n w. ExchangesCount v k n w) (whole.advance b id v k began) (λ n w t. whole.stays v w (noted (steps.CountExchange k n) v) refl refl refl refl refl refl refl t.after);
  store = stored;
  commit = committed;
}
