-- Each kind of step keeps the whole rule, and tells of the pass what the word calls say.
use Rattle.std.proofs.Common.{◌≡◌, ◌⊎◌, inl, inr, ℕ, zero, suc, ◌+◌, ◌-◌, ◌*◌, ◌%◌, ◌^◌, ◌<◌, ◌≤◌, eqb, min, List, [], ◌∷◌, ◌++◌, map, length, set, length-set, get_or-set_other, sym, refl, ap, ◌∙◌, subst, ⊎_elim, lt_of_not-le, append_assoc, arith}
use mathlib.Core.Option.{some, some-ne-none}
use mathlib.Core.Logic.{dite}
use native.Mathlib.Decide.{dec_le, ℕ_discrete}
use lib.ListN.{get_elem?}
use lib.IntN.{ℤ_discrete}
use prog.Atomic.{either}
use Rattle.std.specs.Prelude.{slice_index}
use Rattle.std.specs.List.{AllByRecursion}
use Rattle.theory.specs.Position.{framed_length, id_of, max_message}
use Rattle.theory.specs.Bytes.{Identity}
use Rattle.theory.specs.Refusal.{limit_in}
use Rattle.theory.specs.Words.{id_before, id_in, offset_in, tail_word}
use Rattle.theory.proofs.Lists.{all_append, all_behind, all_front}
use Rattle.publication.specs.declared.pass.FrameWords.{FrameWords}
use Rattle.publication.specs.declared.pass.Pass.{Pass}
use Rattle.publication.specs.declared.step.WordStep.TheVariants as steps
use Rattle.publication.specs.Steps.{Adds, Arms, Commits, Counts, ExchangesCount, Extent, HasWord, Nexts, Rotates, Sees, Stores, addition, count_in, disarmed, extent_of, frames_of, geometry_of, message_at, noted, padding_at, tail_exchange, tail_step, term_of, with_armed, with_begun, with_count, with_full, with_limit, with_work, written}
use Rattle.position.specs.Words.{frame_words}
use Rattle.publication.specs.Frames.{CompletesFrame}
use Rattle.log_rule.specs.Claims.Packs.{count_place, limit_place, slot, tail_place}
use Rattle.log_rule.specs.Claims.Sums.{covers, total}
use Rattle.log_rule.specs.Claims.Rule.{Bounds, ClaimsHold, first_of, shape_of}
use Rattle.log_rule.specs.Claims.Memory.{IsAligned, IsCommittedFrame, IsOpen, Memory, Ruled, StandsInTable, tail_of}
use Rattle.log_rule.specs.Claims.Admits.{Admits, Same}
use Rattle.log_rule.proofs.Claimed.Totals.{total_append, total_at}
use Rattle.log_rule.proofs.Claimed.Tails.{elsewhere}
use Rattle.log_rule.proofs.Claimed.Accounts.{moved, read_off, same_over, same_room, unchanged}
use Rattle.log_rule.proofs.Claimed.Looks as looks
use Rattle.log_rule.proofs.Claimed.Turning as turning
use Rattle.log_rule.proofs.Claimed.Adding as adding
use Rattle.log_rule.proofs.Claimed.Memories.{Covered, Opens, Stays, cover_passes, held_by, held_is, maps_append, opened, stayed}
use Rattle.log_rule.proofs.Claimed.Storing.{rewritten, same_place}

pub set_at : {A : Type 0} (l : List A) (i : ℕ) (v w : A) → get_elem? l i ≡ some v → get_elem? (set l i w) i ≡ some w
set_at [] i v w e = absurd (some-ne-none v (sym e))
set_at (x ∷ xs) zero v w e = refl
set_at (x ∷ xs) (suc i) v w e = set_at xs i v w e

-- ---- steps on control words

-- a pass that stays in the rule stays one of its log
same : (b : Bounds) (ws ws' : List ℕ) (ps : List Pass) (id : ℕ) (v w : Pass) (r : ClaimsHold b ws ps) (r' : ClaimsHold b ws' (set ps id w)) → get_elem? ps id ≡ some v → w.number ≡ v.number → w.right.parts ≡ v.right.parts → w.right.numbers ≡ v.right.numbers → w.reading ≡ v.reading → w.keeping ≡ v.keeping → Same v w
same b ws ws' ps id v w r r' at number parts numbers reading keeping = let k = r.each id v at in let k' = r'.each id w (set_at ps id v w at) in record { identity = k'.identity ∙ sym k.identity; start = k'.start ∙ sym k.start; number = number; parts = parts; numbers = numbers; reading = reading; keeping = keeping }

-- a step on a control word that keeps the claims keeps the words of the stream
framing : (b : Bounds) (id : ℕ) (v : Pass) (i : ℕ) (f : ℕ → ℕ) (told : ℕ → Pass → Type 0) → i < 208 → Admits (ClaimsHold b) id v i f told → ((n : ℕ) (w : Pass) → told n w → Stays v w ⊎ Opens v w) → Admits (Ruled b) id v i f (λ n w. Same v w × told n w)
framing b id v i f told low go grows ws ps r at = let g = go ws ps r.claims at in let n : ℕ = f (slice_index ws i) in (
  g.0,
  record {
    claims = g.1;
    memory = ⊎_elim
        (λ (s : Stays v g.0). stayed b ws ps r.memory id i n v g.0 low at record { claims = s.claims; work = s.work })
        (λ (o : Opens v g.0). opened b ws ps r.claims r.memory id i n v g.0 g.1 low at (set_at ps id v g.0 at) o)
        (grows (slice_index ws i) g.0 g.2);
  },
  (same b ws (set ws i n) ps id v g.0 r.claims g.1 at (⊎_elim (λ (s : Stays v g.0). s.number) (λ (o : Opens v g.0). o.number) (grows (slice_index ws i) g.0 g.2)) (⊎_elim (λ (s : Stays v g.0). s.parts) (λ (o : Opens v g.0). o.parts) (grows (slice_index ws i) g.0 g.2)) (⊎_elim (λ (s : Stays v g.0). s.numbers) (λ (o : Opens v g.0). o.numbers) (grows (slice_index ws i) g.0 g.2)) (⊎_elim (λ (s : Stays v g.0). s.reading) (λ (o : Opens v g.0). o.reading) (grows (slice_index ws i) g.0 g.2)) (⊎_elim (λ (s : Stays v g.0). s.keeping) (λ (o : Opens v g.0). o.keeping) (grows (slice_index ws i) g.0 g.2)), g.2),
)

pub stays : (v w x : Pass) → x.number ≡ v.number → x.right.parts ≡ v.right.parts → x.right.numbers ≡ v.right.numbers → x.right.claims ≡ v.right.claims → x.work ≡ v.work → x.reading ≡ v.reading → x.keeping ≡ v.keeping → w ≡ x → Stays v w ⊎ Opens v w
stays v w x m d u a c r k e = inl record { number = ap (λ y. y.number) e ∙ m; parts = ap (λ y. y.right.parts) e ∙ d; numbers = ap (λ y. y.right.numbers) e ∙ u; claims = ap (λ y. y.right.claims) e ∙ a; work = ap (λ y. y.work) e ∙ c; reading = ap (λ y. y.reading) e ∙ r; keeping = ap (λ y. y.keeping) e ∙ k }

pub arms_grows : (v : Pass) (n : ℕ) (w : Pass) → Arms v n w → Stays v w ⊎ Opens v w
arms_grows v n w t = dite (ℤ_discrete (id_in n) (id_of (geometry_of v) v.seen.count))
    (λ named. dite (dec_le (term_of v) (offset_in n))
    (λ full. stays v w (noted (tail_step v n) (with_full v v.seen.count)) refl refl refl refl refl refl refl (t.used_up named full))
    (λ no. let room = lt_of_not-le no in dite (dec_le (limit_in v.right.limit) (v.seen.count * term_of v + offset_in n))
    (λ past. stays v w (noted (tail_step v n) v) refl refl refl refl refl refl refl (t.limited named room past))
    (λ not. stays v w (noted (tail_step v n) (with_armed v)) refl refl refl refl refl refl refl (t.below named room (lt_of_not-le not)))))
    (λ other. stays v w (noted (tail_step v n) v) refl refl refl refl refl refl refl (t.other other))

pub adds_grows : (v : Pass) (size n : ℕ) (w : Pass) → Adds v size n w → Stays v w ⊎ Opens v w
adds_grows v size n w t = dite (dec_le (offset_in n + framed_length (geometry_of v) size) (term_of v))
    (λ fits. let e = t.fits fits in inr record { claim = message_at v n size; number = ap (λ y. y.number) e; parts = ap (λ y. y.right.parts) e; numbers = ap (λ y. y.right.numbers) e; claims = ap (λ y. y.right.claims) e; frames = ap (λ y. y.work.frames) e; drafts = ap (λ y. y.work.drafts) e; reading = ap (λ y. y.reading) e; keeping = ap (λ y. y.keeping) e })
    (λ no. dite (dec_le (term_of v) (offset_in n))
    (λ full. stays v w (noted (addition v size n) (with_full (disarmed v) (count_in (geometry_of v) n))) refl refl refl refl refl refl refl (t.over full))
    (λ not. let e = t.trips (lt_of_not-le not) (lt_of_not-le no) in inr record { claim = padding_at v n; number = ap (λ y. y.number) e; parts = ap (λ y. y.right.parts) e; numbers = ap (λ y. y.right.numbers) e; claims = ap (λ y. y.right.claims) e; frames = ap (λ y. y.work.frames) e; drafts = ap (λ y. y.work.drafts) e; reading = ap (λ y. y.reading) e; keeping = ap (λ y. y.keeping) e }))

pub nexts_grows : (v : Pass) (k n : ℕ) (w : Pass) → Nexts v k n w → Stays v w ⊎ Opens v w
nexts_grows v k n w t = dite (ℤ_discrete (id_in n) (id_of (geometry_of v) (k + 1)))
    (λ yes. stays v w (noted (steps.NextTail ((k + 1) % 3) n) (with_begun v (k + 1))) refl refl refl refl refl refl refl (t.begun yes))
    (λ no. stays v w (noted (steps.NextTail ((k + 1) % 3) n) v) refl refl refl refl refl refl refl (t.other no))

pub rotates_grows : (v : Pass) (k from n : ℕ) (w : Pass) → Rotates v k from n w → Stays v w ⊎ Opens v w
rotates_grows v k from n w t = dite (ℕ_discrete n from)
    (λ hit. stays v w (noted (tail_exchange v k from n) (with_begun v (k + 1))) refl refl refl refl refl refl refl (t.begun (inl hit)))
    (λ miss. dite (ℤ_discrete (id_in n) (id_of (geometry_of v) (k + 1)))
    (λ yes. stays v w (noted (tail_exchange v k from n) (with_begun v (k + 1))) refl refl refl refl refl refl refl (t.begun (inr yes)))
    (λ no. stays v w (noted (tail_exchange v k from n) v) refl refl refl refl refl refl refl (t.other miss no)))

pub see : (b : Bounds) (id : ℕ) (v : Pass) → Admits (Ruled b) id v limit_place (λ n. n) (λ n w. Same v w × Sees v n w)
see b id v = framing b id v limit_place (λ n. n) (λ n w. Sees v n w) (omega arith) (looks.see b id v) (λ n w t. stays v w (noted (steps.Limit n) (with_limit v n)) refl refl refl refl refl refl refl t)

pub count : (b : Bounds) (id : ℕ) (v : Pass) → Admits (Ruled b) id v count_place (λ n. n) (λ n w. Same v w × Counts v n w)
count b id v = framing b id v count_place (λ n. n) (λ n w. Counts v n w) (omega arith) (looks.count b id v) (λ n w t. stays v w (noted (steps.Count n) (with_count v n)) refl refl refl refl refl refl refl t.after)

pub arm : (b : Bounds) (id : ℕ) (v : Pass) → 120 ≤ v.right.parts → Admits (Ruled b) id v (tail_place v.seen.count) (λ n. n) (λ n w. Same v w × Arms v n w)
arm b id v able = framing b id v (tail_place v.seen.count) (λ n. n) (λ n w. Arms v n w) (looks.tail_low v.seen.count) (looks.arm b id v able) (λ n w t. arms_grows v n w t)

pub add : (b : Bounds) (id : ℕ) (v : Pass) (size : ℕ) → 120 ≤ v.right.parts → v.right.armed ≡ 1 → size ≤ max_message v.identity.geometry
    → Admits (Ruled b) id v (tail_place v.seen.term) (λ y. (y + framed_length v.identity.geometry size) % 2 ^ 64) (λ y w. Same v w × Adds v size y w)
add b id v size able armed short = framing b id v (tail_place v.seen.term) (λ y. (y + framed_length v.identity.geometry size) % 2 ^ 64) (λ y w. Adds v size y w) (looks.tail_low v.seen.term) (adding.add b id v size able armed short) (λ n w t. adds_grows v size n w t)

pub next : (b : Bounds) (id : ℕ) (v : Pass) (k : ℕ) → v.seen.full ≡ suc k → k + 1 < 2 ^ 31 → Admits (Ruled b) id v (tail_place (k + 1)) (λ n. n) (λ n w. Same v w × Nexts v k n w)
next b id v k full low = framing b id v (tail_place (k + 1)) (λ n. n) (λ n w. Nexts v k n w) (looks.tail_low (k + 1)) (turning.next b id v k full low) (λ n w t. nexts_grows v k n w t)

pub rotate : (b : Bounds) (id : ℕ) (v : Pass) (k from to : ℕ) → v.seen.full ≡ suc k → k + 1 < 2 ^ 31 → id_in from ≡ id_before v.identity.geometry k 2 → to ≡ tail_word (id_of v.identity.geometry (k + 1)) 0
    → Admits (Ruled b) id v (tail_place (k + 1)) (λ n. either (eqb n from) to n) (λ n w. Same v w × Rotates v k from n w)
rotate b id v k from to full low named goes = framing b id v (tail_place (k + 1)) (λ n. either (eqb n from) to n) (λ n w. Rotates v k from n w) (looks.tail_low (k + 1)) (turning.rotate b id v k from to full low named goes) (λ n w t. rotates_grows v k from n w t)

pub advance : (b : Bounds) (id : ℕ) (v : Pass) (old : ℕ) → v.seen.begun ≡ old + 1 → Admits (Ruled b) id v count_place (λ n. either (eqb n old) (old + 1) n) (λ n w. Same v w × ExchangesCount v old n w)
advance b id v old began = framing b id v count_place (λ n. either (eqb n old) (old + 1) n) (λ n w. ExchangesCount v old n w) (omega arith) (turning.advance b id v old began) (λ n w t. stays v w (noted (steps.CountExchange old n) v) refl refl refl refl refl refl refl t.after)

-- ---- stores

-- a store in the stream leaves the claims
data_set : (b : Bounds) (ws : List ℕ) (ps : List Pass) (r : ClaimsHold b ws ps) (id i n : ℕ) (v : Pass) (fs ds : List FrameWords) → 208 ≤ i → get_elem? ps id ≡ some v → ClaimsHold b (set ws i n) (set ps id (with_work fs ds v))
data_set b ws ps r id i n v fs ds far at = let k = r.each id v at in let t = r.terms in let w = with_work fs ds v in
    moved b ws ps r id v w (set ws i n) r.log t at (unchanged (shape_of b) t) (elsewhere (shape_of b) (first_of b) t ws (set ws i n) (λ j some' low. get_or-set_other ws i j n 0 (λ e. omega arith)) r.tailed)
    (record { identity = k.identity; start = k.start; number = k.number; right = k.right; entries = k.entries; seen = k.seen }) refl (length-set ws i n) (get_or-set_other ws i 0 n 0 (λ e. omega arith)) (same_over b ws ps r id v w at refl refl) r.tiles (λ h. refl) (same_room b ws ps r id v w at refl) r.reached

by_pass : (id : ℕ) (v : Pass) (i : ℕ) (f : ℕ → ℕ) (told : ℕ → Pass → Type 0) → ((b : Bounds) → Admits (Ruled (read_off b v)) id v i f told) → (b : Bounds) → Admits (Ruled b) id v i f told
by_pass id v i f told go b ws ps r at = let k = r.claims.each id v at in
    let r' : Ruled (read_off b v) ws ps = subst (λ (x : Identity × ℕ). Ruled (record b { identity = x.0; start = x.1 }) ws ps) (λ j. (sym k.identity j, sym k.start j)) r in let g = go b ws ps r' at in
    (g.0, subst (λ (x : Identity × ℕ). Ruled (record b { identity = x.0; start = x.1 }) (set ws i (f (slice_index ws i))) (set ps id g.0)) (λ j. (k.identity j, k.start j)) g.1, g.2)

-- of the open frames one at most has a position
once : (b : Bounds) (ws : List ℕ) (ps : List Pass) → Ruled b ws ps → (id : ℕ) (v : Pass) → get_elem? ps id ≡ some v → (x : ℕ) → Covered x v.work.drafts ≤ 1
once b ws ps r id v at x = few (Covered x v.work.frames) (Covered x v.work.drafts) (held_by x v) (total (held_by x) ps) (min (x + 1 - b.start) (tail_of b ps - x))
    (held_is b ws v (r.memory.each id v at) x ∙ total_append (λ (f : FrameWords). covers x f.start (8 * length f.words)) v.work.frames v.work.drafts) (total_at (held_by x) ps id v at) (cover_passes b ws ps r.claims x)
  where
    few : (f d h t m : ℕ) → h ≡ f + d → h ≤ t → t ≡ min 1 m → d ≤ 1
    few f d h t m e le is = omega arith

first_kept : (ws : List ℕ) (k n : ℕ) → 0 < k → slice_index (set ws k n) 0 ≡ slice_index ws 0
first_kept [] k n p = refl
first_kept (x ∷ xs) zero n p = absurd (omega arith)
first_kept (x ∷ xs) (suc k) n p = refl

pub first_set : (ws : List ℕ) (n : ℕ) → 0 < length ws → slice_index (set ws 0 n) 0 ≡ n
first_set [] n p = absurd (omega arith)
first_set (x ∷ xs) n p = refl

all_replaced : (P : FrameWords → Type 0) (pre : List FrameWords) (d e : FrameWords) (post : List FrameWords) → (P d → P e) → AllByRecursion P (pre ++ d ∷ post) → AllByRecursion P (pre ++ e ∷ post)
all_replaced P [] d e post f a = (f a.0, a.1)
all_replaced P (x ∷ pre) d e post f a = (a.0, all_replaced P pre d e post f a.1)

all_less : (P : FrameWords → Type 0) (pre : List FrameWords) (d : FrameWords) (post : List FrameWords) → AllByRecursion P (pre ++ d ∷ post) → AllByRecursion P (pre ++ post)
all_less P [] d post a = a.1
all_less P (x ∷ pre) d post a = (a.0, all_less P pre d post a.1)

store_at : (id : ℕ) (v : Pass) (p n : ℕ) → HasWord v 1 p → (b : Bounds) → Admits (Ruled (read_off b v)) id v (slot (geometry_of v) p) (λ _. n) (λ _ w. Same v w × Stores v p n w)
store_at id v p n h b' ws ps r at =
    let b : Bounds = read_off b' v in let d : FrameWords = h.draft in let k : ℕ = h.place in let w : Pass = with_work v.work.frames (h.front ++ written d k n ∷ h.behind) v in let i : ℕ = slot (geometry_of v) p in let m = r.memory.each id v at in
    let from : b.cleaned ≤ d.start = (all_behind (λ f. b.cleaned ≤ f.start) h.front (d ∷ h.behind) (subst (AllByRecursion (λ f. b.cleaned ≤ f.start)) h.parts m.kept)).0 in
    let here : frames_of v ≡ (v.work.frames ++ h.front) ++ d ∷ h.behind = ap (λ l. v.work.frames ++ l) h.parts ∙ sym (append_assoc v.work.frames h.front (d ∷ h.behind)) in
    let there : frames_of w ≡ (v.work.frames ++ h.front) ++ written d k n ∷ h.behind = sym (append_assoc v.work.frames h.front (written d k n ∷ h.behind)) in
    let spot : slot (shape_of b) (d.start + 8 * k) ≡ i = ap (slot (geometry_of v)) (sym h.position) in
    let memory : Memory b (set ws (slot (shape_of b) (d.start + 8 * k)) n) (set ps id w) = rewritten b ws ps r.claims r.memory id k n v w (v.work.frames ++ h.front) d h.behind at here h.inside from record {
      claims = refl;
      stands = λ ws' a. subst (AllByRecursion (StandsInTable b ws')) (sym there) a;
      aligned = λ a. subst (AllByRecursion IsAligned) (sym there) a;
      sums = λ z. ap (λ l. total z (map extent_of l)) there;
      done = m.done;
      undone = all_replaced IsOpen h.front d (written d k n) h.behind (λ z. first_kept d.words k n h.above ∙ z) (subst (AllByRecursion IsOpen) h.parts m.undone);
      kept = all_replaced (λ f. b.cleaned ≤ f.start) h.front d (written d k n) h.behind (λ z. z) (subst (AllByRecursion (λ f. b.cleaned ≤ f.start)) h.parts m.kept);
    } in (
      w,
      record {
        claims = data_set b ws ps r.claims id i n v v.work.frames (h.front ++ written d k n ∷ h.behind) (omega arith) at;
        memory = subst (λ (z : ℕ). Memory b (set ws z n) (set ps id w)) spot memory;
      },
      (
        record { identity = refl; start = refl; number = refl; parts = refl; numbers = refl; reading = refl; keeping = refl },
        λ front draft behind place parts above inside position. same_place p (λ a c e. (j : ℕ) → p ≡ c.start + 8 * j → w ≡ with_work v.work.frames (a ++ written c j n ∷ e) v) h.front d h.behind front draft behind (sym h.parts ∙ parts)
            (has p d.start k (length d.words) h.position h.inside) (has p draft.start place (length draft.words) position inside) (subst (λ l. Covered p l ≤ 1) h.parts (once b ws ps r id v at p))
            (λ j e. ap (λ (z : ℕ). with_work v.work.frames (h.front ++ written d z n ∷ h.behind) v) (one p d.start k j h.position e)) place position,
      ),
    )
  where
    has : (p s k l : ℕ) → p ≡ s + 8 * k → k < l → (s ≤ p) × (p < s + 8 * l)
    has p s k l e lt = (omega arith, omega arith)

    one : (p s k j : ℕ) → p ≡ s + 8 * k → p ≡ s + 8 * j → k ≡ j
    one p s k j e e' = omega arith

-- a word of an open frame that isn't its first
pub store : (b : Bounds) (id : ℕ) (v : Pass) (p n : ℕ) → HasWord v 1 p → Admits (Ruled b) id v (slot (geometry_of v) p) (λ _. n) (λ _ w. Same v w × Stores v p n w)
store b id v p n h = by_pass id v (slot (geometry_of v) p) (λ _. n) (λ _ w. Same v w × Stores v p n w) (store_at id v p n h) b

moved_front : {A : Type 0} (P : A → Type 0) (fs ps qs : List A) (x : A) → AllByRecursion P ((fs ++ ps) ++ x ∷ qs) → AllByRecursion P ((fs ++ x ∷ []) ++ (ps ++ qs))
moved_front P fs ps qs x e = let l = all_front P (fs ++ ps) (x ∷ qs) e in let r = all_behind P (fs ++ ps) (x ∷ qs) e in
    all_append P (fs ++ x ∷ []) (ps ++ qs) (all_append P fs (x ∷ []) (all_front P fs ps l) (r.0, tt)) (all_append P ps qs (all_behind P fs ps l) r.1)

sum_front : (h : Extent → ℕ) (fs ps qs : List FrameWords) (x : FrameWords) → total h (map extent_of ((fs ++ x ∷ []) ++ (ps ++ qs))) ≡ total h (map extent_of ((fs ++ ps) ++ x ∷ qs))
sum_front h fs ps qs x =
    let both : (xs ys : List FrameWords) → total h (map extent_of (xs ++ ys)) ≡ total h (map extent_of xs) + total h (map extent_of ys) = λ xs ys. ap (total h) (maps_append extent_of xs ys) ∙ total_append h (map extent_of xs) (map extent_of ys) in
    let a = both (fs ++ x ∷ []) (ps ++ qs) in let b = both fs (x ∷ []) in let c = both ps qs in let d = both (fs ++ ps) (x ∷ qs) in let e = both fs ps in omega arith

-- the frame that it leaves
pub completed : (v : Pass) (p n : ℕ) (h : CompletesFrame v p n) → 0 < n → IsCommittedFrame v.identity (written h.draft 0 n)
completed v p n h first = record { first = subst (λ (z : ℕ). 0 < z) (sym (first_set h.draft.words n h.inside)) first; content = h.content; legal = h.legal; whole = h.whole; spelt = h.spelt ∙ ap (λ (q : ℕ). frame_words v.identity q h.content) h.position }

commit_at : (id : ℕ) (v : Pass) (p n : ℕ) → CompletesFrame v p n → 0 < n → (b : Bounds) → Admits (Ruled (read_off b v)) id v (slot (geometry_of v) p) (λ _. n) (λ _ w. Same v w × Commits v p n w)
commit_at id v p n h first b' ws ps r at =
    let b : Bounds = read_off b' v in let d : FrameWords = h.draft in let fs : List FrameWords = v.work.frames in let w : Pass = with_work (fs ++ written d 0 n ∷ []) (h.front ++ h.behind) v in let i : ℕ = slot (geometry_of v) p in let m = r.memory.each id v at in
    let from : b.cleaned ≤ d.start = (all_behind (λ f. b.cleaned ≤ f.start) h.front (d ∷ h.behind) (subst (AllByRecursion (λ f. b.cleaned ≤ f.start)) h.parts m.kept)).0 in
    let here : frames_of v ≡ (fs ++ h.front) ++ d ∷ h.behind = ap (λ l. fs ++ l) h.parts ∙ sym (append_assoc fs h.front (d ∷ h.behind)) in
    let spot : slot (shape_of b) (d.start + 8 * 0) ≡ i = ap (slot (geometry_of v)) (let q : d.start + 8 * 0 ≡ p = omega (arith, h.position) in q) in
    let memory : Memory b (set ws (slot (shape_of b) (d.start + 8 * 0)) n) (set ps id w) = rewritten b ws ps r.claims r.memory id 0 n v w (fs ++ h.front) d h.behind at here h.inside from record {
      claims = refl;
      stands = λ ws' a. moved_front (StandsInTable b ws') fs h.front h.behind (written d 0 n) a;
      aligned = λ a. moved_front IsAligned fs h.front h.behind (written d 0 n) a;
      sums = λ z. sum_front z fs h.front h.behind (written d 0 n);
      done = all_append (IsCommittedFrame b.identity) fs (written d 0 n ∷ []) m.done (completed v p n h first, tt);
      undone = all_less IsOpen h.front d h.behind (subst (AllByRecursion IsOpen) h.parts m.undone);
      kept = all_less (λ f. b.cleaned ≤ f.start) h.front d h.behind (subst (AllByRecursion (λ f. b.cleaned ≤ f.start)) h.parts m.kept);
    } in (
      w,
      record {
        claims = data_set b ws ps r.claims id i n v (fs ++ written d 0 n ∷ []) (h.front ++ h.behind) (omega arith) at;
        memory = subst (λ (z : ℕ). Memory b (set ws z n) (set ps id w)) spot memory;
      },
      (
        record { identity = refl; start = refl; number = refl; parts = refl; numbers = refl; reading = refl; keeping = refl },
        λ front draft behind parts inside position. same_place p (λ a c e. w ≡ with_work (fs ++ written c 0 n ∷ []) (a ++ e) v) h.front d h.behind front draft behind (sym h.parts ∙ parts)
            (has p d.start (length d.words) h.position h.inside) (has p draft.start (length draft.words) position inside) (subst (λ l. Covered p l ≤ 1) h.parts (once b ws ps r id v at p)) refl,
      ),
    )
  where
    has : (p s l : ℕ) → p ≡ s → 0 < l → (s ≤ p) × (p < s + 8 * l)
    has p s l e lt = (omega arith, omega arith)

-- the first word of an open frame
pub commit : (b : Bounds) (id : ℕ) (v : Pass) (p n : ℕ) → CompletesFrame v p n → 0 < n → Admits (Ruled b) id v (slot (geometry_of v) p) (λ _. n) (λ _ w. Same v w × Commits v p n w)
commit b id v p n h first = by_pass id v (slot (geometry_of v) p) (λ _. n) (λ _ w. Same v w × Commits v p n w) (commit_at id v p n h first) b
