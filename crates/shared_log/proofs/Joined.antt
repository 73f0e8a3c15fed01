-- A consumer joins or leaves by the keeper's stores.
use Rattle.std.proofs.Common.{◌≡◌, ◌≢◌, ℕ, zero, suc, ◌+◌, ◌<◌, ◌≤◌, Bool, true, false, max, ◌-◌, get_or, List, [], ◌∷◌, ◌++◌, length, map, set, length-set, get_or-set_same, get_or-set_other, sym, refl, ap, ◌∙◌, subst, arith}
use Rattle.std.specs.Prelude.{slice_index}
use Rattle.std.proofs.lemmas.List.{length-map, map-set}
use Rattle.publication.specs.declared.pass.Keeping.{Keeping}
use Rattle.publication.specs.declared.pass.Pass.{Pass}
use Rattle.publication.specs.declared.pass.Reading.{Reading}
use Rattle.theory.specs.Bytes.{Identity}
use Rattle.theory.specs.Placed.{Among}
use Rattle.theory.specs.Position.{max_position}
use Rattle.publication.specs.Steps.{term_of}
use Rattle.log_rule.specs.Kept.{IsThere}
use Rattle.log_rule.specs.Keepings.{MayJoin, MayLeave, joined, least_of, least_there, left, newly, numbered}
use Rattle.log_rule.specs.Table.{other_readings, reader_alone}
use Rattle.log_rule.proofs.Growing.{there_low}
use Rattle.shared_log.specs.Steps.Handles.{LogValue}
use Rattle.shared_log.specs.Joining.{Becomes, Begins, Ends, HasConsumer, HasOther, IsFirstFree, IsJoined, Joins as ReaderJoins, KnowsControls, Leaves as ReaderLeaves, begun, with_newcomer}
use Rattle.shared_log.specs.Keepers.{IsKeeping, KeeperValue, KnowsWho, ReadsConsumer, Sweeps, TookSteps, flag_of, keeping_of, reads_of, seen_positions, there_of, those_there}
use Rattle.shared_log.specs.Readers.{IsAlone, IsReading, OnlyReads, ReaderValue, numbers_of}
use Rattle.shared_log.proofs.Sweeping.{least_is, map_same, numbered_is}

-- ---- flags

pub flag_at : (bs : List Bool) (j : ℕ) → slice_index (map flag_of bs) j ≤ 1
flag_at [] j = omega arith
flag_at (true ∷ bs) zero = omega arith
flag_at (false ∷ bs) zero = omega arith
flag_at (b ∷ bs) (suc j) = flag_at bs j

pub flag_is : (bs : List Bool) (j : ℕ) → slice_index (map flag_of bs) j ≡ flag_of (get_or bs j false)
flag_is [] j = refl
flag_is (b ∷ bs) zero = refl
flag_is (b ∷ bs) (suc j) = flag_is bs j

pub flags_eight : (v : Pass) (bs : List Bool) → KnowsWho v bs → length v.keeping.there ≡ 8
flags_eight v bs k = ap length k.flags ∙ length-map bs flag_of ∙ k.many

pub flags_low : (v : Pass) (bs : List Bool) → KnowsWho v bs → (j : ℕ) → slice_index v.keeping.there j ≤ 1
flags_low v bs k j = subst (λ (l : List ℕ). slice_index l j ≤ 1) (sym k.flags) (flag_at bs j)

-- ---- the stores are allowed

-- ---- what the keeper knows then

pub knows_joined : (v : Pass) (bs : List Bool) (number place n : ℕ) → number < 8 → KnowsWho v bs → KnowsWho (joined v number place n) (set bs number true)
knows_joined v bs number place n low k = record {
  many = length-set bs number true ∙ k.many;
  flags = ap (λ (l : List ℕ). set l number 1) k.flags ∙ sym (map-set flag_of bs number true);
  eight = length-set v.keeping.positions number n ∙ k.eight;
  one = number;
  low = low;
  any = get_or-set_same v.keeping.there number 1 0 (let l = flags_eight v bs k in omega arith);
}

pub knows_left : (v : Pass) (bs : List Bool) (place number other : ℕ) → other ≢ number → IsThere v.keeping.there other → other < 8 → KnowsWho v bs → KnowsWho (left v place number) (set bs number false)
knows_left v bs place number other ne there low k = record {
  many = length-set bs number false ∙ k.many;
  flags = ap (λ (l : List ℕ). set l number 0) k.flags ∙ sym (map-set flag_of bs number false);
  eight = k.eight;
  one = other;
  low = low;
  any = get_or-set_other v.keeping.there number other 0 0 ne ∙ there;
}

-- ---- a consumer begins

-- it may where the least was seen
pub may_begin : (l : LogValue) (k q : KeeperValue) (number position : ℕ) (bs : List Bool) → KnowsWho k.held.pass bs → Sweeps l k position q → number < 8 → slice_index (there_of k) number ≡ 0 → MayJoin q.held.pass number position
may_begin l k q number position bs knows s low free =
    let at = least_is (there_of k) (seen_positions q) knows.one knows.any (flags_low k.held.pass bs knows) in let same : there_of q ≡ there_of k = ap (λ (v : Pass). v.keeping.there) s.keeps.pass in record {
      keeper = ap (λ (v : Pass). v.keeping.right) s.keeps.pass ∙ s.is.keeper;
      inside = low;
      free = ap (λ (t : List ℕ). slice_index t number) same ∙ free;
      seen = at.0;
      there = subst (λ (t : List ℕ). IsThere t at.0) (sym same) at.1;
      here = s.least_is ∙ at.2;
      readable = subst (λ (v : Pass). v.keeping.cleaned ≤ max v.start (position - term_of v)) (sym s.keeps.pass) s.stands.readable;
    }

least_apart : (there seen : List ℕ) (number n : ℕ) → slice_index there number ≡ 0 → least_there there (set seen number n) ≡ least_there there seen
least_apart there seen number n free = ap least_of (map_same (slice_index (set seen number n)) (slice_index seen) (numbered 0 there) (λ j a. get_or-set_other seen number j n 0 (λ e. (let x = numbered_is 0 there j a in let y = x.1 in let z = x.2 in let same : x.0 ≡ number = omega (arith, e) in clash (slice_index there (x.0)) (slice_index there number) (ap (slice_index there) same) z free))))
  where
    clash : (x y : ℕ) → x ≡ y → 0 < x → y ≡ 0 → ⊥
    clash x y e pos z = omega arith

pub begins_by : (l : LogValue) (k p q : KeeperValue) (number place position : ℕ) → Sweeps l k position p → number < 8 → slice_index (there_of k) number ≡ 0 → Becomes p (joined p.held.pass number place position) q → KnowsControls p q → TookSteps p 1 q → Begins l k number place position q
begins_by l k p q number place position s low free b control once =
    let kept : keeping_of p ≡ record (keeping_of k) { positions = seen_positions p; reads = reads_of p } = ap (λ (v : Pass). v.keeping) s.keeps.pass in
    let there : there_of p ≡ there_of k = ap (λ (x : Keeping). x.there) kept in
    let positions : seen_positions q ≡ set (seen_positions p) number position = ap (λ (v : Pass). v.keeping.positions) b.pass_is in let reads : reads_of q ≡ reads_of p = ap (λ (v : Pass). v.keeping.reads) b.pass_is in
    let all = s.all in let ne : (j : ℕ) → Among j (those_there k) → j ≢ number = λ j a e. (let x = numbered_is 0 (there_of k) j a in let y = x.1 in let same : x.0 ≡ number = omega (arith, e) in clash (slice_index (there_of k) (x.0)) (slice_index (there_of k) number) (ap (slice_index (there_of k)) same) x.2 free) in record {
      once = reads ∙ s.once;
      all = ap length positions ∙ length-set (seen_positions p) number position ∙ s.all;
      reads = λ j h. subst (ReadsConsumer k j) (sym (ap (λ (ps : List ℕ). slice_index ps j) positions ∙ get_or-set_other (seen_positions p) number j position 0 (ne j h))) (s.reads j h);
      least = s.least_is ∙ sym (ap (least_there (there_of k)) positions ∙ least_apart (there_of k) (seen_positions p) number position free);
      here = ap (λ (ps : List ℕ). slice_index ps number) positions ∙ get_or-set_same (seen_positions p) number position 0 (omega arith);
      becomes = record {
        of = b.of ∙ s.keeps.of;
        seat = b.seat ∙ s.keeps.seat;
        pass_is = b.pass_is ∙ ap (λ (v : Pass). joined v number place position) s.keeps.pass ∙ (λ i. begun k number place position (sym positions i) (sym reads i));
        sure = b.sure ∙ s.keeps.sure;
        freed = b.freed ∙ s.freed;
        limit = b.limit ∙ s.keeps.limit ∙ s.is.limit_is;
        cleaned = b.cleaned ∙ s.keeps.cleaned ∙ s.is.cleaned_is;
      };
      controls = λ one. control (s.keeps.sure ∙ one) ∙ s.keeps.controls one ∙ ap (λ (n : ℕ). record k.held.controls { limit = n }) s.is.limit_is;
      steps = (let x = s.steps in more q.held.steps p.held.steps k.held.steps (length (those_there k)) x once);
    }
  where
    clash : (x y : ℕ) → x ≡ y → 0 < x → y ≡ 0 → ⊥
    clash x y e pos z = omega arith

    more : (q p k n : ℕ) → p ≡ k + n → q ≡ p + 1 → q ≡ k + (n + 1)
    more q p k n a c = omega arith

-- ---- what a reader gets, and gives back

pub joins_by : (l : LogValue) (k p q : KeeperValue) (r : ReaderValue) (number position : ℕ) → Begins l k number 0 position p → IsKeeping k.held.pass k.limit k.cleaned → IsFirstFree (there_of k) number → Becomes p (record p.held.pass { reading = other_readings p.held.pass.reading }) q → KnowsControls p q → TookSteps p 0 q → IsJoined l number position r → ReaderJoins l k r q
joins_by l k p q r number position b is first g control none j =
    let kept : keeping_of q ≡ keeping_of p = ap (λ (v : Pass). v.keeping) g.pass_is in let positions : seen_positions q ≡ seen_positions p = ap (λ (x : Keeping). x.positions) kept in let reads : reads_of q ≡ reads_of p = ap (λ (x : Keeping). x.reads) kept in record {
      once = reads ∙ b.once;
      all = ap length positions ∙ b.all;
      reads = λ i h. subst (λ (ps : List ℕ). ReadsConsumer k i (slice_index ps i)) (sym positions) (b.reads i h);
      least = j.position_is ∙ b.least ∙ ap (least_there (there_of k)) (sym positions);
      here = (λ i. slice_index (positions i) (j.number_is i)) ∙ b.here ∙ sym j.position_is;
      number = subst (IsFirstFree (there_of k)) (sym j.number_is) first;
      reader = subst (λ (x : ℕ × ℕ). IsJoined l x.0 x.1 r) (λ i. (sym j.number_is i, sym j.position_is i)) j;
      keeps = record {
        of = g.of ∙ b.becomes.of;
        seat = g.seat ∙ b.becomes.seat;
        pass = g.pass_is ∙ ap (λ (v : Pass). record v { reading = other_readings v.reading }) b.becomes.pass_is ∙ (λ i. record k.held.pass { keeping = with_newcomer (sym j.number_is i) (sym positions i) (sym reads i) k });
        sure = g.sure ∙ b.becomes.sure;
        controls = λ one. control (b.becomes.sure ∙ one) ∙ b.controls one ∙ ap (λ (n : ℕ). record k.held.controls { limit = n }) (sym is.limit_is);
        limit = g.limit ∙ b.becomes.limit ∙ sym is.limit_is;
        cleaned = g.cleaned ∙ b.becomes.cleaned ∙ sym is.cleaned_is;
      };
      freed = g.freed ∙ b.becomes.freed;
      steps = (let x = b.steps in same q.held.steps p.held.steps (k.held.steps + (length (those_there k) + 1)) x none);
    }
  where
    same : (q p k : ℕ) → p ≡ k → q ≡ p + 0 → q ≡ k
    same q p k a c = omega arith

pub leaves_by : (l : LogValue) (k p q : KeeperValue) (r : ReaderValue) (number : ℕ) → IsAlone l r → Becomes k (record k.held.pass { reading = r.held.pass.reading ++ k.held.pass.reading }) p → KnowsControls k p → TookSteps k 0 p → Ends p 0 number q → ReaderLeaves k number q
leaves_by l k p q r number a g control none e =
    let given : p.held.pass ≡ record k.held.pass { reading = a.consumer ∷ k.held.pass.reading } = g.pass_is ∙ ap (λ (v : Pass). record k.held.pass { reading = v.reading ++ k.held.pass.reading }) a.pass in record {
      becomes = record {
        of = e.becomes.of ∙ g.of;
        seat = e.becomes.seat ∙ g.seat;
        pass_is = e.becomes.pass_is ∙ ap (λ (v : Pass). left v 0 number) given;
        sure = e.becomes.sure ∙ g.sure;
        freed = e.becomes.freed ∙ g.freed;
        limit = e.becomes.limit ∙ g.limit;
        cleaned = e.becomes.cleaned ∙ g.cleaned;
      };
      controls = λ one. e.controls (g.sure ∙ one) ∙ control one;
      steps = (let x = e.steps in same q.held.steps p.held.steps k.held.steps none x);
    }
  where
    same : (q p k : ℕ) → p ≡ k + 0 → q ≡ p + 1 → q ≡ k + 1
    same q p k a c = omega arith

-- ---- readers

single : (rs : List Reading) (n : ℕ) → map (λ (r : Reading). r.number) rs ≡ n ∷ [] → (x : Reading) × (rs ≡ x ∷ [])
single [] n e = absurd (let z = ap length e in omega arith)
single (x ∷ []) n e = (x, refl)
single (x ∷ y ∷ rs) n e = absurd (let z = ap length e in omega arith)

-- a reader's pass stays one consumer
pub still_alone : (l : LogValue) (r q : ReaderValue) → IsAlone l r → OnlyReads r.held.pass q.held.pass → q.place ≡ r.place → IsAlone l q
still_alone l r q a only same =
    let s = single q.held.pass.reading a.consumer.number (only.numbers ∙ ap numbers_of a.pass) in record {
      consumer = s.0;
      pass = only.rest ∙ ap (λ (v : Pass). record v { reading = q.held.pass.reading }) a.pass ∙ ap (λ (rs : List Reading). record (reader_alone l.identity l.start a.consumer) { reading = rs }) s.1;
      place = same ∙ a.place;
    }

-- ---- a consumer ends

pub there_below : (v : Pass) (bs : List Bool) → KnowsWho v bs → (j : ℕ) → IsThere v.keeping.there j → j < 8
there_below v bs k j h = there_low v.keeping.there j (flags_eight v bs k) h

pub may_leave : (k : KeeperValue) (place number : ℕ) → k.held.pass.keeping.right ≡ 1 → HasConsumer k.held.pass place number → HasOther (there_of k) number → MayLeave k.held.pass place number
may_leave k place number one c o = record { keeper = one; consumer = c.consumer; is = c.is; number_is = c.number_is; inside = c.low; other = o.other; another = o.another; there = o.is }

-- a pass that is one consumer reads as that one
pub alone_reading : (v : Pass) (i : Identity) (start number position : ℕ) → v ≡ reader_alone i start (newly number position) → position ≤ max_position i.geometry → IsReading v 0 number position position
alone_reading v i start number position e low = subst (λ (p : Pass). IsReading p 0 number position position) (sym e) record {
  consumer = newly number position;
  is = refl;
  number_is = refl;
  position_is = refl;
  read = λ lt. absurd (omega arith);
  low = low;
  low_end = low;
}
