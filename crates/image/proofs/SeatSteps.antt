-- The steps, by what the handles know.
use Rattle.std.proofs.Common.{◌≡◌, ℕ, ◌+◌, ◌%◌, ◌<◌, List, [], ◌∷◌, ◌++◌, length, length-append, inl, refl, sym, ap, ◌∙◌, subst, arith}
use Rattle.std.specs.Int.{bit_at}
use Rattle.std.proofs.lemmas.Nat.Bits.{bit_at-lt}
use mathlib.Core.Logic.{dite}
use native.Mathlib.Decide.{ℕ_discrete}
use Rattle.atomic_table.specs.Table.{Allows, rest}
use Rattle.region.specs.declared.access.ReadAccess.{ReadAccess}
use Rattle.region.specs.declared.access.RegionKey.{RegionKey}
use Rattle.image_rule.specs.declared.view.Frame.{Frame}
use Rattle.image_rule.specs.declared.view.Key.{Key}
use Rattle.image_rule.specs.declared.view.Site.{Site}
use Rattle.image_rule.specs.declared.view.View.{View}
use Rattle.image_rule.specs.Frames.{Among, IsPart, held_place, image_length, ring, slot_of}
use Rattle.image_rule.specs.Reads.{IsRead, first_of}
use Rattle.image_rule.specs.Rule.{ImageRuled, consumer_place, image_place}
use Rattle.image_rule.specs.Steps.{Changes, Commits, Fetches, FindsPart, Frees, Looks, May, MayCommit, MayFree, MayMove, MayRaise, MayStore, MayTake, Mine, Sweeps, TakesPart, TakesSlots, told}
use Rattle.image_rule.proofs.Found.{is_before}
use Rattle.image_rule.proofs.Moves.{change, fetch, look, sweep}
use Rattle.image_rule.proofs.Slots.{commit, free, take}
use Rattle.image.specs.Parts.{CarriesPart, HoldsPart, part_in}

-- ---- a reader

pub look_here : (t chosen : Site) (key : Key) (slots id : ℕ) (m : Mine) (place unit : ℕ) → t.key ≡ key → chosen ≡ t → m.0.reading.reads ≡ 1 → unit ≡ m.0.reading.unit → place ≡ held_place (ring key) unit
    → Allows (ImageRuled t) slots id m (image_place + place) (λ n. n) (Looks chosen m)
look_here t chosen key slots id m place unit is pick one at there =
    subst (λ (x : ℕ × Site). Allows (ImageRuled t) slots id m (image_place + x.0) (λ n. n) (Looks x.1 m)) (λ j. (sym (there ∙ (λ k. held_place (ring (sym is k)) (at k))) j, sym pick j)) (look t slots id m one)

first_among : (known : List Frame) → 0 < length known → Among (first_of known) known
first_among [] some = absurd (omega arith)
first_among (f ∷ fs) some = inl refl

-- the part that was taken, as what is carried
held_part : (n : ℕ) (region : RegionKey) (f : Frame) (v : View) (mine : List (ℕ × ReadAccess)) → first_of v.reading.known ≡ f → 0 < length v.reading.known → f.unit ≡ v.reading.unit → TakesPart n region f [] v.reading.number v mine → HoldsPart n region (v, mine)
held_part n region f v mine first some here takes =
    let same : takes.part ≡ part_in mine = ap part_in (sym takes.after) in
    record {
      some = some;
      here = ap (λ (x : Frame). x.unit) first ∙ here;
      is = subst (λ (x : Frame × ReadAccess). IsPart n region x.0 v.reading.round v.reading.book x.1) (λ j. (sym first j, same j)) takes.is;
      after = takes.after ∙ (λ j. (slot_of n (sym first j).unit v.reading.number, same j) ∷ []);
    }

pub taken_part : (n : ℕ) (region : RegionKey) (m : Mine) → HoldsPart n region m → TakesPart n region (first_of m.0.reading.known) [] m.0.reading.number m.0 m.1
taken_part n region m h = record { part = part_in m.1; is = h.is; after = h.after }

carries_part : (t : Site) (m m' : Mine) → CarriesPart (ring t.key) t.region m → FindsPart t m m' → HoldsPart (ring t.key) t.region m'
carries_part t m m' carries found =
    let f : Frame = found.found.frame in let a = found.found.after in
    let known : m'.0.reading.known ≡ f ∷ m.0.reading.known = ap (λ (v : View). v.reading.known) a in
    let number : m'.0.reading.number ≡ m.0.reading.number = ap (λ (v : View). v.reading.number) a in
    let unit : m'.0.reading.unit ≡ m.0.reading.unit = ap (λ (v : View). v.reading.unit) a in
    let few = carries.one in
    let takes : TakesPart (ring t.key) t.region f [] m.0.reading.number m'.0 m'.1 =
    dite (ℕ_discrete m.0.reading.holds 1)
    (λ one.
    let h = carries.part one in let same = found.has one in
    let g : Frame = first_of m.0.reading.known in
    let e : g ≡ f = found.found.only g (first_among m.0.reading.known h.some) h.here in
    record {
      part = part_in m.1;
      is = subst (λ (x : Frame × ℕ × ℕ). IsPart (ring t.key) t.region x.0 x.1 x.2 (part_in m.1)) (λ j. (e j, sym same.1 j, sym same.2 j)) h.is;
      after = same.0 ∙ h.after ∙ (λ j. (slot_of (ring t.key) (e j).unit m.0.reading.number, part_in m.1) ∷ []);
    })
    (λ no'. let zero_is : m.0.reading.holds ≡ 0 = omega arith in subst (λ (l : List (ℕ × ReadAccess)). TakesPart (ring t.key) t.region f l m.0.reading.number m'.0 m'.1) (carries.none zero_is) (found.takes zero_is)) in
    held_part (ring t.key) t.region f m'.0 m'.1 (ap first_of known) (subst (λ (l : List Frame). 0 < length l) (sym known) (omega arith)) (found.found.here ∙ sym unit)
    (subst (λ (x : ℕ). TakesPart (ring t.key) t.region f [] x m'.0 m'.1) (sym number) takes)

-- a look leaves it with a part where it found one
look_carries : (t : Site) (n : ℕ) (m m' : Mine) → CarriesPart (ring t.key) t.region m → Looks t m n m' → CarriesPart (ring t.key) t.region m'
look_carries t n m m' carries looks =
    let b = bit_at-lt n (m.0.reading.unit % 64) in
    dite (ℕ_discrete (bit_at n (m.0.reading.unit % 64)) 1)
    (λ one.
    let found = looks.found one in let holds : m'.0.reading.holds ≡ 1 = ap (λ (v : View). v.reading.holds) found.found.after in
    record { one = omega arith; none = λ z. absurd (omega arith); part = λ _. carries_part t m m' carries found })
    (λ no'.
    let none = looks.none (omega arith) in
    subst (CarriesPart (ring t.key) t.region) (λ j. (sym none.0 j, sym none.1 j)) (record { one = carries.one; none = carries.none; part = λ one. let h = carries.part one in record { some = h.some; here = h.here; is = h.is; after = h.after } }))

pub look_carries_here : (t chosen : Site) (key : Key) (units n : ℕ) (region : RegionKey) (m m' : Mine) → t.key ≡ key → chosen ≡ t → units ≡ ring key → region ≡ t.region → CarriesPart units region m → Looks chosen m n m' → CarriesPart units region m'
look_carries_here t chosen key units n region m m' is pick size lies carries looks =
    let e : units ≡ ring t.key = size ∙ ap ring (sym is) in
    subst (λ (x : ℕ × RegionKey). CarriesPart x.0 x.1 m') (λ j. (sym e j, sym lies j)) (look_carries t n m m' (subst (λ (x : ℕ × RegionKey). CarriesPart x.0 x.1 m) (λ j. (e j, lies j)) carries) (subst (λ (x : Site). Looks x m n m') pick looks))

-- what stays of a reader's view, whatever it looks at
pub record StaysReader (v w : View) : Type 0 where
  pub inserting : w.inserting ≡ v.inserting
  pub reads : w.reading.reads ≡ v.reading.reads
  pub number : w.reading.number ≡ v.reading.number
  pub unit : w.reading.unit ≡ v.reading.unit

pub look_stays : (t : Site) (n : ℕ) (m m' : Mine) → Looks t m n m' → StaysReader m.0 m'.0
look_stays t n m m' looks =
    let b = bit_at-lt n (m.0.reading.unit % 64) in
    dite (ℕ_discrete (bit_at n (m.0.reading.unit % 64)) 1)
    (λ one.
    let a = (looks.found one).found.after in
    record { inserting = ap (λ (v : View). v.inserting) a; reads = ap (λ (v : View). v.reading.reads) a; number = ap (λ (v : View). v.reading.number) a; unit = ap (λ (v : View). v.reading.unit) a })
    (λ no'.
    let a = (looks.none (omega arith)).0 in
    record { inserting = ap (λ (v : View). v.inserting) a; reads = ap (λ (v : View). v.reading.reads) a; number = ap (λ (v : View). v.reading.number) a; unit = ap (λ (v : View). v.reading.unit) a })

-- it may move on from where it has read
pub may_move : (t : Site) (key : Key) (units : ℕ) (region : RegionKey) (m : Mine) (end : ℕ) → t.key ≡ key → units ≡ ring key → region ≡ t.region → m.0.reading.reads ≡ 1 → CarriesPart units region m → IsRead m.0 end × (m.0.reading.holds ≡ 1) → MayMove t (first_of m.0.reading.known) m
may_move t key units region m end is size lies reads carries read =
    let e : units ≡ ring t.key = size ∙ ap ring (sym is) in
    record {
      before = is_before m.0 end reads read.0;
      holds = read.1;
      carries = subst (λ (x : ℕ × RegionKey). TakesPart x.0 x.1 (first_of m.0.reading.known) [] m.0.reading.number m.0 m.1) (λ j. (e j, lies j)) (taken_part units region m (carries.part read.1));
    }

-- ---- the slot in front

-- it is that of the reader's part
pub front_is : (key : Key) (units : ℕ) (region : RegionKey) (m : Mine) (slot unit number : ℕ) → units ≡ ring key → unit ≡ m.0.reading.unit → number ≡ m.0.reading.number → slot ≡ slot_of (ring key) unit number → HoldsPart units region m → m.1 ≡ (slot, part_in m.1) ∷ rest m.1
front_is key units region m slot unit number size at same is h =
    let e : slot_of units (first_of m.0.reading.known).unit m.0.reading.number ≡ slot = (λ j. slot_of (size j) ((h.here ∙ sym at) j) (sym same j)) ∙ sym is in
    h.after ∙ (λ j. (e j, part_in m.1) ∷ ap rest (sym h.after) j)

-- what was taken out is put back
pub back_again : (old mid new : Mine) (slot : ℕ) (a b : ReadAccess) → old.1 ≡ (slot, a) ∷ rest old.1 → mid ≡ (old.0, (slot, b) ∷ rest old.1) → new ≡ (mid.0, (slot, a) ∷ rest mid.1) → new ≡ old
back_again old mid new slot a b front first second = second ∙ (λ j. ((first j).0, (slot, a) ∷ rest (first j).1)) ∙ (λ j. (old.0, sym front j))

-- what an exchange leaves in front
pub front_now : (old mid : Mine) (slot : ℕ) (b : ReadAccess) → mid ≡ (old.0, (slot, b) ∷ rest old.1) → mid.1 ≡ (slot, b) ∷ rest mid.1
front_now old mid slot b is = ap (λ (m : Mine). m.1) is ∙ (λ j. (slot, b) ∷ rest (sym is j).1)

-- ---- the inserter

pub see_here : (t : Site) (key : Key) (slots id : ℕ) (m : Mine) (number j : ℕ) → t.key ≡ key → j ≡ number → m.0.inserting ≡ 1 → number < key.consumers → Allows (ImageRuled t) slots id m (consumer_place number) (λ n. n) (told (Sweeps j) m)
see_here t key slots id m number j is same one lt =
    subst (λ (x : ℕ). Allows (ImageRuled t) slots id m (consumer_place number) (λ n. n) (told (Sweeps x) m)) (sym same) (sweep t slots id m number one (subst (λ (k : Key). number < k.consumers) (sym is) lt))

pub fetch_here : (t : Site) (key : Key) (slots id : ℕ) (m : Mine) (place k : ℕ) → t.key ≡ key → k ≡ place → m.0.inserting ≡ 1 → place < image_length (ring key) → Allows (ImageRuled t) slots id m (image_place + place) (λ n. n) (told (Fetches k) m)
fetch_here t key slots id m place k is same one lt =
    subst (λ (x : ℕ). Allows (ImageRuled t) slots id m (image_place + place) (λ n. n) (told (Fetches x) m)) (sym same) (fetch t slots id m place one (subst (λ (k : Key). place < image_length (ring k)) (sym is) lt))

pub change_here : (t : Site) (key : Key) (slots id : ℕ) (m : Mine) (place k x floor : ℕ) → t.key ≡ key → k ≡ place → place < image_length (ring key) → May key m.0 place x floor m.0.held.got → MayRaise key m.0 floor
    → Allows (ImageRuled t) slots id m (image_place + place) (λ _. x) (λ _. told (λ v n w. Changes k n floor v.held.got v w) m x)
change_here t key slots id m place k x floor is same lt may risen =
    subst (λ (y : ℕ). Allows (ImageRuled t) slots id m (image_place + place) (λ _. x) (λ _. told (λ v n w. Changes y n floor v.held.got v w) m x)) (sym same)
    (change t slots id m place x floor (subst (λ (k : Key). place < image_length (ring k)) (sym is) lt) (subst (λ (k : Key). May k m.0 place x floor m.0.held.got) (sym is) may) (subst (λ (k : Key). MayRaise k m.0 floor) (sym is) risen))

pub take_here : (t chosen : Site) (key : Key) (slots id : ℕ) (m : Mine) (u i : ℕ) → t.key ≡ key → chosen ≡ t → MayTake key m.0 u → Allows (ImageRuled t) slots id m i (λ n. n) (λ _. TakesSlots chosen u m)
take_here t chosen key slots id m u i is pick may =
    subst (λ (x : Site). Allows (ImageRuled t) slots id m i (λ n. n) (λ _. TakesSlots x u m)) (sym pick) (take t slots id m u i (subst (λ (k : Key). MayTake k m.0 u) (sym is) may))

pub commit_here : (t chosen : Site) (key : Key) (slots id : ℕ) (m : Mine) (f : Frame) (place k x : ℕ) → t.key ≡ key → chosen ≡ t → k ≡ place → m.0.inserting ≡ 1 → place < image_length (ring key) → MayStore key m.0.held f place x → MayCommit chosen f m
    → Allows (ImageRuled t) slots id m (image_place + place) (λ _. x) (λ _. Commits k f m x)
commit_here t chosen key slots id m f place k x is pick same one lt may parts =
    subst (λ (y : ℕ). Allows (ImageRuled t) slots id m (image_place + place) (λ _. x) (λ _. Commits y f m x)) (sym same)
    (commit t slots id m f place x one (subst (λ (k : Key). MayStore k m.0.held f place x) (sym is) may) (subst (λ (k : Key). place < image_length (ring k)) (sym is) lt) (subst (λ (s : Site). MayCommit s f m) pick parts))

pub free_here : (t chosen : Site) (slots id : ℕ) (m : Mine) (f : Frame) (i : ℕ) → chosen ≡ t → MayFree chosen f m → Allows (ImageRuled t) slots id m i (λ n. n) (λ n. Frees f m n)
free_here t chosen slots id m f i pick may = free t slots id m f i (subst (λ (s : Site). MayFree s f m) pick may)

-- ---- a reader learns of more frames

pub carries_on : (units : ℕ) (region : RegionKey) (m n : Mine) (more : List Frame) → n.0 ≡ record m.0 { seen = n.0.seen; reading = record m.0.reading { known = n.0.reading.known } } → n.0.reading.known ≡ m.0.reading.known ++ more → n.1 ≡ m.1 → CarriesPart units region m → CarriesPart units region n
carries_on units region m n more after known mine carries =
    let holds : n.0.reading.holds ≡ m.0.reading.holds = ap (λ (v : View). v.reading.holds) after in
    let round : n.0.reading.round ≡ m.0.reading.round = ap (λ (v : View). v.reading.round) after in
    let book : n.0.reading.book ≡ m.0.reading.book = ap (λ (v : View). v.reading.book) after in
    let unit : n.0.reading.unit ≡ m.0.reading.unit = ap (λ (v : View). v.reading.unit) after in
    let number : n.0.reading.number ≡ m.0.reading.number = ap (λ (v : View). v.reading.number) after in
    let one = carries.one in
    record {
      one = omega arith;
      none = λ z. mine ∙ carries.none (sym holds ∙ z);
      part = λ o.
          let h = carries.part (sym holds ∙ o) in
          let first : first_of n.0.reading.known ≡ first_of m.0.reading.known = ap first_of known ∙ first_on m.0.reading.known more h.some in
          record {
            some = (let e = ap length known in let l = length-append m.0.reading.known more in let s = h.some in omega arith);
            here = ap (λ (f : Frame). f.unit) first ∙ h.here ∙ sym unit;
            is = subst (λ (x : Frame × ℕ × ℕ × ReadAccess). IsPart units region x.0 x.1 x.2 x.3) (λ j. (sym first j, sym round j, sym book j, part_in (sym mine j))) h.is;
            after = mine ∙ h.after ∙ (λ j. (slot_of units (sym first j).unit (sym number j), part_in (sym mine j)) ∷ []);
          };
    }
  where
    first_on : (xs ys : List Frame) → 0 < length xs → first_of (xs ++ ys) ≡ first_of xs
    first_on [] ys lt = absurd (omega arith)
    first_on (x ∷ xs) ys lt = refl
