-- The room of open frames goes home, and is taken from there.
use Rattle.std.proofs.Common.{◌≡◌, ◌≢◌, ℕ, suc, ◌+◌, ◌*◌, ◌/◌, ◌%◌, ◌<◌, ◌≤◌, ◌⊎◌, inl, inr, ⊎_elim, List, [], ◌∷◌, length, set, sym, refl, ap, ◌∙◌, subst, lt_of_not-le, arith}
use Rattle.std.proofs.lemmas.List.{set-get_or}
use mathlib.Core.Option.{Option, some}
use mathlib.Core.Logic.{dite}
use native.Mathlib.Decide.{dec_le, ℕ_discrete}
use lib.ListN.{get_elem?}
use Rattle.std.specs.Prelude.{slice_index}
use Rattle.atomic_table.specs.Table.{Act, Allows, Valid, carried_after, chain, homes_after, keeps}
use Rattle.atomic_table.proofs.Lists.{at_set}
use Rattle.theory.specs.Placed.{Among}
use Rattle.theory.specs.Position.{greatest_claim}
use Rattle.theory.specs.Refusal.{limit_in}
use Rattle.publication.specs.declared.pass.FrameWords.{FrameWords}
use Rattle.region.specs.declared.access.Access.{Access}
use Rattle.log_rule.specs.Edges.{IsAmong}
use Rattle.log_rule.specs.Readings.{end_of}
use Rattle.log_memory.specs.declared.view.LogView.{LogView}
use Rattle.log_memory.specs.declared.view.Site.{Site}
use Rattle.log_memory.specs.Open.{HoldsOpen, HoldsRooms}
use Rattle.log_memory.specs.Parking.{Fetches, Parks}
use Rattle.log_memory.specs.Places.{slot_of}
use Rattle.log_memory.specs.Rule.{Board, IsHome, IsParked, IsRoom, LogMemoryRuled, passes_of, ring, shape, tail_in, term}
use Rattle.log_memory.specs.Steps.{AreApart, IsIdle, IsQuiet, IsRoomAt, Mine}
use Rattle.log_memory.proofs.Committing.{quiet_step, stepped}
use Rattle.log_memory.proofs.Facts.{bounds, end_low, long, pass_at, some_ring, tail_near, unit, width}
use Rattle.log_memory.proofs.Freeing.{reader_on}
use Rattle.log_memory.proofs.Lifting.{all_readers, all_rooms, quiet_look}
use Rattle.log_memory.proofs.OpenFrames.{apart, open_beside, open_else, open_from, open_long, open_own, open_row, open_to, open_unit, open_whole, sides}
use Rattle.log_memory.proofs.Places.{in_range, place_is, row_apart, row_unit}
use Rattle.log_memory.proofs.Resting.{moves, parked_on, parked_set}
use Rattle.log_memory.proofs.Rows.{Outside, gives_row, takes_row}

-- how many slots the memory of a frame has, and which are none of them
abbrev slots_of : FrameWords → ℕ
slots_of f = 8 * length f.words / 4

abbrev first_slot : Site → FrameWords → ℕ
first_slot t f = slot_of (ring t) f.start 0

abbrev AreOutside : Site → List FrameWords → ℕ → Type 0
AreOutside t fs i = (f : FrameWords) → Among f fs → Outside (first_slot t f) (slots_of f) i

-- a slot is at home, with the right to write its unit where it is a unit's first
abbrev IsGood : Site → List (Option Access) → ℕ → Type 0
IsGood t hs i = (g : Access) × (get_elem? hs i ≡ some (some g)) × IsRoomAt t i g

-- ---- they go home

record GivesRooms (t : Site) (fs : List FrameWords) (hs : List (Option Access)) (mine : List (ℕ × Access)) : Type 0 where
  act : Act Access
  valid : Valid hs mine act
  rest : carried_after mine act ≡ []
  long : length (homes_after hs mine act) ≡ length hs
  stays : (i : ℕ) → IsGood t hs i → IsGood t (homes_after hs mine act) i
  full : (f : FrameWords) → Among f fs → (i : ℕ) → first_slot t f ≤ i → i < first_slot t f + slots_of f → IsGood t (homes_after hs mine act) i
  others : (i : ℕ) → AreOutside t fs i → get_elem? (homes_after hs mine act) i ≡ get_elem? hs i

gives_rooms : (t : Site) (fs : List FrameWords) (hs : List (Option Access)) (mine : List (ℕ × Access)) → ((f : FrameWords) → Among f fs → first_slot t f + slots_of f ≤ length hs) → HoldsRooms t fs [] mine → GivesRooms t fs hs mine
gives_rooms t [] hs mine wide h = record { act = keeps; valid = tt; rest = h; long = refl; stays = λ i g. g; full = λ f a. absurd a; others = λ i apart. refl }
gives_rooms t (f ∷ fs) hs mine wide h =
    let k : ℕ = first_slot t f in let n : ℕ = slots_of f in let one = gives_row hs (IsRoomAt t) k n mine h.0 (wide f (inl refl)) h.1 in let hs' = homes_after hs mine one.act in
    let next = gives_rooms t fs hs' (carried_after mine one.act) (λ g a. let w = wide g (inr a) in let l = one.long in omega arith) (subst (HoldsRooms t fs []) (sym one.rest) h.2) in
    let after = homes_after hs' (carried_after mine one.act) next.act in
    let here : (i : ℕ) → k ≤ i → i < k + n → IsGood t after i = (λ i lo hi. next.stays i (let g = one.full i lo hi in (g.0, g.1, g.2))) in record {
      act = chain one.act next.act;
      valid = (one.valid, next.valid);
      rest = next.rest;
      long = next.long ∙ one.long;
      stays = λ i g. dite (dec_le k i)
          (λ lo. dite (dec_le (k + n) i) (λ past. next.stays i (g.0, one.others i (inr past) ∙ g.1, g.2)) (λ within. here i lo (lt_of_not-le within)))
          (λ below. next.stays i (g.0, one.others i (inl (lt_of_not-le below)) ∙ g.1, g.2));
      full = λ g a i. ⊎_elim
          (λ e lo hi. here i (subst (λ (x : FrameWords). first_slot t x ≤ i) e lo) (subst (λ (x : FrameWords). i < first_slot t x + slots_of x) e hi))
          (λ b lo hi. next.full g b i lo hi)
          a;
      others = λ i apart. next.others i (λ g a. apart g (inr a)) ∙ one.others i (apart f (inl refl));
    }

-- ---- they are taken

record TakesRooms (t : Site) (fs : List FrameWords) (hs : List (Option Access)) (before : List (ℕ × Access)) : Type 0 where
  act : Act Access
  valid : Valid hs before act
  taken : HoldsRooms t fs before (carried_after before act)
  long : length (homes_after hs before act) ≡ length hs
  others : (i : ℕ) → AreOutside t fs i → get_elem? (homes_after hs before act) i ≡ get_elem? hs i

-- no slot is in the range of two
abbrev AreClear : Site → List FrameWords → Type 0
AreClear t [] = Unit {0}
AreClear t (f ∷ fs) = ((i : ℕ) → first_slot t f ≤ i → i < first_slot t f + slots_of f → AreOutside t fs i) × AreClear t fs

takes_rooms : (t : Site) (fs : List FrameWords) (hs : List (Option Access)) (before : List (ℕ × Access)) → ((f : FrameWords) → Among f fs → (i : ℕ) → first_slot t f ≤ i → i < first_slot t f + slots_of f → IsGood t hs i) → AreClear t fs → TakesRooms t fs hs before
takes_rooms t [] hs before full clear = record { act = keeps; valid = tt; taken = refl; long = refl; others = λ i apart. refl }
takes_rooms t (f ∷ fs) hs before full clear =
    let back = takes_rooms t fs hs before (λ g a. full g (inr a)) clear.1 in let hs' = homes_after hs before back.act in let mid = carried_after before back.act in
    let one = takes_row hs' (IsRoomAt t) (first_slot t f) (slots_of f) mid (λ i lo hi. let g = full f (inl refl) i lo hi in (g.0, back.others i (clear.0 i lo hi) ∙ g.1, g.2)) in record {
      act = chain back.act one.act;
      valid = (back.valid, one.valid);
      taken = (mid, one.taken, back.taken);
      long = one.long ∙ back.long;
      others = λ i apart. one.others i (apart f (inl refl)) ∙ back.others i (λ g a. apart g (inr a));
    }

-- ---- where the slots of an open frame lie

module _ (t : Site) (s : Board) (r : LogMemoryRuled t s) (i : ℕ) (v : LogView) (at : get_elem? s.views i ≡ some v) (f : FrameWords) (among : Among f v.view.pass.work.drafts) where
  some_n : 0 < ring t
  some_n = some_ring t r.stream s.views r.ruled

  ends : first_slot t f + slots_of f ≤ length s.homes
  ends = let u = open_unit t s r i v at f among in let e = place_is (ring t) f.start some_n u in let x : ℕ = f.start / 32 % ring t in let e' : x * 32 ≡ f.start % (ring t * 32) = e in let a = open_row t s r i v at f among in let c = r.memory.shelves in omega arith

  -- a slot of a unit elsewhere is none of them
  clear_of : (x j : ℕ) → x % 32 ≡ 0 → r.freed ≤ x → x < r.freed + 3 * term t → (x < f.start) ⊎ (end_of f ≤ x) → j < 8 → Outside (first_slot t f) (slots_of f) (slot_of (ring t) x j)
  clear_of x j ux lo hi out lt = let w = width t r.stream s.views r.ruled in let from = open_from t s r i v at f among in let to = open_to t s r i v at f among in let near = tail_near t s r in
      row_apart (ring t) r.freed f.start (8 * length f.words) x j some_n (open_unit t s r i v at f among) (open_whole t s r i v at f among) (open_row t s r i v at f among) (omega arith) (omega arith) ux lo (omega arith) out lt

  -- and those of its units are
  slots_in_it : (x j : ℕ) → x % 32 ≡ 0 → f.start ≤ x → x < end_of f → j < 8 → (first_slot t f ≤ slot_of (ring t) x j) × (slot_of (ring t) x j < first_slot t f + slots_of f)
  slots_in_it x j ux lo hi lt = in_range (ring t) f.start (8 * length f.words) x j some_n (open_unit t s r i v at f among) (open_whole t s r i v at f among) (open_row t s r i v at f among) ux lo hi lt

-- ---- a slot elsewhere, of what the rule speaks of

module _ (t : Site) (s : Board) (r : LogMemoryRuled t s) (id : ℕ) (v : LogView) (at : get_elem? s.views id ≡ some v) (fs : List FrameWords) (mine : (f : FrameWords) → Among f fs → Among f v.view.pass.work.drafts) where
  -- of a committed frame
  clear_frame : (g : FrameWords) → IsAmong (passes_of s.views) g → r.freed ≤ g.start → (x j : ℕ) → x % 32 ≡ 0 → g.start ≤ x → x < end_of g → j < 8 → AreOutside t fs (slot_of (ring t) x j)
  clear_frame g in_g from x j ux lo hi lt f a =
      let e = end_low t r.stream s.views r.ruled g in_g in let near = tail_near t s r in
      clear_of t s r id v at f (mine f a) x j ux (omega arith) (omega arith)
      (sides x f.start (length f.words) (λ p q. ⊎_elim (λ b. absurd (omega arith)) (λ b. absurd (omega arith)) (open_beside t s r id v at f (mine f a) g in_g x p q))) lt

  -- of what isn't claimed yet
  clear_room : (x j : ℕ) → x % 32 ≡ 0 → tail_in t.key (passes_of s.views) ≤ x → x < r.freed + 3 * term t → j < 8 → AreOutside t fs (slot_of (ring t) x j)
  clear_room x j ux lo hi lt f a = let from = open_from t s r id v at f (mine f a) in let to = open_to t s r id v at f (mine f a) in clear_of t s r id v at f (mine f a) x j ux (let z : r.freed ≤ f.start = omega arith in let l = open_long t s r id v at f (mine f a) in omega arith) hi (inr (omega arith)) lt

  -- of another seat's open frame
  clear_other : (k : ℕ) (y : LogView) → k ≢ id → get_elem? s.views k ≡ some y → (g : FrameWords) → Among g y.view.pass.work.drafts → (x j : ℕ) → x % 32 ≡ 0 → g.start ≤ x → x < end_of g → j < 8 → AreOutside t fs (slot_of (ring t) x j)
  clear_other k y ne at' g in_g x j ux lo hi lt f a =
      let from = open_from t s r k y at' g in_g in let to = open_to t s r k y at' g in_g in let near = tail_near t s r in
      clear_of t s r id v at f (mine f a) x j ux (omega arith) (omega arith) (open_else t s r k y at' g in_g id v (λ e. ne (sym e)) at f (mine f a) x lo hi) lt

  -- what a step leaves that moves these slots alone
  module _ (w : LogView) (homes : List (Option Access)) (others : (i : ℕ) → AreOutside t fs i → get_elem? homes i ≡ get_elem? s.homes i) (same_long : length homes ≡ length s.homes) (same : w.view ≡ record v.view { steps = suc v.view.steps }) (room : w.room ≡ v.room) (part : w.part ≡ v.part) (has : v.part.has ≡ 0)
      (words : List ℕ) (still : words ≡ s.words) where
    abbrev after : Board
    after = record { words = words; homes = homes; views = set s.views id w }

    home_on : (k : ℕ) (is : Access → Type 0) → AreOutside t fs k → IsHome s k is → IsHome after k is
    home_on k is out h = record { access = h.access; there = others k out ∙ h.there; so = h.so }

    parked_else : (i : ℕ) (x : LogView) (f : FrameWords) → i ≢ id → get_elem? s.views i ≡ some x → Among f x.parked → IsParked t after x f
    parked_else i x f ne here among = let a = r.memory.parked i x f here among in parked_on t s after x f (λ p j is ux lo hi lt h. home_on (slot_of (ring t) p j) is (clear_other i x ne here f a.draft p j ux lo hi lt) h) a

    moved : ((f : FrameWords) → Among f w.parked → IsParked t after w f) → LogMemoryRuled t after
    moved own =
        let quiet = subst (λ y. IsQuiet v.view y) (sym same) (quiet_step v.view (suc v.view.steps)) in
        moves t s r words r.stream homes (set s.views id w) record {
          ruled = stepped t s r id v w at same;
          look = quiet_look s.views id v w at quiet;
          long = ap length still;
          small = r.words.small;
          controls = λ i lt. ap (λ (l : List ℕ). slice_index l i) still ∙ r.words.controls i lt;
          heads = λ i lt. ap (λ (l : List ℕ). slice_index l i) still;
          ahead = subst (λ (l : List ℕ). limit_in (slice_index l 0) + greatest_claim (shape t) * 8 < r.freed + 3 * term t) (sym still) r.memory.ahead;
          shelves = same_long;
          lies = λ g in_g from. (let l = r.memory.frames g in_g from in let len = long t r.stream s.views r.ruled g in_g in record {
            parts = λ j lt. ⊎_elim
                (λ h. inl (home_on (slot_of (ring t) g.start j) _ (clear_frame g in_g (omega arith) g.start j (unit t r.stream s.views r.ruled g in_g) (omega arith) (omega arith) lt) h))
                (λ b. inr (reader_on s id v w at part words homes g.start j b))
                (l.parts j lt);
            inside = λ x j ux lo hi lt. home_on (slot_of (ring t) x j) _ (clear_frame g in_g (omega arith) x j ux (omega arith) hi lt) (l.inside x j ux lo hi lt);
          });
          room = λ x ux lo hi. (let g = r.memory.free x ux lo hi in record { room = home_on (slot_of (ring t) x 0) _ (clear_room x 0 ux lo hi (omega arith)) g.room; others = λ j lt. home_on (slot_of (ring t) x j) _ (clear_room x j ux lo hi lt) (g.others j lt) });
          held = λ i x here has'. ⊎_elim
              (λ e. absurd (clash v.part.has w.part.has x.part.has has (ap (λ y. y.has) part) (ap (λ (y : LogView). y.part.has) e.1) has'))
              (λ e. r.memory.held i x e.1 has')
              (at_set s.views id i w x here);
          readers = all_readers t s r id v w at room quiet;
          keeper = all_rooms t s r id v w at room quiet;
          parked = parked_set t s after id w own (λ i x f ne here among. parked_else i x f ne here among);
        }
      where
        clash : (a c d : ℕ) → a ≡ 0 → c ≡ a → c ≡ d → d ≡ 1 → ⊥
        clash a c d e f g one = omega arith

-- ---- both steps

pub park : (t : Site) (id i : ℕ) (m : Mine) → IsIdle m.0 → HoldsOpen t m → (slots : ℕ) → Allows (LogMemoryRuled t) slots id m i (λ n. n) (λ _ w. Parks m w)
park t id i m idle holds slots s r homes at small =
    let v = m.0 in let fs = v.view.pass.work.drafts in let same : set s.words i (slice_index s.words i) ≡ s.words = set-get_or s.words i 0 in
    let g = gives_rooms t fs s.homes m.1 (λ f a. ends t s r id v at f a) holds in let hs = homes_after s.homes m.1 g.act in
    let w : LogView = record v { view = record v.view { steps = suc v.view.steps }; parked = fs } in
    let home_at : (f : FrameWords) → Among f fs → (x j : ℕ) → x % 32 ≡ 0 → f.start ≤ x → x < end_of f → j < 8 → IsGood t hs (slot_of (ring t) x j) = (λ f a x j ux lo hi lt. let z = slots_in_it t s r id v at f a x j ux lo hi lt in g.full f a (slot_of (ring t) x j) z.0 z.1) in (
      w,
      g.act,
      g.valid,
      moved t s r id v at fs (λ f a. a) w hs g.others g.long refl refl refl idle.0 (set s.words i (slice_index s.words i)) same
          (λ f a. record {
            draft = a;
            room = λ x ux lo hi. (let z = home_at f a x 0 ux lo hi (omega arith) in record {
              room = record { access = z.0; there = z.1; so = z.2 (let q : ℕ = x / 32 % ring t in omega arith) };
              others = λ j lt. (let y = home_at f a x j ux lo hi lt in record { access = y.0; there = y.1; so = tt });
            });
          }),
      record { carried = g.rest; view = refl },
    )

-- the slots of frames that begin apart are none of two
clear_all : (t : Site) (s : Board) (r : LogMemoryRuled t s) (id : ℕ) (v : LogView) (at : get_elem? s.views id ≡ some v) (fs : List FrameWords) → ((f : FrameWords) → Among f fs → Among f v.view.pass.work.drafts) → AreApart fs → AreClear t fs
clear_all t s r id v at [] mine apart' = tt
clear_all t s r id v at (f ∷ fs) mine apart' = (
  (λ i lo hi g a. let u = row_unit (ring t) f.start (8 * length f.words) i (some_ring t r.stream s.views r.ruled) (open_unit t s r id v at f (mine f (inl refl))) (open_whole t s r id v at f (mine f (inl refl))) (open_row t s r id v at f (mine f (inl refl))) lo hi in
      let from = open_from t s r id v at f (mine f (inl refl)) in let to = open_to t s r id v at f (mine f (inl refl)) in let near = tail_near t s r in let lo' = u.from in let hi' = u.to in
      subst (λ (k : ℕ). Outside (first_slot t g) (slots_of g) k) u.is
      (clear_of t s r id v at g (mine g (inr a)) u.at u.number u.unit (omega arith) (omega arith) (open_own t s r id v at f (mine f (inl refl)) g (mine g (inr a)) (λ e. apart'.0 g a (sym e)) u.at u.from u.to) u.low)),
  clear_all t s r id v at fs (λ g a. mine g (inr a)) apart'.1,
)

pub fetch : (t : Site) (id i : ℕ) (m : Mine) → m.0.part.has ≡ 0 → AreApart m.0.parked → (slots : ℕ) → Allows (LogMemoryRuled t) slots id m i (λ n. n) (λ _ w. Fetches t m w)
fetch t id i m has apart' slots s r homes at small =
    let v = m.0 in let fs = v.parked in let same : set s.words i (slice_index s.words i) ≡ s.words = set-get_or s.words i 0 in
    let parked : (f : FrameWords) → Among f fs → IsParked t s v f = (λ f a. r.memory.parked id v f at a) in
    let w : LogView = record v { view = record v.view { steps = suc v.view.steps }; parked = [] } in
    let g = takes_rooms t fs s.homes m.1 (λ f a k lo hi. let p = parked f a in let u = row_unit (ring t) f.start (8 * length f.words) k (some_ring t r.stream s.views r.ruled) (open_unit t s r id v at f p.draft) (open_whole t s r id v at f p.draft) (open_row t s r id v at f p.draft) lo hi in
    let free = p.room u.at u.unit u.from u.to in
    dite (ℕ_discrete u.number 0)
    (λ e. let same' : slot_of (ring t) u.at 0 ≡ k = ap (slot_of (ring t) u.at) (sym e) ∙ u.is in (free.room.access, ap (get_elem? s.homes) (sym same') ∙ free.room.there, λ _. subst (λ (z : ℕ). IsRoom t z free.room.access) same' free.room.so))
    (λ ne. let h = free.others u.number u.low in (h.access, ap (get_elem? s.homes) (sym u.is) ∙ h.there, λ e. absurd (ne (u.first e))))) (clear_all t s r id v at fs (λ f a. (parked f a).draft) apart') in (
      w,
      g.act,
      g.valid,
      moved t s r id v at fs (λ f a. (parked f a).draft) w (homes_after s.homes m.1 g.act) g.others g.long refl refl refl has (set s.words i (slice_index s.words i)) same (λ f a. absurd a),
      record { view = refl; rooms = g.taken; apart = apart (bounds t r.stream s.views r.ruled) r.stream (passes_of s.views) r.ruled.ruled id v.view.pass (pass_at s.views id v at) },
    )
