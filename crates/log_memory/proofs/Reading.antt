-- A reader takes its part of a frame where it finds one, and gives it back.
use Rattle.std.proofs.Common.{◌≡◌, ◌≢◌, ℕ, suc, ◌+◌, ◌*◌, ◌%◌, ◌<◌, ◌≤◌, inl, inr, ⊎_elim, cond, Bool, List, ◌∷◌, length, set, eq-eqb, sym, refl, ap, ◌∙◌, subst, arith}
use mathlib.Core.Option.{Option, some, none, some-injective}
use mathlib.Core.Logic.{dite}
use native.Mathlib.Decide.{ℕ_discrete}
use lib.ListN.{get_elem?}
use Rattle.std.specs.Prelude.{slice_index}
use Rattle.atomic_table.proofs.Lists.{at_set, set_else, set_here}
use Rattle.theory.specs.Placed.{Among}
use Rattle.theory.specs.Position.{greatest_claim}
use Rattle.theory.specs.Refusal.{limit_in}
use Rattle.publication.specs.declared.pass.FrameWords.{FrameWords}
use Rattle.publication.specs.declared.pass.Reading.{Reading}
use Rattle.region.specs.declared.access.Access.{Access}
use Rattle.log_rule.specs.declared.claims.view.View.{View}
use Rattle.log_rule.specs.Claims.Sums.{total}
use Rattle.log_rule.specs.Edges.{IsAmong}
use Rattle.log_rule.specs.Kept.{readers_of, reads_as}
use Rattle.log_rule.specs.Readings.{end_of}
use Rattle.log_rule.specs.Table.{LogRuled}
use Rattle.log_rule.proofs.Claimed.Totals.{both_at}
use Rattle.log_rule.proofs.Known.{among_total}
use Rattle.log_memory.specs.declared.view.LogView.{LogView}
use Rattle.log_memory.specs.declared.view.Part.{Part}
use Rattle.log_memory.specs.declared.view.Site.{Site}
use Rattle.log_memory.specs.Places.{slot_of}
use Rattle.log_memory.specs.Rule.{Board, IsHeld, IsHome, IsParked, IsPart, IsPartOf, IsWithReader, LogMemoryRuled, passes_of, ring, shape, stream_state, tail_in, term}
use Rattle.log_memory.specs.Steps.{IsIdle, IsQuiet, TakesPart}
use Rattle.log_memory.proofs.Committing.{quiet_step, stepped}
use Rattle.log_memory.proofs.Facts.{long, apart, end_low, long, one, pass_at, some_ring, start_low, tail_near, unit, width}
use Rattle.log_memory.proofs.Lifting.{all_readers, all_rooms, quiet_look, there_low, with_reader_on}
use Rattle.log_memory.proofs.Places.{one_unit, slot_low, slots_apart}
use Rattle.log_memory.proofs.Resting.{moves, none_parked, parked_on, parked_set}
use Rattle.log_memory.proofs.Rows.{set_long}
use Rattle.log_memory.proofs.OpenFrames.{open_beside, open_from, open_to}

-- a consumer of a pass counts for its number
counts : (rs : List Reading) (r : Reading) (j : ℕ) → Among r rs → r.number ≡ j → 1 ≤ total (reads_as j) rs
counts rs r j among e = let a = among_total (reads_as j) rs r among in let one' : reads_as j r ≡ 1 = ap (λ (b : Bool). cond b 1 0) (eq-eqb r.number j e) in omega arith

-- ---- one slot moves, that of a part

module _ (t : Site) (s : Board) (r : LogMemoryRuled t s) (f : FrameWords) (among : IsAmong (passes_of s.views) f) (from : r.freed + r.out ≤ f.start) where
  unit_f : f.start % 32 ≡ 0
  unit_f = unit t r.stream s.views r.ruled f among

  -- the slot of no other frame's part, of no other unit's, and of no room
  pub not_part : (g : FrameWords) → IsAmong (passes_of s.views) g → r.freed + r.out ≤ g.start → (j k : ℕ) → j < 8 → k < 8 → slot_of (ring t) g.start k ≡ slot_of (ring t) f.start j → (g.start ≡ f.start) × (k ≡ j)
  not_part g in_g from_g j k lj lk e =
      let a = slots_apart (ring t) g.start f.start k j lk lj e in let w = width t r.stream s.views r.ruled in let near = tail_near t s r in
      let lf = start_low t r.stream s.views r.ruled f among in let lg = start_low t r.stream s.views r.ruled g in_g in
      (one_unit (ring t) r.freed g.start f.start (unit t r.stream s.views r.ruled g in_g) unit_f (omega arith) (omega arith) (omega arith) (omega arith) a.0, a.1)

  pub not_inside : (g : FrameWords) → IsAmong (passes_of s.views) g → r.freed + r.out ≤ g.start → (x j k : ℕ) → j < 8 → k < 8 → x % 32 ≡ 0 → g.start < x → x < end_of g → slot_of (ring t) x k ≢ slot_of (ring t) f.start j
  not_inside g in_g from_g x j k lj lk ux lo hi e =
      let a = slots_apart (ring t) x f.start k j lk lj e in let w = width t r.stream s.views r.ruled in let near = tail_near t s r in
      let lf = start_low t r.stream s.views r.ruled f among in let lg = end_low t r.stream s.views r.ruled g in_g in
      let same : x ≡ f.start = one_unit (ring t) r.freed x f.start ux unit_f (omega arith) (omega arith) (omega arith) (omega arith) a.0 in
      let behind = apart t r.stream s.views r.ruled g f in_g among (omega arith) in omega arith

  pub not_room : (x j k : ℕ) → j < 8 → k < 8 → x % 32 ≡ 0 → tail_in t.key (passes_of s.views) ≤ x → x < r.freed + 3 * term t → slot_of (ring t) x k ≢ slot_of (ring t) f.start j
  not_room x j k lj lk ux lo hi e =
      let a = slots_apart (ring t) x f.start k j lk lj e in let w = width t r.stream s.views r.ruled in let near = tail_near t s r in
      let lf = start_low t r.stream s.views r.ruled f among in
      let same : x ≡ f.start = one_unit (ring t) r.freed x f.start ux unit_f (omega arith) (omega arith) (omega arith) (omega arith) a.0 in omega arith

  -- nor a unit of an open frame
  not_open : (i : ℕ) (y : LogView) → get_elem? s.views i ≡ some y → (g : FrameWords) → Among g y.view.pass.work.drafts → (x j k : ℕ) → j < 8 → k < 8 → x % 32 ≡ 0 → g.start ≤ x → x < end_of g → slot_of (ring t) x k ≢ slot_of (ring t) f.start j
  not_open i y at g draft x j k lj lk ux lo hi e =
      let a = slots_apart (ring t) x f.start k j lk lj e in let w = width t r.stream s.views r.ruled in let near = tail_near t s r in
      let lf = start_low t r.stream s.views r.ruled f among in let lw = long t r.stream s.views r.ruled f among in let above_g = open_from t s r i y at g draft in let to = open_to t s r i y at g draft in let side = open_beside t s r i y at g draft f among x lo hi in
      let same : x ≡ f.start = one_unit (ring t) r.freed x f.start ux unit_f (omega arith) (omega arith) (omega arith) (omega arith) a.0 in ⊎_elim (λ below. omega arith) (λ past. omega arith) side

  slot_there : (j : ℕ) → j < 8 → slot_of (ring t) f.start j < length s.homes
  slot_there j lt = let a = slot_low (ring t) f.start j (some_ring t r.stream s.views r.ruled) lt in let c = r.memory.shelves in let x : ℕ = slot_of (ring t) f.start j in omega arith

  -- ---- it is taken

  module _ (id : ℕ) (v : LogView) (at : get_elem? s.views id ≡ some v) (idle : IsIdle v) (j : ℕ) (lj : j < 8) (w : View) (quiet : IsQuiet v.view w) (before : Reading) (mine : Among before v.view.pass.reading) (number : before.number ≡ j)
      (after : Reading) (mine' : Among after w.pass.reading) (number' : after.number ≡ j) (near : after.position ≤ f.start + term t) (words : List ℕ) (same : words ≡ s.words) where
    abbrev pub part : Part
    part = record { has = 1; number = j; at = f.start; round = (r.rounds f.start).0; book = (r.rounds f.start).1 }

    abbrev pub seat : LogView
    seat = record v { view = w; part = part }

    -- nobody else is this consumer
    alone : IsWithReader s f.start j → ⊥
    alone b = dite (ℕ_discrete b.seat id)
        (λ e. let same' : v ≡ b.view = some-injective v b.view (sym at ∙ ap (get_elem? s.views) (sym e) ∙ b.there) in let has = b.part.has in clash v.part.has b.view.part.has (ap (λ (x : LogView). x.part.has) same') has idle.0)
        (λ ne. let h = r.memory.held b.seat b.view b.there b.part.has in let two = both_at (readers_of j) (passes_of s.views) id b.seat v.view.pass b.view.view.pass ne (pass_at s.views id v at) (pass_at s.views b.seat b.view b.there) in
        let mine1 = counts v.view.pass.reading before j mine number in let mine2 = counts b.view.view.pass.reading h.reading j h.mine (h.number ∙ b.part.number) in let most = r.ruled.kept.single j lj in let flag = r.ruled.kept.flags j in
        many (readers_of j v.view.pass) (readers_of j b.view.view.pass) (total (readers_of j) (passes_of s.views)) (slice_index r.ruled.there j) mine1 mine2 two most flag)
      where
        clash : (a c : ℕ) → a ≡ c → c ≡ 1 → a ≡ 0 → ⊥
        clash a c e one none' = omega arith

        many : (a c x y : ℕ) → 1 ≤ a → 1 ≤ c → a + c ≤ x → x ≤ y → y ≤ 1 → ⊥
        many a c x y p q two most flag = omega arith

    pub home : IsHome s (slot_of (ring t) f.start j) (IsPartOf t r.rounds f)
    home = ⊎_elim (λ h. h) (λ b. absurd (alone b)) ((r.memory.frames f among from).parts j lj)

    abbrev pub homes : List (Option Access)
    homes = set s.homes (slot_of (ring t) f.start j) none

    abbrev pub board : Board
    board = record { words = words; homes = homes; views = set s.views id seat }

    there : get_elem? (set s.views id seat) id ≡ some seat
    there = set_here s.views id seat (there_low s.views id v at)

    else_home : (k : ℕ) (is : Access → Type 0) → k ≢ slot_of (ring t) f.start j → IsHome s k is → IsHome board k is
    else_home k is ne h = record { access = h.access; there = set_else s.homes (slot_of (ring t) f.start j) k none ne ∙ h.there; so = h.so }

    pub taken : LogRuled t.key (stream_state r.stream (set s.views id seat)) → LogMemoryRuled t board
    taken q = moves t s r words r.stream homes (set s.views id seat) record {
      ruled = q;
      look = quiet_look s.views id v seat at quiet;
      long = ap length same;
      small = r.words.small;
      controls = λ i lt. ap (λ (l : List ℕ). slice_index l i) same ∙ r.words.controls i lt;
      heads = λ i lt. ap (λ (l : List ℕ). slice_index l i) same;
      ahead = subst (λ (l : List ℕ). limit_in (slice_index l 0) + greatest_claim (shape t) * 8 < r.freed + 3 * term t) (sym same) r.memory.ahead;
      shelves = set_long s.homes (slot_of (ring t) f.start j) none;
      lies = λ g in_g from_g. (let l = r.memory.frames g in_g from_g in record {
        parts = λ k lk. ⊎_elim
            (λ h. dite (ℕ_discrete (slot_of (ring t) g.start k) (slot_of (ring t) f.start j))
            (λ e. let z = not_part g in_g from_g j k lj lk e in inr record { seat = id; view = seat; there = there; part = record { has = refl; number = sym z.1; at = sym z.0 } })
            (λ ne. inl (else_home (slot_of (ring t) g.start k) _ ne h)))
            (λ b. inr (let x = with_reader_on s words id v seat at idle g.start k b in record { seat = x.seat; view = x.view; there = x.there; part = x.part }))
            (l.parts k lk);
        inside = λ x k ux lo hi lk. else_home (slot_of (ring t) x k) _ (not_inside g in_g from_g x j k lj lk ux lo hi) (l.inside x k ux lo hi lk);
      });
      room = λ x ux lo hi. (let g = r.memory.free x ux lo hi in record {
        room = else_home (slot_of (ring t) x 0) _ (not_room x j 0 lj (omega arith) ux lo hi) g.room;
        others = λ k lk. else_home (slot_of (ring t) x k) _ (not_room x j k lj lk ux lo hi) (g.others k lk);
      });
      held = λ i x here has. ⊎_elim
          (λ e. subst (IsHeld t (passes_of s.views) r.rounds) e.1 record { frame = f; among = among; here = refl; round = refl; book = refl; reading = after; mine = mine'; number = number'; low = omega arith; near = near })
          (λ e. r.memory.held i x e.1 has)
          (at_set s.views id i seat x here);
      readers = all_readers t s r id v seat at refl quiet;
      keeper = all_rooms t s r id v seat at refl quiet;
      parked = parked_set t s board id seat (none_parked t board seat idle.1) (λ i x g ne here among'. let a = r.memory.parked i x g here among' in
          parked_on t s board x g (λ p k is unit lo hi lk h. else_home (slot_of (ring t) p k) is (not_open i x here g a.draft p j k lj lk unit lo hi) h) a);
    }

    pub takes_it : (carried : List (ℕ × Access)) → TakesPart t j f (v, carried) (seat, (slot_of (ring t) f.start j, home.access) ∷ carried)
    takes_it carried = record { access = home.access; is = home.so; shows = home.so.items; after = refl; part = refl }

  -- ---- it is given back

  module _ (id : ℕ) (v : LogView) (at : get_elem? s.views id ≡ some v) (has : v.part.has ≡ 1) (j : ℕ) (lj : j < 8) (number : v.part.number ≡ j) (here : f.start ≡ v.part.at) (access : Access) (is : IsPart t (slot_of (ring t) f.start 0) f.words v.part.round v.part.book access) where
    abbrev pub back_seat : LogView
    back_seat = record v { view = record v.view { steps = suc v.view.steps }; part = record v.part { has = 0 } }

    abbrev pub back_homes : List (Option Access)
    back_homes = set s.homes (slot_of (ring t) f.start j) (some access)

    abbrev pub back_board : List ℕ → Board
    back_board words = record { words = words; homes = back_homes; views = set s.views id back_seat }

    its : IsPartOf t r.rounds f access
    its = let h = r.memory.held id v at has in subst (λ (x : ℕ × ℕ). IsPart t (slot_of (ring t) f.start 0) f.words x.0 x.1 access) (λ i. ((h.round ∙ ap (λ (x : ℕ). (r.rounds x).0) (sym here)) i, (h.book ∙ ap (λ (x : ℕ). (r.rounds x).1) (sym here)) i)) is

    quiet_back : IsQuiet v.view back_seat.view
    quiet_back = quiet_step v.view (suc v.view.steps)

    module _ (words : List ℕ) (same : words ≡ s.words) where
      now_home : IsHome (back_board words) (slot_of (ring t) f.start j) (IsPartOf t r.rounds f)
      now_home = record { access = access; there = set_here s.homes (slot_of (ring t) f.start j) (some access) (slot_there j lj); so = its }

      back_else : (k : ℕ) (is' : Access → Type 0) → k ≢ slot_of (ring t) f.start j → IsHome s k is' → IsHome (back_board words) k is'
      back_else k is' ne h = record { access = h.access; there = set_else s.homes (slot_of (ring t) f.start j) k (some access) ne ∙ h.there; so = h.so }

      -- its slot is another frame's
      part_back : (g : FrameWords) → IsAmong (passes_of s.views) g → (k : ℕ) → g.start ≡ f.start → k ≡ j → IsHome (back_board words) (slot_of (ring t) g.start k) (IsPartOf t r.rounds g)
      part_back g in_g k e same' = let z : g ≡ f = one t r.stream s.views r.ruled g f in_g among e in
          subst (λ (x : FrameWords × ℕ). IsHome (back_board words) (slot_of (ring t) x.0.start x.1) (IsPartOf t r.rounds x.0)) (λ i. (sym z i, sym same' i)) now_home

      with_else : (g k : ℕ) (b : IsWithReader s g k) → b.seat ≢ id → IsWithReader (back_board words) g k
      with_else g k b ne = record { seat = b.seat; view = b.view; there = set_else s.views id b.seat back_seat ne ∙ b.there; part = b.part }

      -- room that is at home stays there
      parked_here : (i : ℕ) (x : LogView) → get_elem? s.views i ≡ some x → (g : FrameWords) → Among g x.parked → IsParked t (back_board words) x g
      parked_here i x here' g among' = let a = r.memory.parked i x g here' among' in
          parked_on t s (back_board words) x g (λ p k is' unit lo hi lk h. back_else (slot_of (ring t) p k) is' (not_open i x here' g a.draft p j k lj lk unit lo hi) h) a

      as_seat : (g : FrameWords) → IsParked t (back_board words) v g → IsParked t (back_board words) back_seat g
      as_seat g a = record { draft = a.draft; room = a.room }

      pub given : LogMemoryRuled t (back_board words)
      given = moves t s r words r.stream back_homes (set s.views id back_seat) record {
        ruled = stepped t s r id v back_seat at refl;
        look = quiet_look s.views id v back_seat at quiet_back;
        long = ap length same;
        small = r.words.small;
        controls = λ i lt. ap (λ (l : List ℕ). slice_index l i) same ∙ r.words.controls i lt;
        heads = λ i lt. ap (λ (l : List ℕ). slice_index l i) same;
        ahead = subst (λ (l : List ℕ). limit_in (slice_index l 0) + greatest_claim (shape t) * 8 < r.freed + 3 * term t) (sym same) r.memory.ahead;
        shelves = set_long s.homes (slot_of (ring t) f.start j) (some access);
        lies = λ g in_g from_g. (let l = r.memory.frames g in_g from_g in record {
          parts = λ k lk. ⊎_elim
              (λ h. inl (dite (ℕ_discrete (slot_of (ring t) g.start k) (slot_of (ring t) f.start j))
              (λ e. let z = not_part g in_g from_g j k lj lk e in part_back g in_g k z.0 z.1)
              (λ ne. back_else (slot_of (ring t) g.start k) _ ne h)))
              (λ b. dite (ℕ_discrete b.seat id)
              (λ e. let same' : v ≡ b.view = some-injective v b.view (sym at ∙ ap (get_elem? s.views) (sym e) ∙ b.there) in
              inl (part_back g in_g k (sym b.part.at ∙ ap (λ (x : LogView). x.part.at) (sym same') ∙ sym here) (sym b.part.number ∙ ap (λ (x : LogView). x.part.number) (sym same') ∙ number)))
              (λ ne. inr (with_else g.start k b ne)))
              (l.parts k lk);
          inside = λ x k ux lo hi lk. back_else (slot_of (ring t) x k) _ (not_inside g in_g from_g x j k lj lk ux lo hi) (l.inside x k ux lo hi lk);
        });
        room = λ x ux lo hi. (let g = r.memory.free x ux lo hi in record {
          room = back_else (slot_of (ring t) x 0) _ (not_room x j 0 lj (omega arith) ux lo hi) g.room;
          others = λ k lk. back_else (slot_of (ring t) x k) _ (not_room x j k lj lk ux lo hi) (g.others k lk);
        });
        held = λ i x there' has'. ⊎_elim
            (λ e. absurd (clash x.part.has (ap (λ (y : LogView). y.part.has) e.1) has'))
            (λ e. r.memory.held i x e.1 has')
            (at_set s.views id i back_seat x there');
        readers = all_readers t s r id v back_seat at refl quiet_back;
        keeper = all_rooms t s r id v back_seat at refl quiet_back;
        parked = parked_set t s (back_board words) id back_seat (λ g among'. as_seat g (parked_here id v at g among')) (λ i x g ne here' among'. parked_here i x here' g among');
      }
        where
          clash : (a : ℕ) → 0 ≡ a → a ≡ 1 → ⊥
          clash a e one' = omega arith
