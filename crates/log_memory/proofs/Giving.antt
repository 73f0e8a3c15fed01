-- What the keeper took back becomes room, where it stores zero over the frame's word.
use Rattle.std.proofs.Common.{◌≡◌, ℕ, suc, ◌+◌, ◌-◌, ◌*◌, ◌/◌, ◌%◌, ◌<◌, ◌≤◌, inl, inr, ⊎_elim, List, length, set, length-set, get_or-set_same, get_or-set_other, sym, refl, ap, ◌∙◌, subst, lt_of_not-le, arith}
use Rattle.std.proofs.Math.Nat.{add-mod_right}
use mathlib.Core.Option.{some}
use mathlib.Core.Logic.{dite}
use native.Mathlib.Decide.{dec_le, ℕ_discrete}
use lib.ListN.{get_elem?}
use Rattle.std.specs.Prelude.{slice_index}
use Rattle.atomic_table.specs.Table.{Allows, homes_after}
use Rattle.atomic_table.proofs.Lists.{at_set}
use Rattle.theory.specs.Placed.{Among}
use Rattle.theory.specs.Position.{greatest_claim}
use Rattle.theory.specs.Refusal.{limit_in}
use Rattle.publication.specs.declared.pass.FrameWords.{FrameWords}
use Rattle.region.specs.declared.access.Access.{Access}
use Rattle.log_rule.specs.Edges.{AreCommitted, IsAmong}
use Rattle.log_memory.specs.declared.view.LogView.{LogView}
use Rattle.log_memory.specs.declared.view.Site.{Site}
use Rattle.log_memory.specs.Places.{head_place, slot_of}
use Rattle.log_memory.specs.Rule.{Board, IsBeyond, IsEdgeOf, IsFree, IsHeld, IsHome, IsOut, IsParked, IsRoom, IsThereAny, KnowsRoom, LogMemoryRuled, passes_of, ring, shape, tail_in, term}
use Rattle.log_memory.specs.Steps.{CarriesRange, GivesRoom, IsRoomAt, MayGiveRoom, Mine}
use Rattle.log_memory.proofs.Committing.{quiet_step, stepped}
use Rattle.log_memory.proofs.Facts.{apart, end_low, in_row_of, long, some_ring, tail_near, unit, whole, whole_term, width}
use Rattle.log_memory.proofs.Freeing.{only, reader_on, room}
use Rattle.log_memory.proofs.Lifting.{quiet_look}
use Rattle.log_memory.proofs.Places.{head_apart, in_range, one_unit, place_is, row_apart}
use Rattle.log_memory.proofs.Resting.{SameFrames, beyond_on, edge_on, held_on, parked_on, parked_set, passed_on, same_frames, tail_on}
use Rattle.log_memory.proofs.Rows.{GivesRow, carried_behind, gives_row}
use Rattle.log_memory.proofs.OpenFrames.{open_from, open_to}

module _ (t : Site) (s : Board) (r : LogMemoryRuled t s) (id : ℕ) (m : Mine) (at : get_elem? s.views id ≡ some m.0) (may : MayGiveRoom t m) where
  knows : KnowsRoom t (passes_of s.views) r.freed r.out m.0
  knows = room t s r id m.0 at may.keeper

  some_out : 0 < r.out
  some_out = let a = may.some in let e = knows.out_is in omega arith

  gone : IsOut (passes_of s.views) r.freed r.out
  gone = r.memory.taken some_out

  some_n : 0 < ring t
  some_n = some_ring t r.stream s.views r.ruled

  unit_f : r.freed % 32 ≡ 0
  unit_f = r.memory.unit

  whole_f : r.out % 32 ≡ 0
  whole_f = subst (λ (x : ℕ). x % 32 ≡ 0) (sym gone.long) (whole t r.stream s.views r.ruled gone.frame gone.among)

  row : r.freed % (ring t * 32) + r.out ≤ ring t * 32
  row = subst (λ (x : ℕ × ℕ). x.0 % (ring t * 32) + x.1 ≤ ring t * 32) (λ i. (gone.here i, sym gone.long i)) (in_row_of t r.stream s.views r.ruled gone.frame gone.among)

  end_f : r.freed + r.out ≤ tail_in t.key (passes_of s.views)
  end_f = let a = end_low t r.stream s.views r.ruled gone.frame gone.among in let e = gone.here in let l = gone.long in omega arith

  carries : CarriesRange t (IsRoomAt t) r.freed r.out may.before m.1
  carries = subst (λ (x : ℕ × ℕ). CarriesRange t (IsRoomAt t) x.0 x.1 may.before m.1) (λ i. (knows.freed_is i, knows.out_is i)) may.carries

  wide : slot_of (ring t) r.freed 0 + r.out / 4 ≤ length s.homes
  wide = let e = place_is (ring t) r.freed some_n unit_f in let x : ℕ = r.freed / 32 % ring t in let e' : x * 32 ≡ r.freed % (ring t * 32) = e in let a = row in let c = r.memory.shelves in omega arith

  pub given : GivesRow s.homes (IsRoomAt t) (slot_of (ring t) r.freed 0) (r.out / 4) m.1 may.before
  given = gives_row s.homes (IsRoomAt t) (slot_of (ring t) r.freed 0) (r.out / 4) m.1 may.before wide carries

  abbrev pub seat : LogView
  seat = record m.0 { view = record m.0.view { steps = suc m.0.view.steps }; room = record { freed = m.0.room.freed + m.0.room.out; out = 0 } }

  abbrev words : List ℕ
  words = set s.words (head_place (ring t) r.freed) 0

  abbrev pub board : Board
  board = record { words = set s.words (head_place (ring t) r.freed) 0; homes = homes_after s.homes m.1 given.act; views = set s.views id seat }

  frames_same : SameFrames (passes_of s.views) (passes_of (set s.views id seat))
  frames_same = same_frames (passes_of s.views) (passes_of (set s.views id seat)) (quiet_look s.views id m.0 seat at (quiet_step m.0.view (suc m.0.view.steps))).committed

  home_on : (x j : ℕ) (is : Access → Type 0) → x % 32 ≡ 0 → r.freed + r.out ≤ x → x < r.freed + 3 * term t → j < 8 → IsHome s (slot_of (ring t) x j) is → IsHome board (slot_of (ring t) x j) is
  home_on x j is ux lo hi lt h = let w = width t r.stream s.views r.ruled in let e = end_f in let n = tail_near t s r in record {
    access = h.access;
    there = given.others (slot_of (ring t) x j) (row_apart (ring t) r.freed r.freed r.out x j some_n unit_f whole_f row (omega arith) (omega arith) ux (omega arith) (omega arith) (inr lo) lt) ∙ h.there;
    so = h.so;
  }

  -- ---- a ring further on

  back : (x : ℕ) → x % 32 ≡ 0 → r.freed + 3 * term t ≤ x → (x - 3 * term t) / 32 % ring t ≡ x / 32 % ring t
  back x ux lo = let w = width t r.stream s.views r.ruled in let y : ℕ = x - 3 * term t in let e : x / 32 ≡ y / 32 + ring t = omega arith in sym (ap (λ (z : ℕ). z % ring t) e ∙ add-mod_right (y / 32) (ring t))

  back_unit : (x : ℕ) → x % 32 ≡ 0 → (x - 3 * term t) % 32 ≡ 0
  back_unit x ux = let w = whole_term t r.stream s.views r.ruled in omega arith

  new_room : (x : ℕ) → x % 32 ≡ 0 → r.freed + 3 * term t ≤ x → x < r.freed + r.out + 3 * term t → IsFree t board x
  new_room x ux lo hi =
      let y : ℕ = x - 3 * term t in let uy = back_unit x ux in let same : (j : ℕ) → slot_of (ring t) y j ≡ slot_of (ring t) x j = (λ j. ap (λ (z : ℕ). 8 * z + j) (back x ux lo)) in
      let range : (j : ℕ) → j < 8 → _ = λ j lt. in_range (ring t) r.freed r.out y j some_n unit_f whole_f row uy (omega arith) (omega arith) lt in
      let one = given.full (slot_of (ring t) y 0) (range 0 (omega arith)).0 (range 0 (omega arith)).1 in record {
        room = subst (λ (k : ℕ). IsHome board k (IsRoom t k)) (same 0) record { access = one.0; there = one.1; so = one.2 (let q : ℕ = y / 32 % ring t in omega arith) };
        others = λ j lt. (let g = given.full (slot_of (ring t) y j) (range j lt).0 (range j lt).1 in subst (IsThereAny board) (same j) record { access = g.0; there = g.1; so = tt });
      }

  head_low : head_place (ring t) r.freed < length s.words
  head_low = let e = place_is (ring t) r.freed some_n unit_f in let x : ℕ = r.freed / 32 % ring t in let e' : x * 32 ≡ r.freed % (ring t * 32) = e in let a = row in let b = some_out in let c = r.words.long in omega arith

  head_else : (x : ℕ) → x % 32 ≡ 0 → r.freed < x → x < r.freed + 3 * term t → slice_index words (head_place (ring t) x) ≡ slice_index s.words (head_place (ring t) x)
  head_else x ux lo hi = let w = width t r.stream s.views r.ruled in
      get_or-set_other s.words (head_place (ring t) r.freed) (head_place (ring t) x) 0 0 (λ e. let same : x ≡ r.freed = one_unit (ring t) r.freed x r.freed ux unit_f (omega arith) (omega arith) (omega arith) (omega arith) (head_apart (ring t) x r.freed e) in omega arith)

  -- no other frame begins where the one was that is gone
  none_inside : (y : ℕ) → r.freed < y → y < r.freed + r.out → (f : FrameWords) → IsAmong (passes_of s.views) f → f.start ≡ y → ⊥
  none_inside y lo hi f among e = let h = gone.here in let l = gone.long in let a = apart t r.stream s.views r.ruled gone.frame f gone.among among (omega arith) in omega arith

  rest : (x : ℕ) → x % 32 ≡ 0 → r.freed + r.out ≤ x → x < r.freed + r.out + 3 * term t → ((f : FrameWords) → IsAmong (passes_of s.views) f → f.start ≡ x → ⊥) → slice_index words (head_place (ring t) x) ≡ 0
  rest x ux lo hi none = dite (dec_le (r.freed + 3 * term t) x)
      (λ far. let y : ℕ = x - 3 * term t in let uy = back_unit x ux in let e : head_place (ring t) y ≡ head_place (ring t) x = ap (λ (z : ℕ). 208 + z) (back x ux far) in
      subst (λ (k : ℕ). slice_index words k ≡ 0) e (dite (ℕ_discrete y r.freed)
      (λ here. subst (λ (z : ℕ). slice_index words (head_place (ring t) z) ≡ 0) (sym here) (get_or-set_same s.words (head_place (ring t) r.freed) 0 0 head_low))
      (λ ne. let o = some_out in let b = end_f in let n = tail_near t s r in head_else y uy (omega arith) (omega arith) ∙ r.words.rest y uy (omega arith) (omega arith) (none_inside y (omega arith) (omega arith)))))
      (λ near. let o = some_out in head_else x ux (omega arith) (lt_of_not-le near) ∙ r.words.rest x ux (omega arith) (lt_of_not-le near) none)

  -- room that is at home stays there
  parked_here : (i : ℕ) (x : LogView) → get_elem? s.views i ≡ some x → (f : FrameWords) → Among f x.parked → IsParked t board x f
  parked_here i x here f among = let a = r.memory.parked i x f here among in let from = open_from t s r i x here f a.draft in let to = open_to t s r i x here f a.draft in let near = tail_near t s r in
      parked_on t s board x f (λ p j is unit lo hi lt h. home_on p j is unit (omega arith) (omega arith) lt h) a

  as_seat : (f : FrameWords) → IsParked t board m.0 f → IsParked t board seat f
  as_seat f a = record { draft = a.draft; room = a.room }

  pub gave : LogMemoryRuled t board
  gave =
      let ps = passes_of s.views in let ps' = passes_of (set s.views id seat) in let look = quiet_look s.views id m.0 seat at (quiet_step m.0.view (suc m.0.view.steps)) in let o = some_out in
      let same : r.freed + r.out + 0 ≡ r.freed + r.out = omega arith in record {
        stream = r.stream;
        freed = r.freed + r.out;
        out = 0;
        rounds = r.rounds;
        ruled = stepped t s r id m.0 seat at refl;
        words = record {
          long = length-set s.words (head_place (ring t) r.freed) 0 ∙ r.words.long;
          small = r.words.small;
          controls = λ i lt. get_or-set_other s.words (head_place (ring t) r.freed) i 0 0 (λ e. (let x : ℕ = r.freed / 32 % ring t in omega arith)) ∙ r.words.controls i lt;
          heads = λ f among from. (let old = frames_same.back f among in let e = end_low t r.stream s.views r.ruled f old in let n = tail_near t s r in let l = long t r.stream s.views r.ruled f old in head_else f.start (unit t r.stream s.views r.ruled f old) (omega arith) (omega arith) ∙ r.words.heads f old (omega arith));
          rest = λ x ux from to none. rest x ux from to (λ f among. none f (frames_same.there f among));
        };
        memory = record {
          shelves = given.long ∙ r.memory.shelves;
          unit = (let a = unit_f in let b = whole_f in omega arith);
          edge = edge_on t ps ps' look (r.freed + r.out + 0) (subst (IsEdgeOf t.key ps) (sym same) r.memory.edge);
          passed = passed_on t ps ps' look (r.freed + r.out + 0) (subst (AreCommitted ps) (sym same) r.memory.passed);
          ahead = subst (λ (n : ℕ). limit_in n + greatest_claim (shape t) * 8 < r.freed + r.out + 3 * term t) (sym (get_or-set_other s.words (head_place (ring t) r.freed) 0 0 0 (λ e. (let x : ℕ = r.freed / 32 % ring t in omega arith)))) (let a = r.memory.ahead in omega arith);
          free = λ x ux from to. (let e = tail_on t ps ps' look in let a = end_f in dite (dec_le (r.freed + 3 * term t) x)
              (λ far. new_room x ux far to)
              (λ near. let lt = lt_of_not-le near in let g = r.memory.free x ux (omega arith) lt in record {
                room = home_on x 0 _ ux (omega arith) lt (omega arith) g.room;
                others = λ j lj. home_on x j _ ux (omega arith) lt lj (g.others j lj);
              }));
          frames = λ f among from. (let old = frames_same.back f among in let e = end_low t r.stream s.views r.ruled f old in let n = tail_near t s r in let l = long t r.stream s.views r.ruled f old in let a = r.memory.frames f old (omega arith) in record {
            parts = λ j lt. ⊎_elim
                (λ h. inl (home_on f.start j _ (unit t r.stream s.views r.ruled f old) (omega arith) (omega arith) lt h))
                (λ b. inr (reader_on s id m.0 seat at refl words (homes_after s.homes m.1 given.act) f.start j b))
                (a.parts j lt);
            inside = λ x j ux lo hi lt. home_on x j _ ux (omega arith) (omega arith) lt (a.inside x j ux lo hi lt);
          });
          taken = λ some'. absurd (omega arith);
          held = λ i x there has. ⊎_elim
              (λ e. subst (IsHeld t ps' r.rounds) e.1 (let a = held_on t ps ps' frames_same r.rounds m.0 (r.memory.held id m.0 at (ap (λ (y : LogView). y.part.has) e.1 ∙ has)) in record { frame = a.frame; among = a.among; here = a.here; round = a.round; book = a.book; reading = a.reading; mine = a.mine; number = a.number; low = a.low; near = a.near }))
              (λ e. held_on t ps ps' frames_same r.rounds x (r.memory.held i x e.1 has))
              (at_set s.views id i seat x there);
          readers = λ i x y there among lt. subst (λ (g : ℕ). IsBeyond t ps' g y.position) (sym same) (⊎_elim
              (λ e. beyond_on t ps ps' frames_same (r.freed + r.out) y.position (r.memory.readers id m.0 y at (subst (Among y) (sym (ap (λ (a : LogView). a.view.pass.reading) e.1)) among) lt))
              (λ e. beyond_on t ps ps' frames_same (r.freed + r.out) y.position (r.memory.readers i x y e.1 among lt))
              (at_set s.views id i seat x there));
          keeper = λ i x there one. ⊎_elim
              (λ e. subst (KnowsRoom t ps' (r.freed + r.out) 0) e.1 record {
                freed_is = (λ i. knows.freed_is i + knows.out_is i);
                out_is = refl;
                cleaned = (let c = knows.cleaned in omega arith);
                seen = λ j is. subst (λ (g : ℕ). IsBeyond t ps' g (slice_index m.0.view.pass.keeping.positions j)) (sym same) (beyond_on t ps ps' frames_same (r.freed + r.out) _ (knows.seen j is));
              })
              (λ e. absurd (only t s r id m.0 at may.keeper i x e.0 e.1 one))
              (at_set s.views id i seat x there);
          parked = parked_set t s board id seat (λ f among. as_seat f (parked_here id m.0 at f among)) (λ i x f ne there among. parked_here i x there f among);
        };
      }

pub give_room : (t : Site) (id : ℕ) (m : Mine) → MayGiveRoom t m → (slots : ℕ) → Allows (LogMemoryRuled t) slots id m (head_place (ring t) m.0.room.freed) (λ _. 0) (λ _ w. GivesRoom m w)
give_room t id m may slots s r homes at small =
    let g = given t s r id m at may in let freed = (room t s r id m.0 at may.keeper).freed_is in (
      seat t s r id m at may,
      g.act,
      g.valid,
      subst (λ (x : ℕ). LogMemoryRuled t (record { words = set s.words (head_place (ring t) x) 0; homes = homes_after s.homes m.1 g.act; views = set s.views id (seat t s r id m at may) })) (sym freed) (gave t s r id m at may),
      record { carried = g.rest ∙ sym (carried_behind (IsRoomAt t) (slot_of (ring t) m.0.room.freed 0) (m.0.room.out / 4) may.before m.1 may.carries); part = refl; room = refl; parked = refl; rests = refl },
    )
