-- Frames in their datagrams: how long these are, and what one frame more makes of them.
use Rattle.std.proofs.Common.{◌≡◌, ℕ, ◌+◌, ◌-◌, ◌*◌, ◌/◌, ◌<◌, ◌≤◌, ⊎_elim, inr, Bool, true, false, not, List, [], ◌∷◌, ◌++◌, length, map, take, refl, sym, ap, ◌∙◌, subst, append-nil, append_assoc, length-append, arith}
use Rattle.std.specs.List.{flat_map, list_any}
use Rattle.std.specs.Prelude.{nat_eq, nat_le, ◌&&◌, ◌||◌}
use Rattle.std.proofs.lemmas.Bool.{and_from, and_parts, both_ways, eq-eqb, eqb-true, false_from_ne_true, le-leb, leb-true, not-true, or_parts}
use Rattle.std.proofs.lemmas.List.{length-map, length-take-le, map-append, take_at}
use Rattle.std.proofs.Math.Nat.{mul-div_cancel}
use Rattle.theory.specs.Position.{Geometry, aligned}
use Rattle.theory.specs.Placed.{Data, Frame, Pad, Placed, is_padding}
use Rattle.theory.specs.Wire.{spelling}
use Rattle.theory.specs.Bytes.{Identity, header_at, wire_at}
use Rattle.theory.specs.Datagrams.{fits_in, grouped, size_of, wire_size, wires}
use Rattle.theory.proofs.Grouping.{begins_another, goes_into_last, size_push}
use Rattle.theory.proofs.Lengths.{data_size}
use Rattle.position.specs.declared.head.FrameHead.{FrameHead}
use Rattle.position.specs.declared.head.FrameKind.{FrameKind}
use Rattle.position.specs.declared.head.FrameKind.TheVariants as kinds
use Rattle.position.specs.Heads.{IsStreamFrame, frame_in}
use Rattle.sender.specs.Cycling.{datagrams}
use Rattle.frames.specs.Outgoing.{FitsLast, Outgoing, extended, with_datagram, with_extended}
use Rattle.sender.specs.Packed.{HasPacked, KnowsLast, MayJoin, Packs, Puts, placed_in, size_in}
use Rattle.sender.specs.declared.packing.Packing.{Packing}

-- ---- bytes

wire_length : (i : Identity) (p : ℕ) (f : Frame) → length (spelling (wire_at i p f)) ≡ wire_size (record { at = p; frame = f }) f
wire_length i p (Data flags payload) = data_size (header_at i p) flags payload
wire_length i p (Pad n) = omega arith

pub frame_length_is : (i : Identity) (s : Placed) → length (spelling (wire_at i s.at s.frame)) ≡ wire_size s s.frame
frame_length_is i s = wire_length i s.at s.frame

datagram_length : (i : Identity) (d : List Placed) → length (flat_map spelling (wires i d)) ≡ size_of d
datagram_length i [] = refl
datagram_length i (s ∷ ss) = omega (arith, length-append (spelling (wire_at i s.at s.frame)) (flat_map spelling (wires i ss)), frame_length_is i s, datagram_length i ss)

frame_behind : (i : Identity) (d : List Placed) (s : Placed) → flat_map spelling (wires i (d ++ s ∷ [])) ≡ flat_map spelling (wires i d) ++ spelling (wire_at i s.at s.frame)
frame_behind i [] s = append-nil (spelling (wire_at i s.at s.frame))
frame_behind i (t ∷ ts) s = ap (λ (x : List ℕ). spelling (wire_at i t.at t.frame) ++ x) (frame_behind i ts s) ∙ sym (append_assoc (spelling (wire_at i t.at t.frame)) (flat_map spelling (wires i ts)) (spelling (wire_at i s.at s.frame)))

datagram_behind : (i : Identity) (before : List (List ℕ)) (groups : List (List Placed)) (d : List Placed) → before ++ datagrams (map (wires i) (groups ++ d ∷ [])) ≡ (before ++ datagrams (map (wires i) groups)) ++ flat_map spelling (wires i d) ∷ []
datagram_behind i before groups d =
    ap (λ (x : List (List ℕ)). before ++ x) (ap datagrams (map-append (wires i) groups (d ∷ [])) ∙ map-append (flat_map spelling) (map (wires i) groups) (wires i d ∷ []))
    ∙ sym (append_assoc before (datagrams (map (wires i) groups)) (flat_map spelling (wires i d) ∷ []))

extended_last : (front : List (List ℕ)) (d bytes : List ℕ) → extended (front ++ d ∷ []) bytes ≡ front ++ (d ++ bytes) ∷ []
extended_last [] d bytes = refl
extended_last (x ∷ []) d bytes = refl
extended_last (x ∷ y ∷ front) d bytes = ap (λ (z : List (List ℕ)). x ∷ z) (extended_last (y ∷ front) d bytes)

same_outgoing : (o : Outgoing) (mtu : ℕ) (d : List (List ℕ)) → o.mtu ≡ mtu → o.datagrams ≡ d → o ≡ record { mtu = mtu; datagrams = d }
same_outgoing o mtu d e f = ap (λ (m : ℕ). record { mtu = m; datagrams = o.datagrams }) e ∙ ap (λ (x : List (List ℕ)). record { mtu = mtu; datagrams = x }) f

-- ---- the frame that was read

size_of_kind : (g : Geometry) (kind : FrameKind) (start flags n : ℕ) (block : List ℕ) → 32 ≤ n → (kind ≡ kinds.Data → n ≤ g.mtu) → g.mtu ≤ length block → wire_size (record { at = start; frame = frame_in kind flags n block }) (frame_in kind flags n block) ≡ size_in kind n
size_of_kind g kinds.Data start flags n block long short room =
    let payload : length (take (n - 32) block) ≡ n - 32 = length-take-le (n - 32) block (omega (arith, short refl)) in
    let whole : 32 + length (take (n - 32) block) ≡ n = omega arith in
    ap aligned whole
size_of_kind g kinds.Pad start flags n block long short room = refl

pub size_shown : (g : Geometry) (head : FrameHead) (block : List ℕ) → 32 ≤ head.frame_length → (head.kind ≡ kinds.Data → head.frame_length ≤ g.mtu) → g.mtu ≤ length block → wire_size (placed_in head block) (placed_in head block).frame ≡ size_in head.kind head.frame_length
size_shown g head block = size_of_kind g head.kind head.start head.flags head.frame_length block

pub some_term : (g : Geometry) (head : FrameHead) → IsStreamFrame g head → 0 < g.term_length
some_term g head is = omega (arith, is.in_term, is.long)

-- ---- whether it goes into the last datagram

same_count : (a b t : ℕ) → 0 < t → a * t ≡ b * t → a ≡ b
same_count a b t h e = sym (mul-div_cancel a {n = t} h) ∙ ap (λ (n : ℕ). n / t) e ∙ mul-div_cancel b {n = t} h

joins : (g : Geometry) (p : Packing) (groups : List (List Placed)) (k : KnowsLast g p groups) (head : FrameHead) (block : List ℕ) → 0 < g.term_length → wire_size (placed_in head block) (placed_in head block).frame ≡ size_in head.kind head.frame_length → MayJoin g p head → fits_in g (k.first ∷ k.rest) (placed_in head block) ≡ true
joins g p groups k head block some size may =
    let d = k.first ∷ k.rest in
    let s = placed_in head block in
    let none : not (list_any (λ u. is_padding u.frame) d) ≡ true = sym k.more ∙ may.more in
    let count : k.first.at / g.term_length ≡ s.at / g.term_length = same_count (k.first.at / g.term_length) (s.at / g.term_length) g.term_length some (sym k.term ∙ may.term) in
    let fits : size_of d + wire_size s s.frame ≤ g.mtu = omega (arith, may.size, k.size, size) in
    and_from (not (list_any (λ u. is_padding u.frame) d) && nat_eq (k.first.at / g.term_length) (s.at / g.term_length)) (nat_le (size_of d + wire_size s s.frame) g.mtu)
    (and_from (not (list_any (λ u. is_padding u.frame) d)) (nat_eq (k.first.at / g.term_length) (s.at / g.term_length)) none (eq-eqb (k.first.at / g.term_length) (s.at / g.term_length) count))
    (le-leb (size_of d + wire_size s s.frame) g.mtu fits)

joined : (g : Geometry) (p : Packing) (groups : List (List Placed)) (k : KnowsLast g p groups) (head : FrameHead) (block : List ℕ) → wire_size (placed_in head block) (placed_in head block).frame ≡ size_in head.kind head.frame_length → fits_in g (k.first ∷ k.rest) (placed_in head block) ≡ true → MayJoin g p head
joined g p groups k head block size t =
    let d = k.first ∷ k.rest in
    let s = placed_in head block in
    let both = and_parts (not (list_any (λ u. is_padding u.frame) d) && nat_eq (k.first.at / g.term_length) (s.at / g.term_length)) (nat_le (size_of d + wire_size s s.frame) g.mtu) t in
    let two = and_parts (not (list_any (λ u. is_padding u.frame) d)) (nat_eq (k.first.at / g.term_length) (s.at / g.term_length)) both.0 in
    let count : k.first.at / g.term_length ≡ s.at / g.term_length = eqb-true (k.first.at / g.term_length) (s.at / g.term_length) two.1 in
    let fits : size_of d + wire_size s s.frame ≤ g.mtu = leb-true (size_of d + wire_size s s.frame) g.mtu both.1 in
    record {
      more = k.more ∙ two.0;
      term = k.term ∙ ap (λ (n : ℕ). n * g.term_length) count;
      size = omega (arith, fits, k.size, size);
    }

-- ---- it goes into the last datagram

or-false : (b : Bool) → (b || false) ≡ b
or-false true = refl
or-false false = refl

-- the last one in the outbox
stands_last : (i : Identity) (most : ℕ) (before : List (List ℕ)) (p : Packing) (o : Outgoing) (frames : List Placed) (packs : Packs i most before p o frames) (k : KnowsLast i.geometry p (grouped i.geometry frames)) → o.datagrams ≡ (before ++ datagrams (map (wires i) k.earlier)) ++ flat_map spelling (wires i (k.first ∷ k.rest)) ∷ []
stands_last i most before p o frames packs k =
    ap (λ (x : Outgoing). x.datagrams) packs.out
    ∙ ap (λ (x : List (List Placed)). before ++ datagrams (map (wires i) x)) k.parts
    ∙ datagram_behind i before k.earlier (k.first ∷ k.rest)

some_last : (i : Identity) (most : ℕ) (before : List (List ℕ)) (p : Packing) (o : Outgoing) (frames : List Placed) → Packs i most before p o frames → p.takes_more ≡ true → KnowsLast i.geometry p (grouped i.geometry frames)
some_last i most before p o frames packs more = ⊎_elim (λ (none : (frames ≡ []) × (p.takes_more ≡ false)). absurd (both_ways p.takes_more none.1 more)) (λ (k : KnowsLast i.geometry p (grouped i.geometry frames)). k) packs.last

pub last_has_room : (i : Identity) (p : Packing) (o : Outgoing) (head : FrameHead) (block : List ℕ) (bytes : List ℕ) → HasPacked i p o → MayJoin i.geometry p head → wire_size (placed_in head block) (placed_in head block).frame ≡ size_in head.kind head.frame_length → bytes ≡ spelling (wire_at i (placed_in head block).at (placed_in head block).frame) → FitsLast o bytes
last_has_room i p o head block bytes h may size is =
    let k = some_last i h.most h.before p o h.frames h.packs may.more in
    let mtu : o.mtu ≡ i.geometry.mtu = ap (λ (x : Outgoing). x.mtu) h.packs.out in
    let long : length bytes ≡ size_in head.kind head.frame_length = ap length is ∙ frame_length_is i (placed_in head block) ∙ size in
    record {
      front = h.before ++ datagrams (map (wires i) k.earlier);
      last = flat_map spelling (wires i (k.first ∷ k.rest));
      parts = stands_last i h.most h.before p o h.frames h.packs k;
      fits = omega (arith, datagram_length i (k.first ∷ k.rest), long, k.size, may.size, mtu);
    }

more_padding : (d : List Placed) (s : Placed) → list_any (λ u. is_padding u.frame) d ≡ false → list_any (λ u. is_padding u.frame) (d ++ s ∷ []) ≡ is_padding s.frame
more_padding [] s e = or-false (is_padding s.frame)
more_padding (t ∷ ts) s e =
    let parts = or_parts (is_padding t.frame) (list_any (λ u. is_padding u.frame) ts) e in
    ap (λ (b : Bool). b || list_any (λ u. is_padding u.frame) (ts ++ s ∷ [])) parts.0 ∙ more_padding ts s parts.1

pub puts_joined : (i : Identity) (p q : Packing) (o n : Outgoing) (head : FrameHead) (block bytes : List ℕ) → 0 < i.geometry.term_length → wire_size (placed_in head block) (placed_in head block).frame ≡ size_in head.kind head.frame_length → MayJoin i.geometry p head
    → bytes ≡ spelling (wire_at i (placed_in head block).at (placed_in head block).frame) → n ≡ with_extended o bytes
    → q.left ≡ p.left → q.term ≡ p.term → q.size ≡ p.size + size_in head.kind head.frame_length → q.takes_more ≡ not (is_padding (placed_in head block).frame)
    → Puts i p o (placed_in head block) true q n
puts_joined i p q o n head block bytes some size may is out left term longer more most before frames packs =
    let s = placed_in head block in
    let k = some_last i most before p o frames packs may.more in
    let d = k.first ∷ k.rest in
    let front = before ++ datagrams (map (wires i) k.earlier) in
    let groups : grouped i.geometry (frames ++ s ∷ []) ≡ k.earlier ++ (d ++ s ∷ []) ∷ [] = goes_into_last i.geometry frames s k.earlier d k.parts (joins i.geometry p (grouped i.geometry frames) k head block some size may) in
    let none : list_any (λ u. is_padding u.frame) d ≡ false = not-true (list_any (λ u. is_padding u.frame) d) (sym k.more ∙ may.more) in
    record {
      out = same_outgoing n i.geometry.mtu (before ++ datagrams (map (wires i) (grouped i.geometry (frames ++ s ∷ []))))
          (ap (λ (x : Outgoing). x.mtu) out ∙ ap (λ (x : Outgoing). x.mtu) packs.out)
          (ap (λ (x : Outgoing). x.datagrams) out
          ∙ ap (λ (x : List (List ℕ)). extended x bytes) (stands_last i most before p o frames packs k)
          ∙ extended_last front (flat_map spelling (wires i d)) bytes
          ∙ ap (λ (x : List ℕ). front ++ (flat_map spelling (wires i d) ++ x) ∷ []) is
          ∙ ap (λ (x : List ℕ). front ++ x ∷ []) (sym (frame_behind i d s))
          ∙ sym (datagram_behind i before k.earlier (d ++ s ∷ []))
          ∙ ap (λ (x : List (List Placed)). before ++ datagrams (map (wires i) x)) (sym groups));
      left =
          let many : length (grouped i.geometry (frames ++ s ∷ [])) ≡ length (grouped i.geometry frames) = ap length groups ∙ length-append k.earlier ((d ++ s ∷ []) ∷ []) ∙ sym (length-append k.earlier (d ∷ [])) ∙ sym (ap length k.parts) in
          omega (arith, many, packs.left, left);
      last = inr (record {
        earlier = k.earlier;
        first = k.first;
        rest = k.rest ++ s ∷ [];
        parts = groups;
        term = term ∙ k.term;
        size = omega (arith, longer, k.size, size, size_push d s);
        more = more ∙ ap not (sym (more_padding d s none));
      });
      small = omega (arith, longer, may.size);
    }

-- ---- it begins another

goes_behind : (i : Identity) (most : ℕ) (before : List (List ℕ)) (p : Packing) (o : Outgoing) (frames : List Placed) (head : FrameHead) (block : List ℕ) → Packs i most before p o frames → wire_size (placed_in head block) (placed_in head block).frame ≡ size_in head.kind head.frame_length → (MayJoin i.geometry p head → ⊥)
    → grouped i.geometry (frames ++ placed_in head block ∷ []) ≡ grouped i.geometry frames ++ (placed_in head block ∷ []) ∷ []
goes_behind i most before p o frames head block packs size apart =
    let s = placed_in head block in
    ⊎_elim
    (λ (none : (frames ≡ []) × (p.takes_more ≡ false)). subst (λ (x : List Placed). grouped i.geometry (x ++ s ∷ []) ≡ grouped i.geometry x ++ (s ∷ []) ∷ []) (sym none.0) refl)
    (λ (k : KnowsLast i.geometry p (grouped i.geometry frames)). begins_another i.geometry frames s k.earlier (k.first ∷ k.rest) k.parts (false_from_ne_true (fits_in i.geometry (k.first ∷ k.rest) s) (λ t. apart (joined i.geometry p (grouped i.geometry frames) k head block size t))))
    packs.last

pub another_has_room : (i : Identity) (p : Packing) (o : Outgoing) → HasPacked i p o → 0 < p.left → length o.datagrams < 32
another_has_room i p o h some =
    let groups = grouped i.geometry h.frames in
    let all : length o.datagrams ≡ length h.before + length (datagrams (map (wires i) groups)) = ap (λ (x : Outgoing). length x.datagrams) h.packs.out ∙ length-append h.before (datagrams (map (wires i) groups)) in
    omega (arith, all, length-map (map (wires i) groups) (flat_map spelling), length-map groups (wires i), h.packs.left, h.room)

pub puts_behind : (i : Identity) (p q : Packing) (o n : Outgoing) (head : FrameHead) (block bytes : List ℕ) → wire_size (placed_in head block) (placed_in head block).frame ≡ size_in head.kind head.frame_length → (MayJoin i.geometry p head → ⊥) → 0 < p.left → length bytes ≤ i.geometry.mtu
    → bytes ≡ spelling (wire_at i (placed_in head block).at (placed_in head block).frame) → n ≡ with_datagram o bytes
    → q.left ≡ p.left - 1 → q.term ≡ head.start / i.geometry.term_length * i.geometry.term_length → q.size ≡ size_in head.kind head.frame_length → q.takes_more ≡ not (is_padding (placed_in head block).frame)
    → Puts i p o (placed_in head block) true q n
puts_behind i p q o n head block bytes size apart some short is out left term whole more most before frames packs =
    let s = placed_in head block in
    let groups = goes_behind i most before p o frames head block packs size apart in
    let one : bytes ≡ flat_map spelling (wires i (s ∷ [])) = is ∙ sym (append-nil (spelling (wire_at i s.at s.frame))) in
    let long : length bytes ≡ size_in head.kind head.frame_length = ap length is ∙ frame_length_is i s ∙ size in
    record {
      out = same_outgoing n i.geometry.mtu (before ++ datagrams (map (wires i) (grouped i.geometry (frames ++ s ∷ []))))
          (ap (λ (x : Outgoing). x.mtu) out ∙ ap (λ (x : Outgoing). x.mtu) packs.out)
          (ap (λ (x : Outgoing). x.datagrams) out
          ∙ ap (λ (x : Outgoing). x.datagrams ++ bytes ∷ []) packs.out
          ∙ ap (λ (x : List ℕ). (before ++ datagrams (map (wires i) (grouped i.geometry frames))) ++ x ∷ []) one
          ∙ sym (datagram_behind i before (grouped i.geometry frames) (s ∷ []))
          ∙ ap (λ (x : List (List Placed)). before ++ datagrams (map (wires i) x)) (sym groups));
      left = omega (arith, ap length groups, length-append (grouped i.geometry frames) ((s ∷ []) ∷ []), packs.left, left, some);
      last = inr (record {
        earlier = grouped i.geometry frames;
        first = s;
        rest = [];
        parts = groups;
        term = term;
        size = omega (arith, whole, size);
        more = more ∙ ap not (sym (or-false (is_padding s.frame)));
      });
      small = omega (arith, whole, long, short);
    }

pub has_no_place : (i : Identity) (p : Packing) (o : Outgoing) (head : FrameHead) (block : List ℕ) → wire_size (placed_in head block) (placed_in head block).frame ≡ size_in head.kind head.frame_length → (MayJoin i.geometry p head → ⊥) → p.left ≡ 0 → Puts i p o (placed_in head block) false p o
has_no_place i p o head block size apart none = (
  refl,
  refl,
  λ most before frames packs.
      ap (take most) (goes_behind i most before p o frames head block packs size apart)
      ∙ take_at (grouped i.geometry frames) ((placed_in head block ∷ []) ∷ []) most (omega (arith, packs.left, none)),
)
