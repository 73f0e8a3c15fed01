-- Refusals that no sights justify: each cause needs its own words, in their order.
use Rattle.std.specs.Prelude.{◌≡◌, ℕ, ◌+◌, ◌%◌, ◌<◌, ◌≤◌, ◌⊎◌, List, [], ◌∷◌, ◌++◌, true, false}
use Rattle.std.proofs.Common.{refl, inl, inr, sym, ap, subst, ◌∙◌, arith}
use Rattle.theory.specs.Position.{id_of}
use Rattle.theory.specs.Placed.{Among}
use Rattle.theory.specs.Words.{id_in, offset_in}
use Rattle.theory.specs.Refusal.{Sight, SawLimit, SawCount, SawTail, AddedTo, Before, Why, Closed, NotConnected, BackPressured, AdminAction, MaxPositionExceeded, IsStale, IsSeenFinished, IsTripped, IsNotLast, IsLast, IsJustified, is_closed, is_connected}
use Rattle.theory.proofs.Lists.{among_right}
use Rattle.theory.proofs.Rows.{the_geometry}

-- ---- what came before what, sight for sight

abbrev Follow : Sight → Sight → List Sight → Type 0
Follow a b [] = ⊥
Follow a b (x ∷ xs) = ((a ≡ x) × Among b xs) ⊎ Follow a b xs

follow : (a b : Sight) (xs front middle back : List Sight) → xs ≡ (front ++ a ∷ middle) ++ b ∷ back → Follow a b xs
follow a b [] [] middle back e = absurd (cc)
follow a b [] (y ∷ ys) middle back e = absurd (cc)
follow a b (x ∷ xs) [] middle back e =
    let head : a ≡ x = cc in
    let rest : xs ≡ middle ++ b ∷ back = cc in
    inl (head, subst (Among b) (sym rest) (among_right b middle (b ∷ back) (inl refl)))
follow a b (x ∷ xs) (y ∷ ys) middle back e =
    let rest : xs ≡ (ys ++ a ∷ middle) ++ b ∷ back = cc in
    inr (follow a b xs ys middle back rest)

in_order : (a b : Sight) (xs : List Sight) → Before a b xs → Follow a b xs
in_order a b xs o = follow a b xs o.front o.middle o.back o.parts

-- ---- a limit word, an active count, and the tail of its partition

abbrev looked : ℕ → ℕ → ℕ → List Sight
looked limit count word = SawLimit limit ∷ SawCount count ∷ SawTail (count % 3) word ∷ []

seen : (limit count word c w : ℕ) → Follow (SawCount c) (SawTail (c % 3) w) (looked limit count word) → (c ≡ count) × (w ≡ word)
seen limit count word c w (inl h) = absurd (cc)
seen limit count word c w (inr (inl (e, inl t))) = let a : c ≡ count = cc in let b : w ≡ word = cc in (a, b)
seen limit count word c w (inr (inl (e, inr a))) = absurd a
seen limit count word c w (inr (inr (inl (e, a)))) = absurd a
seen limit count word c w (inr (inr (inr x))) = absurd x

only_limit : (limit count word l : ℕ) → Among (SawLimit l) (looked limit count word) → l ≡ limit
only_limit limit count word l (inl e) = cc
only_limit limit count word l (inr (inl e)) = absurd (cc)
only_limit limit count word l (inr (inr (inl e))) = absurd (cc)
only_limit limit count word l (inr (inr (inr a))) = absurd a

nothing_added : (limit count word p w : ℕ) → Among (AddedTo p w) (looked limit count word) → ⊥
nothing_added limit count word p w (inl e) = cc
nothing_added limit count word p w (inr (inl e)) = cc
nothing_added limit count word p w (inr (inr (inl e))) = cc
nothing_added limit count word p w (inr (inr (inr a))) = a

not_stale : (limit count word : ℕ) → id_in word ≡ id_of the_geometry count → IsStale the_geometry (looked limit count word) → ⊥
not_stale limit count word is s =
    let same = seen limit count word s.count s.word (in_order (SawCount s.count) (SawTail (s.count % 3) s.word) (looked limit count word) s.order) in
    s.other (ap id_in same.1 ∙ is ∙ sym (ap (id_of the_geometry) same.0))

-- ---- the log's first term has room, and nothing was added

abbrev fresh : ℕ
fresh = 0x0000000700000000

not_finished : (Which : ℕ → Type 0) → IsSeenFinished the_geometry (looked 32769 0 fresh) Which → ⊥
not_finished Which s =
    let same = seen 32769 0 fresh s.count s.word (in_order (SawCount s.count) (SawTail (s.count % 3) s.word) (looked 32769 0 fresh) s.order) in
    let offset : offset_in s.word ≡ 0 = ap offset_in same.1 in
    let over : 65536 ≤ offset_in s.word = s.over in
    absurd (omega arith)

no_rotation : IsJustified the_geometry 64 (looked 32769 0 fresh) AdminAction → ⊥
no_rotation (limit, l, (clear, inl s)) = not_stale 32769 0 fresh refl s
no_rotation (limit, l, (clear, inr (inl s))) = not_finished IsNotLast s
no_rotation (limit, l, (clear, inr (inr t))) = nothing_added 32769 0 fresh t.partition t.word t.among

no_last_end : IsJustified the_geometry 64 (looked 32769 0 fresh) MaxPositionExceeded → ⊥
no_last_end (limit, l, (clear, inl s)) = not_finished IsLast s
no_last_end (limit, l, (clear, inr t)) = nothing_added 32769 0 fresh t.partition t.word t.among

-- ---- an addition of 64 bytes from offset 0

abbrev added : List Sight
added = SawLimit 32769 ∷ AddedTo 0 fresh ∷ []

no_count : (c w : ℕ) → Follow (SawCount c) (SawTail (c % 3) w) added → ⊥
no_count c w (inl h) = cc
no_count c w (inr (inl h)) = h.1
no_count c w (inr (inr x)) = x

not_tripped : (Which : ℕ → Type 0) → IsTripped the_geometry 64 added Which → ⊥
not_tripped Which t = at t.among
  where
    at : Among (AddedTo t.partition t.word) added → ⊥
    at (inl e) = cc
    at (inr (inl e)) =
        let word : t.word ≡ fresh = cc in
        let offset : offset_in t.word ≡ 0 = ap offset_in word in
        let over : 65536 < offset_in t.word + 64 = t.over in
        absurd (omega arith)
    at (inr (inr a)) = a

added_no_rotation : IsJustified the_geometry 64 added AdminAction → ⊥
added_no_rotation (limit, l, (clear, inl s)) = no_count s.count s.word (in_order (SawCount s.count) (SawTail (s.count % 3) s.word) added s.order)
added_no_rotation (limit, l, (clear, inr (inl s))) = no_count s.count s.word (in_order (SawCount s.count) (SawTail (s.count % 3) s.word) added s.order)
added_no_rotation (limit, l, (clear, inr (inr t))) = not_tripped IsNotLast t

added_no_last_end : IsJustified the_geometry 64 added MaxPositionExceeded → ⊥
added_no_last_end (limit, l, (clear, inl s)) = no_count s.count s.word (in_order (SawCount s.count) (SawTail (s.count % 3) s.word) added s.order)
added_no_last_end (limit, l, (clear, inr t)) = not_tripped IsLast t

-- ---- the flags of the limit word

is_clear : (word limit : ℕ) → limit ≡ word → is_closed word ≡ true → is_closed limit ≡ false → ⊥
is_clear word limit e t f = let closed : is_closed word ≡ false = subst (λ x. is_closed x ≡ false) e f in absurd (cc)

-- a closed log is that and nothing else
abbrev IsOther : Why → Type 0
IsOther Closed = ⊥
IsOther other = Unit {0}

closed_alone : (count word taken : ℕ) (why : Why) → IsOther why → IsJustified the_geometry taken (looked 2 count word) why → ⊥
closed_alone count word taken Closed o h = o
closed_alone count word taken NotConnected o (limit, l, h) = is_clear 2 limit (only_limit 2 count word limit l) refl h.0
closed_alone count word taken BackPressured o (limit, l, h) = is_clear 2 limit (only_limit 2 count word limit l) refl h.0
closed_alone count word taken AdminAction o (limit, l, h) = is_clear 2 limit (only_limit 2 count word limit l) refl h.0
closed_alone count word taken MaxPositionExceeded o (limit, l, h) = is_clear 2 limit (only_limit 2 count word limit l) refl h.0

no_pressure : (count word : ℕ) → IsJustified the_geometry 64 (looked 32768 count word) BackPressured → ⊥
no_pressure count word (limit, l, h) = let flag : is_connected 32768 ≡ true = subst (λ x. is_connected x ≡ true) (only_limit 32768 count word limit l) h.1 in absurd (cc)

is_connected_there : (count word : ℕ) → IsJustified the_geometry 64 (looked 32769 count word) NotConnected → ⊥
is_connected_there count word (limit, l, h) = let flag : is_connected 32769 ≡ false = subst (λ x. is_connected x ≡ false) (only_limit 32769 count word limit l) h.1 in absurd (cc)

-- ---- the last term and the others

-- the term of count 5 is finished: another follows
not_last : IsJustified the_geometry 64 (looked 32769 5 0x0000000c00010000) MaxPositionExceeded → ⊥
not_last (limit, l, (clear, inl s)) =
    let same = seen 32769 5 0x0000000c00010000 s.count s.word (in_order (SawCount s.count) (SawTail (s.count % 3) s.word) (looked 32769 5 0x0000000c00010000) s.order) in
    let last : s.count ≡ 2147483647 = s.which in
    absurd (omega (arith, same.0))
not_last (limit, l, (clear, inr t)) = nothing_added 32769 5 0x0000000c00010000 t.partition t.word t.among

-- the last term is finished: none follows
abbrev last_word : ℕ
last_word = 0x8000000600010000

the_last : IsJustified the_geometry 64 (looked 32769 2147483647 last_word) AdminAction → ⊥
the_last (limit, l, (clear, inl s)) = not_stale 32769 2147483647 last_word refl s
the_last (limit, l, (clear, inr (inl s))) =
    let same = seen 32769 2147483647 last_word s.count s.word (in_order (SawCount s.count) (SawTail (s.count % 3) s.word) (looked 32769 2147483647 last_word) s.order) in
    let low : s.count < 2147483647 = s.which in
    absurd (omega (arith, same.0))
the_last (limit, l, (clear, inr (inr t))) = nothing_added 32769 2147483647 last_word t.partition t.word t.among

-- ---- a tail that was loaded before the count says nothing of it

abbrev swapped : List Sight
swapped = SawLimit 32769 ∷ SawTail 1 fresh ∷ SawCount 1 ∷ []

not_behind : (c w : ℕ) → Follow (SawCount c) (SawTail (c % 3) w) swapped → ⊥
not_behind c w (inl h) = cc
not_behind c w (inr (inl h)) = cc
not_behind c w (inr (inr (inl h))) = h.1
not_behind c w (inr (inr (inr x))) = x

no_old_tail : (Which : ℕ → Type 0) → (IsStale the_geometry swapped → ⊥) × (IsSeenFinished the_geometry swapped Which → ⊥)
no_old_tail Which = (λ s. not_behind s.count s.word (in_order (SawCount s.count) (SawTail (s.count % 3) s.word) swapped s.order), λ s. not_behind s.count s.word (in_order (SawCount s.count) (SawTail (s.count % 3) s.word) swapped s.order))
