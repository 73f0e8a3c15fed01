-- The destinations that are numbered one behind the other.
use Rattle.std.proofs.Common.{◌≡◌, ◌∙◌, ℕ, suc, ◌+◌, ◌<◌, ◌≤◌, true, false, List, [], ◌∷◌, ◌++◌, length, take, drop, drop-cons, get_or, set, add-one, ap, sym}
use Rattle.std.proofs.Math.ListN.{drop_of_length-le}
use Rattle.std.proofs.lemmas.List.{append-nil, append_assoc, take_all, take_more_set}
use Rattle.std.proofs.lemmas.List.Sums.{count_by_more_no, count_by_more_yes}
use Rattle.publisher.specs.Destinations.{heard_count, is_heard_along, next_number, numbered_from, with_number}
use Rattle.publisher.specs.Seeing.{ChannelDestination}
use Rattle.publisher.proofs.Written.{same_head}

-- one more of them
pub numbered_on : {D : Type 0} (xs ys : List (ChannelDestination D)) (i : ℕ) (next after : ℕ) (w d : ChannelDestination D) → i < length xs → i < length ys → drop i xs ≡ drop i ys → numbered_from 0 ys ≡ take i xs ++ numbered_from next (drop i ys)
    → w ≡ with_number next (get_or xs i d) → after ≡ next_number next (get_or xs i d) → numbered_from 0 ys ≡ take (i + 1) (set xs i w) ++ numbered_from after (drop (i + 1) ys)
numbered_on {D} xs ys i next after w d lx ly rest so is on =
    let y = get_or ys i d in
    let same : get_or xs i d ≡ y = same_head xs ys i d lx ly rest in
    let here : with_number next y ≡ w = sym (is ∙ ap (with_number next) same) in
    let then : next_number next y ≡ after = sym (on ∙ ap (next_number next) same) in
    let head : numbered_from next (drop i ys) ≡ with_number next y ∷ numbered_from (next_number next y) (drop (suc i) ys) = ap (numbered_from next) (drop-cons ys i d ly) in
    let there : with_number next y ∷ numbered_from (next_number next y) (drop (suc i) ys) ≡ w ∷ numbered_from after (drop (i + 1) ys) = λ j. here j ∷ numbered_from (then j) (drop (sym (add-one i) j) ys) in
    let behind = numbered_from after (drop (i + 1) ys) in
    so ∙ ap (λ (zs : List (ChannelDestination D)). take i xs ++ zs) (head ∙ there) ∙ sym (ap (λ (zs : List (ChannelDestination D)). zs ++ behind) (take_more_set xs i w lx) ∙ append_assoc (take i xs) (w ∷ []) behind)

-- and all of them
pub numbered_all : {D : Type 0} (xs ys : List (ChannelDestination D)) (i : ℕ) (next : ℕ) → length xs ≤ i → length ys ≤ i → numbered_from 0 ys ≡ take i xs ++ numbered_from next (drop i ys) → xs ≡ numbered_from 0 ys
numbered_all {D} xs ys i next lx ly so =
    sym (so ∙ (λ j. take_all i xs lx j ++ numbered_from next (drop_of_length-le ys ly j)) ∙ append-nil xs)

-- ---- how many were heard

pub count_yes : {D : Type 0} (destinations : List (ChannelDestination D)) (i : ℕ) (w : ChannelDestination D) (count after : ℕ) → i < length destinations → w ≡ get_or destinations i w → is_heard_along w ≡ true → count ≡ heard_count (take i destinations) → after ≡ count + 1 → after ≡ heard_count (take (i + 1) destinations)
count_yes {D} destinations i w count after less is heard so on = on ∙ ap (λ (n : ℕ). n + 1) so ∙ sym (count_by_more_yes is_heard_along destinations i w less (sym (ap is_heard_along is) ∙ heard))

pub count_no : {D : Type 0} (destinations : List (ChannelDestination D)) (i : ℕ) (w : ChannelDestination D) (count after : ℕ) → i < length destinations → w ≡ get_or destinations i w → is_heard_along w ≡ false → count ≡ heard_count (take i destinations) → after ≡ count → after ≡ heard_count (take (i + 1) destinations)
count_no {D} destinations i w count after less is heard so on = on ∙ so ∙ sym (count_by_more_no is_heard_along destinations i w less (sym (ap is_heard_along is) ∙ heard))
