-- How much the additions of a plain log cover, and what the messages of them have.
use Rattle.std.proofs.Common.{◌≡◌, ◌∙◌, ℕ, zero, suc, ◌+◌, ◌*◌, ◌%◌, ◌<◌, ◌≤◌, List, [], ◌∷◌, ◌++◌, map, length, take, drop, length-take, length-drop, Some, refl, sym, ap, subst, arith}
use Rattle.std.specs.Prelude.{slice_get, slice_set}
use Rattle.std.specs.List.{AllByRecursion, sum_by}
use Rattle.std.proofs.lemmas.List.{drop-append-le, length-map, take-append-le}
use Rattle.std.proofs.lemmas.List.Sums.{sum_by-cons}
use Rattle.theory.specs.Position.{Geometry, IsGeometry, cuts_of, span}
use Rattle.theory.specs.Entry.{Entry, IsEntry, length_of}
use Rattle.theory.proofs.Cuts.{span_unit}
use Rattle.theory.proofs.Holds.{holds_bytes}
use Rattle.theory.proofs.Pieces.{payload_in}
use Rattle.theory.proofs.Tiling.{tail_is}
use Rattle.one_hand.specs.Entries.{published}
use Rattle.one_hand.proofs.Keeps.{payload_sum}
use Rattle.log_tests.specs.declared.plain_log.addition.Addition.{Addition}
use Rattle.log_tests.specs.declared.plain_log.addition.Content.{Content}
use Rattle.log_tests.specs.declared.plain_log.addition.Content.TheVariants as content
use Rattle.log_tests.specs.Plain.{EndsBelow, IsIn, IsPlain, Plain, entry_by, entry_of, message_at, stored, stored_by}

-- ---- what entries cover

pub covers_units : (es : List Entry) → AllByRecursion IsEntry es → (32 * length es ≤ sum_by length_of es) × (sum_by length_of es % 32 ≡ 0)
covers_units [] h = (omega arith, refl)
covers_units (e ∷ es) h =
    let long : 0 < span e.cuts = h.0.long in
    let unit : span e.cuts % 32 ≡ 0 = span_unit e.cuts in
    let sum : sum_by length_of (e ∷ es) ≡ span e.cuts + sum_by length_of es = sum_by-cons length_of e es in
    let rest = covers_units es h.1 in
    (omega (arith, long, unit, sum, rest.0), omega (arith, unit, sum, rest.1))

payload_low : (cuts : List ℕ) → payload_in cuts ≤ span cuts
payload_low [] = omega arith
payload_low (cut ∷ cuts) = let h = payload_low cuts in omega (arith, h)

pub message_low : (g : Geometry) (n : ℕ) → IsGeometry g → n ≤ span (cuts_of g n)
message_low g n is = let low = payload_low (cuts_of g n) in let sum : payload_in (cuts_of g n) ≡ n = payload_sum (cuts_of g n) ∙ holds_bytes g n is in omega (arith, low, sum)

pub message_length : (bytes : List ℕ) (at size : ℕ) → at + size ≤ length bytes → length (message_at bytes at size) ≡ size
message_length bytes at size in_it = let t = length-take size (drop at bytes) in let d = length-drop at bytes in omega (arith, t, d, in_it)

-- ---- the bytes of messages

stored_one : (g : Geometry) (bytes : List ℕ) (start owner size : ℕ) (c : Content) → IsGeometry g → EndsBelow (length bytes) size c → stored_by size c ≤ length_of (entry_by g bytes start owner size c)
stored_one g bytes start owner size content.Open is h = omega arith
stored_one g bytes start owner size content.Padding is h = omega arith
stored_one g bytes start owner size (content.Message at) is h = subst (λ n. size ≤ span (cuts_of g n)) (sym (message_length bytes at size h)) (message_low g size is)

pub stored_low : (g : Geometry) (bytes : List ℕ) (xs : List Addition) → IsGeometry g → AllByRecursion (IsIn (length bytes)) xs → stored xs ≤ sum_by length_of (map (entry_of g bytes) xs)
stored_low g bytes [] is h = omega arith
stored_low g bytes (x ∷ xs) is h =
    let one = stored_one g bytes x.start x.owner x.size x.content is h.0 in
    let sum : sum_by length_of (map (entry_of g bytes) (x ∷ xs)) ≡ length_of (entry_of g bytes x) + sum_by length_of (map (entry_of g bytes) xs) = sum_by-cons length_of (entry_of g bytes x) (map (entry_of g bytes) xs) in
    let rest = stored_low g bytes xs is h.1 in
    omega (arith, one, sum, rest)

pub stored_more : (xs : List Addition) (x : Addition) → stored (xs ++ x ∷ []) ≡ stored xs + stored_by x.size x.content
stored_more [] x = omega arith
stored_more (y ∷ xs) x = let h = stored_more xs x in omega (arith, h)

pub stored_set : (xs : List Addition) (k : ℕ) (x y : Addition) → slice_get xs k ≡ Some x → stored_by x.size x.content ≡ 0 → stored (slice_set xs k y) ≡ stored xs + stored_by y.size y.content
stored_set [] k x y e none = absurd (cc)
stored_set (z ∷ xs) zero x y e none = let same : z ≡ x = cc in let zeros : stored_by z.size z.content ≡ 0 = ap (λ (a : Addition). stored_by a.size a.content) same ∙ none in omega (arith, zeros)
stored_set (z ∷ xs) (suc k) x y e none = let h = stored_set xs k x y e none in omega (arith, h)

-- ---- more bytes

in_one : (n m size : ℕ) (c : Content) → n ≤ m → EndsBelow n size c → EndsBelow m size c
in_one n m size content.Open le h = tt
in_one n m size content.Padding le h = tt
in_one n m size (content.Message at) le h = omega (arith, le, h)

pub in_more : (n m : ℕ) (xs : List Addition) → n ≤ m → AllByRecursion (IsIn n) xs → AllByRecursion (IsIn m) xs
in_more n m [] le h = tt
in_more n m (x ∷ xs) le h = (in_one n m x.size x.content le h.0, in_more n m xs le h.1)

message_stays : (bytes more : List ℕ) (at size : ℕ) → at + size ≤ length bytes → message_at (bytes ++ more) at size ≡ message_at bytes at size
message_stays bytes more at size h =
    let d = length-drop at bytes in
    ap (take size) (drop-append-le at bytes more (omega (arith, h))) ∙ take-append-le size (drop at bytes) more (omega (arith, h, d))

entry_stays : (g : Geometry) (bytes more : List ℕ) (start owner size : ℕ) (c : Content) → EndsBelow (length bytes) size c → entry_by g (bytes ++ more) start owner size c ≡ entry_by g bytes start owner size c
entry_stays g bytes more start owner size content.Open h = refl
entry_stays g bytes more start owner size content.Padding h = refl
entry_stays g bytes more start owner size (content.Message at) h = ap (published g start owner) (message_stays bytes more at size h)

pub entries_stay : (g : Geometry) (bytes more : List ℕ) (xs : List Addition) → AllByRecursion (IsIn (length bytes)) xs → map (entry_of g (bytes ++ more)) xs ≡ map (entry_of g bytes) xs
entries_stay g bytes more [] h = refl
entries_stay g bytes more (x ∷ xs) h = (λ j. entry_stays g bytes more x.start x.owner x.size x.content h.0 j ∷ entries_stay g bytes more xs h.1 j)

-- ---- what is left

module _ (p : Plain) (is : IsPlain p) where
  abbrev entries : List Entry
  entries = map (entry_of p.identity.geometry p.bytes) p.additions

  covered : p.start + sum_by length_of entries ≡ p.tail
  covered = ap (λ (k : ℕ). k + sum_by length_of entries) (sym is.whole.begins) ∙ tail_is p.identity.geometry.term_length is.whole.legal.first p.tail entries is.whole.legal.tiles

  pub rows : p.start + 32 * length p.additions ≤ p.tail
  rows = let c = covered in let u = (covers_units entries is.whole.legal.entries).0 in let n = length-map p.additions (entry_of p.identity.geometry p.bytes) in omega (arith, c, u, n)

  pub tail_unit : p.tail % 32 ≡ 0
  tail_unit = let c = covered in let u = (covers_units entries is.whole.legal.entries).1 in let s = is.whole.legal.unit in omega (arith, c, u, s)

  pub bytes_low : p.start + length p.bytes ≤ p.tail
  bytes_low = let c = covered in let a = is.all in let s = stored_low p.identity.geometry p.bytes p.additions is.whole.legal.geometry is.within in omega (arith, c, a, s)
