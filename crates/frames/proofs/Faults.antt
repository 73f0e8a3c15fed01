-- Reading answers the first fault in the order of the tests.
use Rattle.std.proofs.Common.{◌≡◌, ℕ, ◌+◌, ◌%◌, ◌≤◌, ◌||◌, Bool, true, false, cond, not, eqb, ltb, List, length, Option, Some, None, Result, Ok, Err, refl, sym, ap, subst, ◌∙◌, inl, inr, arith}
use Rattle.std.specs.Prelude.{slice_index}
use Rattle.std.specs.Result.{result_err}
use Rattle.std.proofs.Math.Bool.{not-not, or-false}
use Rattle.std.proofs.lemmas.Bool.{eqb-true, le-ltb, ltb-false, cases_Bool}
use Rattle.theory.specs.Position.{aligned}
use Rattle.theory.specs.Wire.{Wire}
use Rattle.frames.specs.declared.fault.FrameError.{FrameError}
use Rattle.frames.specs.declared.fault.FrameError.TheVariants.{Short, Length, Flags, Alignment, Range}
use Rattle.frames.specs.declared.frame.Frame.{Frame}
use Rattle.frames.specs.Fields.{u16_at, u32_at}
use Rattle.frames.specs.Order.{tests, first, first_fault, is_padded}
use Rattle.frames.specs.Reading.{ReturnsReading, nak_at, status_at, setup_at, pad_at, heartbeat_at, data_at, data_or_heartbeat_at, kind_at, reading}

abbrev Out : Type 0
Out = Result (Wire × ℕ) FrameError

-- one test more on each side
step : (b b' : Bool) (d : FrameError) (r : Out) (o : Option FrameError) → b ≡ b' → result_err r ≡ o → result_err (cond b (Err d) r) ≡ cond b' (Some d) o
step true b' d r o same rest = ap (λ t. cond t (Some d) o) same
step false b' d r o same rest = rest ∙ ap (λ t. cond t (Some d) o) same

-- a test that finds nothing here
skip : (b : Bool) (d : FrameError) (r : Out) (o : Option FrameError) → b ≡ false → result_err r ≡ o → result_err r ≡ cond b (Some d) o
skip b d r o none rest = rest ∙ ap (λ t. cond t (Some d) o) (sym none)

-- two tests for one fault
both : (a b : Bool) (d : FrameError) (r : Out) (o : Option FrameError) → result_err r ≡ o → result_err (cond a (Err d) (cond b (Err d) r)) ≡ cond (a || b) (Some d) o
both true b d r o rest = refl
both false true d r o rest = refl
both false false d r o rest = rest

-- what the tests find, for a version and a type that were read
abbrev found : List ℕ → ℕ → Option FrameError
found bytes kind = first (tests bytes 0 kind (u32_at bytes 0) (slice_index bytes 5) (u32_at bytes 8))

nak_order : (bytes : List ℕ) → 8 ≤ length bytes → result_err (nak_at bytes) ≡ found bytes 2
unfolding nak_at
nak_order bytes long =
    skip (ltb (length bytes) 8) Short (nak_at bytes) _ (le-ltb _ _ long)
    (step (ltb (length bytes) 28) _ Short _ _ refl (step (not (eqb (u32_at bytes 0) 28)) _ Length _ _ refl (step (not (eqb (slice_index bytes 5) 0)) _ Flags _ None refl refl)))

status_order : (bytes : List ℕ) → 8 ≤ length bytes → result_err (status_at bytes) ≡ found bytes 3
unfolding status_at
status_order bytes long =
    skip (ltb (length bytes) 8) Short (status_at bytes) _ (le-ltb _ _ long)
    (step (ltb (length bytes) 36) _ Short _ _ refl (step (not (eqb (u32_at bytes 0) 36)) _ Length _ _ refl (step (not (eqb (slice_index bytes 5) 0 || eqb (slice_index bytes 5) 128)) _ Flags _ None refl refl)))

setup_order : (bytes : List ℕ) → 8 ≤ length bytes → result_err (setup_at bytes) ≡ found bytes 5
unfolding setup_at
setup_order bytes long =
    skip (ltb (length bytes) 8) Short (setup_at bytes) _ (le-ltb _ _ long)
    (step (ltb (length bytes) 40) _ Short _ _ refl (step (not (eqb (u32_at bytes 0) 40)) _ Length _ _ refl (step (not (eqb (slice_index bytes 5) 0)) _ Flags _ None refl refl)))

pad_order : (bytes : List ℕ) → 8 ≤ length bytes → result_err (pad_at bytes) ≡ found bytes 0
unfolding pad_at
pad_order bytes long =
    let n : ℕ = u32_at bytes 0 in
    let o : ℕ = u32_at bytes 8 in
    skip (ltb (length bytes) 8) Short (pad_at bytes) _ (le-ltb _ _ long)
    (step (ltb (length bytes) 32) _ Short _ _ refl
    (step (ltb n 32 || ltb 16777216 n) _ Length _ _ (sym (not-not (ltb n 32 || ltb 16777216 n)))
    (step (not (eqb (slice_index bytes 5) 192)) _ Flags _ _ refl
    (step (not (eqb (o % 32) 0)) _ Alignment _ _ (sym (or-false (not (eqb (o % 32) 0))))
    (step (ltb 16777216 (o + aligned n)) _ Range _ None refl refl)))))

-- a heartbeat is told by its frame length
abbrev found_or_heartbeat : List ℕ → ℕ → Option FrameError
found_or_heartbeat bytes n = first (tests bytes 0 1 n (slice_index bytes 5) (u32_at bytes 8))

plus_zero : (o : ℕ) → o ≡ o + 0
plus_zero o = omega arith

heartbeat_order : (bytes : List ℕ) → 32 ≤ length bytes → result_err (heartbeat_at bytes) ≡ found_or_heartbeat bytes 0
unfolding heartbeat_at
heartbeat_order bytes long =
    let o : ℕ = u32_at bytes 8 in
    skip (ltb (length bytes) 8) Short (heartbeat_at bytes) _ (le-ltb _ _ (omega arith))
    (skip (ltb (length bytes) 32) Short (heartbeat_at bytes) _ (le-ltb _ _ long)
    (step (not (eqb (slice_index bytes 5) 192)) _ Flags _ _ refl
    (skip (ltb (length bytes) 0) Short _ _ (le-ltb _ _ (omega arith))
    (step (not (eqb (o % 32) 0)) _ Alignment _ _ (sym (or-false (not (eqb (o % 32) 0))))
    (step (ltb 16777216 o) (ltb 16777216 (o + 0)) Range _ None (ap (ltb 16777216) (plus_zero o)) refl)))))

data_order : (bytes : List ℕ) (n : ℕ) → 32 ≤ length bytes → eqb n 0 ≡ false → result_err (cond (ltb n 32 || ltb 65504 n) (Err Length) (data_at bytes n)) ≡ found_or_heartbeat bytes n
unfolding data_at
data_order bytes n long some =
    let o : ℕ = u32_at bytes 8 in
    rw some (skip (ltb (length bytes) 8) Short _ _ (le-ltb _ _ (omega arith))
    (skip (ltb (length bytes) 32) Short _ _ (le-ltb _ _ long)
    (step (ltb n 32 || ltb 65504 n) _ Length _ _ (sym (not-not (ltb n 32 || ltb 65504 n)))
    (step _ _ Flags _ _ refl
    (step (ltb (length bytes) (aligned n)) _ Short _ _ refl
    (both (not (eqb (o % 32) 0)) (not (is_padded bytes n)) Alignment _ _
    (step (ltb 16777216 (o + aligned n)) _ Range _ None refl refl)))))))

data_or_heartbeat_order : (bytes : List ℕ) → 8 ≤ length bytes → result_err (data_or_heartbeat_at bytes) ≡ found bytes 1
unfolding data_or_heartbeat_at
data_or_heartbeat_order bytes long =
    elim (cases_Bool (ltb (length bytes) 32)) [
      | inl short ↦ rw (short, le-ltb (length bytes) 8 long) refl
      | inr enough ↦
          let many : 32 ≤ length bytes = ltb-false _ _ enough in
          elim (cases_Bool (eqb (u32_at bytes 0) 0)) [
            | inl none ↦
                let zero_is : u32_at bytes 0 ≡ 0 = eqb-true _ _ none in
                let chain : result_err (data_or_heartbeat_at bytes) ≡ result_err (heartbeat_at bytes) = rw (enough, none) refl in
                chain ∙ heartbeat_order bytes many ∙ ap (found_or_heartbeat bytes) (sym zero_is)
            | inr some ↦
                let n : ℕ = u32_at bytes 0 in
                let chain : result_err (data_or_heartbeat_at bytes) ≡ result_err (cond (ltb n 32 || ltb 65504 n) (Err Length) (data_at bytes n)) = rw (enough, some) refl in
                chain ∙ data_order bytes n many some
          ]
    ]

-- a type that isn't of the table
other_order : (bytes : List ℕ) (kind : ℕ) → 8 ≤ length bytes → eqb kind 0 ≡ false → eqb kind 1 ≡ false → eqb kind 2 ≡ false → eqb kind 3 ≡ false → eqb kind 5 ≡ false → result_err (kind_at bytes kind) ≡ found bytes kind
unfolding kind_at
other_order bytes kind long a b d e f = rw (le-ltb (length bytes) 8 long, a, b, d, e, f) refl

kind_order : (bytes : List ℕ) (kind : ℕ) → 8 ≤ length bytes → result_err (kind_at bytes kind) ≡ found bytes kind
unfolding kind_at
kind_order bytes kind long =
    let P : ℕ → Type 0 = λ k. result_err (kind_at bytes k) ≡ found bytes k in
    elim (cases_Bool (eqb kind 0)) [
      | inl h ↦ subst P (sym (eqb-true _ _ h)) (pad_order bytes long)
      | inr a ↦ elim (cases_Bool (eqb kind 1)) [
        | inl h ↦ subst P (sym (eqb-true _ _ h)) (data_or_heartbeat_order bytes long)
        | inr b ↦ elim (cases_Bool (eqb kind 2)) [
          | inl h ↦ subst P (sym (eqb-true _ _ h)) (nak_order bytes long)
          | inr d ↦ elim (cases_Bool (eqb kind 3)) [
            | inl h ↦ subst P (sym (eqb-true _ _ h)) (status_order bytes long)
            | inr e ↦ elim (cases_Bool (eqb kind 5)) [
              | inl h ↦ subst P (sym (eqb-true _ _ h)) (setup_order bytes long)
              | inr f ↦ other_order bytes kind long a b d e f
            ]
          ]
        ]
      ]
    ]

pub reading_order : (bytes : List ℕ) → result_err (reading bytes) ≡ first_fault bytes
unfolding reading first_fault
reading_order bytes =
    elim (cases_Bool (ltb (length bytes) 8)) [
      | inl short ↦ rw short refl
      | inr enough ↦
          let long : 8 ≤ length bytes = ltb-false _ _ enough in
          elim (cases_Bool (eqb (slice_index bytes 4) 0)) [
            | inl h ↦
                let none : slice_index bytes 4 ≡ 0 = eqb-true _ _ h in
                let chain : result_err (reading bytes) ≡ result_err (kind_at bytes (u16_at bytes 6)) = rw (enough, h) refl in
                chain ∙ kind_order bytes (u16_at bytes 6) long ∙ ap (λ v. first (tests bytes v (u16_at bytes 6) (u32_at bytes 0) (slice_index bytes 5) (u32_at bytes 8))) (sym none)
            | inr h ↦ rw (enough, h) refl
          ]
    ]

pub is_first : (bytes : List ℕ) (r : Result (Frame × ℕ) FrameError) → ReturnsReading r (reading bytes) → result_err r ≡ first_fault bytes
is_first bytes (Ok f) given = sym (ap result_err given) ∙ reading_order bytes
is_first bytes (Err e) given = sym (ap result_err given) ∙ reading_order bytes
