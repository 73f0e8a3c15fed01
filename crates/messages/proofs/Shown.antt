-- What a look at an input showed, and is taken of it.
use Rattle.std.proofs.Common.{◌≡◌, ◌≢◌, ◌≤◌, ◌<◌, ℕ, zero, suc, Bool, true, false, List, [], ◌∷◌, ◌++◌, length, length-append, take, Option, None, Some, Result, Ok, Err, inr, refl, sym, subst, arith, rules}
use Rattle.std.proofs.Math.Seq.{take-length}
use Rattle.std.proofs.lemmas.List.{get_or-take, length-take}
use Rattle.std.specs.Prelude.{IfErr, IsErrAnd, not, unwrap_or}
use Rattle.std.specs.Io.KnownBytes.{Consumes, IsAtEnd, Keeps}
use Rattle.std.proofs.KnownBytes.{Consumes-kept, Consumes-nil, Consumes-trans}
use Rattle.memchr.specs.Find.{IsFirstByte, is_byte}
use Rattle.messages.proofs.Taking.{taken_no_more}
use Rattle.messages.specs.Blocks.{BreaksPart, TakesPart}
use Rattle.messages.specs.Inputs.{Explains, Gives, IsOneLine}
use Rattle.messages.specs.declared.form.Form.TheVariants.{Lines}
use Rattle.messages.specs.Shown.{BreaksLine, BreaksSome, TakesShown, TakesSome}
use Rattle.messages.specs.declared.lines.Shown.{Shown}
use Rattle.messages.specs.declared.lines.Shown.TheVariants.{End, Rest, Part}
use Rattle.messages.specs.declared.fault.InputFault.{InputFault}
use Rattle.messages.specs.declared.fault.InputFault.TheVariants.{Read, TooLong, Cut, Memory}

-- a fault that is handed on
pub at_fault : (r : Result Bool InputFault) (fault : InputFault) (P : InputFault → Type 0) → IsErrAnd r (λ e. e ≡ fault) → P fault → IfErr r P
at_fault (Ok any) fault P h p = tt
at_fault (Err e) fault P h p = subst P (sym h) p

-- the first bytes of one line are one line
pub one_line_front : (text : List ℕ) (n m : ℕ) → m ≤ n → IsOneLine (take n text) → IsOneLine (take m text)
one_line_front [] n zero le h = λ i low. absurd (omega (arith, low))
one_line_front [] n (suc m) le h = λ i low. absurd (omega (arith, low))
one_line_front (x ∷ xs) n zero le h = λ i low. absurd (omega (arith, low))
one_line_front (x ∷ xs) zero (suc m) le h = absurd (omega arith)
one_line_front (x ∷ xs) (suc n) (suc m) le h = headed x (take m xs) (h zero (omega arith)) (one_line_front xs n m (omega arith) (λ j below. h (suc j) (omega arith)))
  where
    headed : (y : ℕ) (ys : List ℕ) → y ≢ 10 → IsOneLine ys → IsOneLine (y ∷ ys)
    headed y ys other one zero low = other
    headed y ys other one (suc i) low = one i (omega arith)

-- what stands before the first line feed, or all where there is none
pub before_feed : (shown : List ℕ) (feed : Option ℕ) → IsFirstByte (is_byte 10) shown feed → IsOneLine (take (unwrap_or feed (length shown)) shown)
before_feed shown None none = rw (take-length shown) (λ i low. search (rules, none i))
before_feed shown (Some at) first = λ i low.
    let below : i < at = omega (arith, low, length-take at shown) in
    rw (get_or-take at shown i 0 below) (search (rules, first.0.before i))

-- the first byte that is shown of a line is taken
pub first_taken : (a b : Option (List ℕ)) (shown : List ℕ) (n : ℕ) → 0 < n → 1 ≤ length shown → IsOneLine (take n shown) → Consumes a b (take 1 shown) → (byte : ℕ) × Consumes a b (byte ∷ []) × (byte ≢ 10)
first_taken a b [] n some within h taken = absurd (omega (arith, within))
first_taken a b (x ∷ xs) zero some within h taken = absurd (omega (arith, some))
first_taken a b (x ∷ xs) (suc n) some within h taken = (x, taken, h zero (omega arith))

-- a look alone takes nothing
after_look : (a b c : Option (List ℕ)) (bytes : List ℕ) → Keeps a b → Consumes b c bytes → Consumes a c bytes
after_look a b c bytes kept h = Consumes-trans a b c [] bytes (Consumes-kept a a b [] (Consumes-nil a) kept) h

pub kept_takes : (greatest : ℕ) (a b c : Option (List ℕ)) (shown : Shown) (held after : List ℕ) → Keeps a b → TakesShown greatest b c shown held after → TakesShown greatest a c shown held after
kept_takes greatest a b c End held after kept h = (after_look a b c [] kept h.0, h.1, h.2)
kept_takes greatest a b c Rest held after kept h = record { part = h.part; grown = h.grown; one_line = h.one_line; short = h.short; taken = after_look a b c _ kept h.taken }
kept_takes greatest a b c Part held after kept h = record { part = h.part; grown = h.grown; one_line = h.one_line; short = h.short; taken = after_look a b c _ kept h.taken }

pub kept_breaks : (number greatest : ℕ) (a b c : Option (List ℕ)) (held after : List ℕ) (fault : InputFault) → Keeps a b → BreaksLine number greatest b c held after fault → BreaksLine number greatest a c held after fault
kept_breaks number greatest a b c held after (Read code) kept h = (after_look a b c [] kept h.0, h.1)
kept_breaks number greatest a b c held after (TooLong n most) kept h = (h.0, h.1, (h.2.0, after_look a b c _ kept h.2.1, h.2.2, h.2.3))
kept_breaks number greatest a b c held after (Cut n) kept h = h
kept_breaks number greatest a b c held after Memory kept h = (h.0, after_look a b c _ kept h.1, h.2, h.3, h.4)

-- ---- a line, of which parts were taken before

pub one_line_joined : (front part : List ℕ) → IsOneLine front → IsOneLine part → IsOneLine (front ++ part)
one_line_joined [] part h k = k
one_line_joined (x ∷ xs) part h k = headed x (xs ++ part) (h zero (omega arith)) (one_line_joined xs part (λ i low. h (suc i) (omega arith)) k)
  where
    headed : (y : ℕ) (ys : List ℕ) → y ≢ 10 → IsOneLine ys → IsOneLine (y ∷ ys)
    headed y ys other one zero low = other
    headed y ys other one (suc i) low = one i (omega arith)

alone : (byte : ℕ) → byte ≢ 10 → IsOneLine (byte ∷ [])
alone byte other zero low = other
alone byte other (suc i) low = absurd (omega arith)

pub line_broken : (number greatest : ℕ) (a b c : Option (List ℕ)) (held after : List ℕ) (fault : InputFault) → Consumes a b held → IsOneLine held → length held ≤ greatest → BreaksLine number greatest b c held after fault → Explains Lines number greatest a c after fault
line_broken number greatest a b c held after (Read code) taken one short h =
    (held, Consumes-kept-nil, (sym h.1, subst IsOneLine (sym h.1) one, subst (λ (xs : List ℕ). length xs ≤ greatest) (sym h.1) short))
  where
    Consumes-kept-nil : Consumes a c held
    Consumes-kept-nil = taken_no_more a b c held taken h.0
line_broken number greatest a b c held after (TooLong n most) taken one short h =
    (h.0, h.1, (held ++ h.2.0, Consumes-trans a b c held h.2.0 taken h.2.1, (one_line_joined held h.2.0 one h.2.2, omega (arith, h.2.3, length-append held h.2.0))))
line_broken number greatest a b c held after (Cut n) taken one short h = absurd h
line_broken number greatest a b c held after Memory taken one short h =
    (held ++ h.0 ∷ [], Consumes-trans a b c held (h.0 ∷ []) taken h.1, (h.0, subst (λ (xs : List ℕ). held ++ h.0 ∷ [] ≡ xs ++ h.0 ∷ []) (sym h.3) refl, one_line_joined held (h.0 ∷ []) one (alone h.0 h.2), omega (arith, h.4, length-append held (h.0 ∷ []))))

-- the input's end
pub line_ended : (greatest : ℕ) (a b c : Option (List ℕ)) (held after : List ℕ) (empty : Bool) → (empty ≡ false → 0 < length after) → (empty ≡ true → length after ≡ 0) → Consumes a b held → IsOneLine held → length held ≤ greatest → Consumes b c [] → IsAtEnd c → after ≡ held → Gives Lines greatest a c (not empty) after
line_ended greatest a b c held after false some none taken one short nothing end same =
    ((subst IsOneLine (sym same) one, inr (subst (Consumes a c) (sym same) (taken_no_more a b c held taken nothing), end, some refl)), subst (λ (xs : List ℕ). length xs ≤ greatest) (sym same) short)
line_ended greatest a b c held after true some none taken one short nothing end same =
    (subst (Consumes a c) (emptied after (none refl)) (subst (Consumes a c) (sym same) (taken_no_more a b c held taken nothing)), end)
  where
    emptied : (xs : List ℕ) → length xs ≡ 0 → xs ≡ []
    emptied [] same = refl
    emptied (x ∷ xs) more = absurd (omega (arith, more))

-- ---- so many bytes, of which some were taken before

pub kept_some : (most : ℕ) (a b c : Option (List ℕ)) (more : Bool) (held after : List ℕ) → 1 ≤ most → Keeps a b → TakesSome 1 b c more held after → TakesSome most a c more held after
kept_some most a b c true held after some kept h = (h.0, h.1, omega (arith, some, h.2), after_look a b c _ kept h.3)
kept_some most a b c false held after some kept h = (after_look a b c [] kept h.0, h.1, h.2)

pub kept_breaks_some : (a b c : Option (List ℕ)) (held after : List ℕ) (fault : InputFault) → Keeps a b → BreaksSome b c held after fault → BreaksSome a c held after fault
kept_breaks_some a b c held after (Read code) kept h = (after_look a b c [] kept h.0, h.1)
kept_breaks_some a b c held after (TooLong n most) kept h = h
kept_breaks_some a b c held after (Cut n) kept h = h
kept_breaks_some a b c held after Memory kept h = (h.0, after_look a b c _ kept h.1, h.2)

pub part_broken_off : (length_of : ℕ) (a b c : Option (List ℕ)) (held after : List ℕ) (fault : InputFault) → Consumes a b held → length held < length_of → BreaksSome b c held after fault → BreaksPart length_of a c after fault
part_broken_off n a b c held after (Read code) taken short h = (subst (Consumes a c) (sym h.1) (taken_no_more a b c held taken h.0), subst (λ (xs : List ℕ). length xs < n) (sym h.1) short)
part_broken_off n a b c held after (TooLong m most) taken short h = h
part_broken_off n a b c held after (Cut m) taken short h = h
part_broken_off n a b c held after Memory taken short h =
    (h.0, subst (λ (xs : List ℕ). Consumes a c (xs ++ h.0 ∷ [])) (sym h.2) (Consumes-trans a b c held (h.0 ∷ []) taken h.1), subst (λ (xs : List ℕ). length xs < n) (sym h.2) short)

pub part_ended : (length_of : ℕ) (a b c : Option (List ℕ)) (held after : List ℕ) → Consumes a b held → length held < length_of → Consumes b c [] → IsAtEnd c → after ≡ held → TakesPart length_of a c false after
part_ended n a b c held after taken short nothing end same =
    (subst (Consumes a c) (sym same) (taken_no_more a b c held taken nothing), end, subst (λ (xs : List ℕ). length xs < n) (sym same) short)

-- the first byte that is shown
pub front_shown : (shown : List ℕ) → 1 ≤ length shown → (byte : ℕ) × (take 1 shown ≡ byte ∷ [])
front_shown [] within = absurd (omega (arith, within))
front_shown (x ∷ xs) within = (x, refl)
