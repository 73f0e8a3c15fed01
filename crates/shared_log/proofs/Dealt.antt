-- Passes are dealt one after the other.
use Rattle.std.proofs.Common.{◌≡◌, inl, ℕ, zero, suc, ◌+◌, ◌-◌, ◌*◌, ◌/◌, ◌<◌, ◌≤◌, List, [], ◌∷◌, ◌++◌, length, sym, refl, ap, ◌∙◌, subst, arith}
use Rattle.std.specs.List.{AllByRecursion}
use Rattle.theory.specs.Bytes.{Identity}
use Rattle.theory.specs.Placed.{Among}
use Rattle.publication.specs.declared.pass.Pass.{Pass}
use Rattle.publication.specs.declared.pass.Reading.{Reading}
use Rattle.shared_log.specs.Steps.Handles.{LogValue, PublisherValue}
use Rattle.log_rule.specs.Claims.Plays.{dealer, down, newcomer, other_numbers}
use Rattle.log_rule.specs.Table.{consumers_at, other_readings}
use Rattle.shared_log.specs.Handles.{OwnsClaims}
use Rattle.shared_log.specs.Readers.{IsAlone, IsReaderOf, ReaderValue}
use Rattle.shared_log.specs.Parts.{AreReaders, IsDealing, IsNewReader}

-- of the consumers that are left, the first is this one
pub next_is : (start number n : ℕ) → number < n → consumers_at start number (n - number) ≡ record { number = number; position = start; known = []; misses = 0 } ∷ consumers_at start (number + 1) (n - (number + 1))
next_is start number n lt = (λ i. consumers_at start number (some i)) ∙ (λ i. record { number = number; position = start; known = []; misses = 0 } ∷ consumers_at start (more i) (n - (number + 1)))
  where
    some : n - number ≡ suc (n - (number + 1))
    some = omega arith

    more : suc number ≡ number + 1
    more = omega arith

pub dealing_on : (l : LogValue) (number : ℕ) (p q : PublisherValue) → IsDealing l number p → number < l.consumers → q.of ≡ p.of → q.pass ≡ record p.pass { reading = other_readings p.pass.reading } → q.steps ≡ p.steps → q.sure ≡ 0 → IsDealing l (number + 1) q
dealing_on l number p q d lt of pass steps sure =
    let left : List Reading → Pass = λ rs. record (newcomer l.identity l.start 7 1016) { reading = other_readings rs } in
    let is = pass ∙ ap (λ (v : Pass). record v { reading = other_readings v.reading }) d.pass_is ∙ ap left (next_is l.start number l.consumers lt) in
    record { of = record { table = of ∙ d.of.table; identity = ap (λ (v : Pass). v.identity) is; start = ap (λ (v : Pass). v.start) is }; pass_is = is; steps = steps ∙ d.steps; sure = sure }

pub readers_on : (l : LogValue) (n : ℕ) (rs : List ReaderValue) (r : ReaderValue) → AreReaders l n rs → IsNewReader l (n + length rs) r → AreReaders l n (rs ++ r ∷ [])
readers_on l n [] r a is = (subst (λ (k : ℕ). IsNewReader l k r) (let e : n + 0 ≡ n = omega arith in e) is, tt)
readers_on l n (x ∷ xs) r a is = (a.0, readers_on l (suc n) xs r a.1 (subst (λ (k : ℕ). IsNewReader l k r) (let e : n + suc (length xs) ≡ suc n + length xs = omega arith in e) is))

-- each is one of this log, and alone in its pass
pub readers_of : (l : LogValue) (n : ℕ) (rs : List ReaderValue) → AreReaders l n rs → n + length rs ≤ 8 → AllByRecursion (IsReaderOf l) rs
readers_of l n [] are few = tt
readers_of l n (r ∷ rs) are few = (
  record { of = are.0.held.of; number = (let e = are.0.number_is in low r.number n (length rs) e few) },
  readers_of l (suc n) rs are.1 (next n (length rs) few),
)
  where
    low : (m n k : ℕ) → m ≡ n → n + suc k ≤ 8 → m < 8
    low m n k e few = omega arith

    next : (n k : ℕ) → n + suc k ≤ 8 → suc n + k ≤ 8
    next n k few = omega arith

pub readers_alone : (l : LogValue) (n : ℕ) (rs : List ReaderValue) → AreReaders l n rs → AllByRecursion (IsAlone l) rs
readers_alone l n [] are = tt
readers_alone l n (r ∷ rs) are = (
  record { consumer = record { number = n; position = l.start; known = []; misses = 0 }; pass = are.0.held.pass_is; place = are.0.place },
  readers_alone l (suc n) rs are.1,
)

-- ---- the publishers

-- who has dealt one has the numbers and the parts of those that are left
pub dealer_is : (i : Identity) (s k : ℕ) → dealer (newcomer i s (suc k) (120 * suc k + 176)) ≡ newcomer i s k (120 * k + 176)
dealer_is i s k = λ j. record (newcomer i s k 0) { number = number j; right = record { parts = parts j; limit = 0; armed = 0; claims = []; numbers = numbers j } }
  where
    number : suc k - 1 ≡ k
    number = omega arith

    parts : 120 * suc k + 176 - 120 ≡ 120 * k + 176
    parts = omega arith

    all : (120 * suc k + 176) / 120 ≡ suc (suc k)
    all = omega arith

    left : (120 * k + 176) / 120 ≡ suc k
    left = omega arith

    numbers : other_numbers (down (suc k) ((120 * suc k + 176) / 120)) ≡ down k ((120 * k + 176) / 120)
    numbers = ap (λ (m : ℕ). other_numbers (down (suc k) m)) all ∙ ap (down k) (sym left)

among_down : (k m : ℕ) → Among k (down k (suc m))
among_down zero m = inl refl
among_down (suc k) m = inl refl

-- its own number is among them
pub owns_dealer : (i : Identity) (s k : ℕ) → k < 8 → OwnsClaims (newcomer i s k (120 * k + 176))
owns_dealer i s k low = record { number = low; mine = λ less. tt; among = λ less. subst (λ (m : ℕ). Among k (down k m)) (sym left) (among_down k k) }
  where
    left : (120 * k + 176) / 120 ≡ suc k
    left = omega arith
