-- Which frame a datagram is, and a status message with another receiver.
use Rattle.std.proofs.Common.{◌≡◌, ◌∙◌, ℕ, ℤ, List, ◌++◌, length, drop, append-nil, Option, Some, None, Result, Ok, Err, ap, refl, sym, subst, arith}
use Rattle.std.specs.Prelude.{IsOkAnd, IsSomeAnd}
use Rattle.std.proofs.Math.Seq.{drop-length, take-length}
use Rattle.theory.specs.Wire.{Wire, DATA, PAD, HEARTBEAT, NAK, SM, SETUP, Spells, Status, spelling}
use Rattle.frames.specs.Fronts.{FrontSpells}
use Rattle.peer.specs.Numbering.{Numbers, numbered}

-- a frame that is all of the bytes stands at their front
pub at_front : (bytes : List ℕ) (w : Wire) → Spells w bytes → FrontSpells bytes w (length bytes)
at_front bytes w spells = record { within = omega arith; spelled = subst (Spells w) (sym (take-length bytes)) spells }

pub at_all : (bytes : List ℕ) (w : Wire) → FrontSpells bytes w (length bytes) → Spells w bytes
at_all bytes w front = subst (Spells w) (take-length bytes) front.spelled

pub no_ok : {T E : Type 0} (r : Result T E) (P : T → Type 0) → ((x : T) → r ≡ Ok x → ⊥) → IsOkAnd r P → ⊥
no_ok (Ok v) P none h = none v refl
no_ok (Err e) P none h = h

pub by_ok : {T E : Type 0} (r : Result T E) (P : T → Type 0) (x : T) → r ≡ Ok x → IsOkAnd r P → P x
by_ok r P x is h = subst (λ o. IsOkAnd o P) is h

pub no_some : {T : Type 0} (o : Option T) (P : T → Type 0) → o ≡ None → IsSomeAnd o P → ⊥
no_some o P is h = subst (λ x. IsSomeAnd x P) is h

pub by_some : {T : Type 0} (o : Option T) (P : T → Type 0) (x : T) → o ≡ Some x → IsSomeAnd o P → P x
by_some o P x is h = subst (λ y. IsSomeAnd y P) is h

abbrev flags_or : Wire → ℕ
flags_or (SM flags m) = flags
flags_or (DATA h f p) = 0
flags_or (PAD h n) = 0
flags_or (HEARTBEAT h) = 0
flags_or (NAK m) = 0
flags_or (SETUP m) = 0

abbrev status_or : Status → Wire → Status
status_or d (SM flags m) = m
status_or d (DATA h f p) = d
status_or d (PAD h n) = d
status_or d (HEARTBEAT h) = d
status_or d (NAK m) = d
status_or d (SETUP m) = d

-- a status message is one alone
pub same_status : (a b : ℕ) (s m : Status) → SM a s ≡ SM b m → (a ≡ b) × (s ≡ m)
same_status a b s m is = (ap flags_or is, ap (status_or s) is)

-- all of the bytes are written anew
pub full : (old new w : List ℕ) → new ≡ w ++ drop (length w) old → length w ≡ length old → new ≡ w
full old new w is same = is ∙ ap (λ n. w ++ drop n old) same ∙ ap (λ xs. w ++ xs) (drop-length old) ∙ append-nil w

pub renamed : (old new : List ℕ) (number : ℤ) (a : ℕ) (s n : Status) → Spells (SM a s) old → n ≡ numbered number s → new ≡ spelling (SM a n)
    → ((flags : ℕ) (m : Status) → Spells (SM flags m) old → (a ≡ flags) × (s ≡ m)) → Numbers number old new
renamed old new number a s n spells named written only = record {
  status = λ flags m other.
      let same = only flags m other in
      written ∙ ap (λ x. spelling (SM a x)) named ∙ ap (λ n. spelling (SM n (numbered number s))) same.0 ∙ ap (λ x. spelling (SM flags (numbered number x))) same.1;
  others = λ none. absurd (none a s spells);
}

pub length_of : (a : ℕ) (s : Status) (bytes : List ℕ) → Spells (SM a s) bytes → length bytes ≡ 36
length_of a s bytes spells = let long : length (spelling (SM a s)) ≡ 36 = refl in ap length spells.1 ∙ long
