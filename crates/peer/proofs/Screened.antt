-- Numbers that are read by their signs.
use Rattle.std.proofs.Common.{◌≡◌, ◌≤◌, ◌∙◌, ℕ, ℤ, pos, negsuc, true, false, List, length, nat_le, nat_lt, refl, sym, ap, subst, arith}
use Rattle.std.proofs.lemmas.List.{length-take-le}
use Rattle.theory.specs.Wire.{Wire, DATA, PAD, HEARTBEAT, NAK, SM, SETUP, spelling}
use Rattle.frames.specs.Fronts.{FrontSpells}
use Rattle.peer.specs.Screening.{asked_bytes, is_at_most, is_handed, told_at}
use Rattle.peer.specs.Watching.{Watched, is_below, screened_of}
use Rattle.peer.specs.declared.screen.Verdict.TheVariants.{Passes, Tells}

pub low_enough : (number : ℤ) (n most : ℕ) → number ≡ pos n → nat_le n most ≡ is_at_most number most
low_enough number n most is = subst (λ x. nat_le n most ≡ is_at_most x most) (sym is) refl

pub below_all : (number : ℤ) (most : ℕ) → ((n : ℕ) → number ≡ pos n → ⊥) → true ≡ is_at_most number most
below_all (pos n) most not = absurd (not n refl)
below_all (negsuc n) most not = refl

pub told_there : (receiver position : ℤ) (n : ℕ) → position ≡ pos n → Tells receiver n ≡ told_at receiver position
told_there receiver position n is = subst (λ x. Tells receiver n ≡ told_at receiver x) (sym is) refl

pub told_nowhere : (receiver position : ℤ) → ((n : ℕ) → position ≡ pos n → ⊥) → Passes ≡ told_at receiver position
told_nowhere receiver (pos n) not = absurd (not n refl)
told_nowhere receiver (negsuc n) not = refl

pub asks_this : (length : ℤ) (n : ℕ) → length ≡ pos n → n ≡ asked_bytes length
asks_this length n is = subst (λ x. n ≡ asked_bytes x) (sym is) refl

pub asks_nothing : (length : ℤ) → ((n : ℕ) → length ≡ pos n → ⊥) → 0 ≡ asked_bytes length
asks_nothing (pos n) not = absurd (not n refl)
asks_nothing (negsuc n) not = refl

pub lies_below : (number : ℤ) (n most : ℕ) → number ≡ pos n → nat_lt n most ≡ is_below number most
lies_below number n most is = subst (λ x. nat_lt n most ≡ is_below x most) (sym is) refl

pub below_any : (number : ℤ) (most : ℕ) → ((n : ℕ) → number ≡ pos n → ⊥) → true ≡ is_below number most
below_any (pos n) most not = absurd (not n refl)
below_any (negsuc n) most not = refl

-- only a status message and a negative acknowledgement are passed over

spelled_so_long : (f : Wire) (bytes : List ℕ) (n m : ℕ) → FrontSpells bytes f n → length (spelling f) ≡ m → n ≡ m
spelled_so_long f bytes n m s size = sym (length-take-le n bytes s.within) ∙ ap length s.spelled.1 ∙ size

pub unhanded_is_short : (w : Watched) (f : Wire) (bytes : List ℕ) (n : ℕ) → FrontSpells bytes f n → is_handed (screened_of w f) ≡ false → n ≤ 40
unhanded_is_short w (DATA h flags payload) bytes n s e = absurd (grind (arith, e))
unhanded_is_short w (PAD h m) bytes n s e = absurd (grind (arith, e))
unhanded_is_short w (HEARTBEAT h) bytes n s e = absurd (grind (arith, e))
unhanded_is_short w (NAK m) bytes n s e = let is = spelled_so_long (NAK m) bytes n 28 s refl in omega (arith, is)
unhanded_is_short w (SM flags m) bytes n s e = let is = spelled_so_long (SM flags m) bytes n 36 s refl in omega (arith, is)
unhanded_is_short w (SETUP m) bytes n s e = absurd (grind (arith, e))
