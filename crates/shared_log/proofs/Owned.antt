-- Whose claims are.
use Rattle.std.proofs.Common.{◌≡◌, ℕ, ◌+◌, ◌<◌, eqb, cond, inl, inr, Bool, true, false, List, [], ◌∷◌, ◌++◌, map, sym, refl, ap, ◌∙◌, subst, lt_of_not-le, arith}
use mathlib.Core.Logic.{dite}
use native.Mathlib.Decide.{dec_le, ℕ_discrete}
use lib.IntN.{ℤ_discrete}
use Rattle.std.specs.List.{AllByRecursion}
use Rattle.theory.specs.Position.{framed_length, id_of, span}
use Rattle.theory.specs.Placed.{Among}
use Rattle.theory.specs.Words.{id_in, offset_in}
use Rattle.theory.proofs.Lists.{all_append, among_left}
use Rattle.publication.specs.declared.pass.ClaimRange.{ClaimRange}
use Rattle.publication.specs.declared.pass.Pass.{Pass}
use Rattle.publication.specs.Steps.{Adds, Rotates, addition, count_in, disarmed, geometry_of, message_at, noted, padding_at, term_of, with_full}
use Rattle.log_rule.specs.Claims.Closing.{handed_over, owned_by, renamed}
use Rattle.log_rule.specs.Claims.Rule.{entry_of}
use Rattle.log_rule.specs.Claims.Sums.{total}
use Rattle.log_rule.specs.Shares.{claimed_bytes, owner_bytes, range_bytes}
use Rattle.log_rule.proofs.Claimed.Totals.{total_map}
use Rattle.shared_log.specs.Handles.{OwnsClaims}
use Rattle.shared_log.proofs.Shares.{both_share}

abbrev IsOwn : ℕ → ClaimRange → Type 0
IsOwn n c = c.owner ≡ n

-- ---- over a step

-- the same claims
pub owns_same : (v w : Pass) → w.number ≡ v.number → w.right.parts ≡ v.right.parts → w.right.numbers ≡ v.right.numbers → w.right.claims ≡ v.right.claims → OwnsClaims v → OwnsClaims w
owns_same v w number parts numbers claims o = record {
  among = λ less. subst (λ (x : ℕ × List ℕ). Among x.0 x.1) (λ i. (sym number i, sym numbers i)) (o.among (subst (λ (n : ℕ). n < 1024) parts less));
  number = subst (λ (n : ℕ). n < 8) (sym number) o.number;
  mine = λ less. subst (λ (x : ℕ × List ClaimRange). AllByRecursion (IsOwn x.0) x.1) (λ i. (sym number i, sym claims i)) (o.mine (subst (λ (n : ℕ). n < 1024) parts less));
}

pub owns_as : (v w x : Pass) → x.number ≡ v.number → x.right.parts ≡ v.right.parts → x.right.numbers ≡ v.right.numbers → x.right.claims ≡ v.right.claims → w ≡ x → OwnsClaims v → OwnsClaims w
owns_as v w x number parts numbers claims e o = owns_same v w (ap (λ (y : Pass). y.number) e ∙ number) (ap (λ (y : Pass). y.right.parts) e ∙ parts) (ap (λ (y : Pass). y.right.numbers) e ∙ numbers) (ap (λ (y : Pass). y.right.claims) e ∙ claims) o

-- one that has all
pub owns_all : (v : Pass) → v.number ≡ 7 → v.right.parts ≡ 1024 → OwnsClaims v
owns_all v number all = record { number = omega (arith, number); mine = λ less. absurd (omega (arith, less, all)); among = λ less. absurd (omega (arith, less, all)) }

-- one more
owns_more : (v w : Pass) (c : ClaimRange) → w.number ≡ v.number → w.right.parts ≡ v.right.parts → w.right.numbers ≡ v.right.numbers → w.right.claims ≡ v.right.claims ++ c ∷ [] → c.owner ≡ v.number → OwnsClaims v → OwnsClaims w
owns_more v w c number parts numbers claims mine o = record {
  among = λ less. subst (λ (x : ℕ × List ℕ). Among x.0 x.1) (λ i. (sym number i, sym numbers i)) (o.among (subst (λ (n : ℕ). n < 1024) parts less));
  number = subst (λ (n : ℕ). n < 8) (sym number) o.number;
  mine = λ less. subst (λ (x : ℕ × List ClaimRange). AllByRecursion (IsOwn x.0) x.1) (λ i. (sym number i, sym claims i)) (all_append (IsOwn v.number) v.right.claims (c ∷ []) (o.mine (subst (λ (n : ℕ). n < 1024) parts less)) (mine, tt));
}

pub adds_owns : (v : Pass) (size n : ℕ) (w : Pass) → Adds v size n w → OwnsClaims v → OwnsClaims w
adds_owns v size n w t o = dite (dec_le (offset_in n + framed_length (geometry_of v) size) (term_of v))
    (λ fits. let e = t.fits fits in owns_more v w (message_at v n size) (ap (λ (y : Pass). y.number) e) (ap (λ (y : Pass). y.right.parts) e) (ap (λ (y : Pass). y.right.numbers) e) (ap (λ (y : Pass). y.right.claims) e) refl o)
    (λ no. dite (dec_le (term_of v) (offset_in n))
    (λ full. owns_as v w (noted (addition v size n) (with_full (disarmed v) (count_in (geometry_of v) n))) refl refl refl refl (t.over full) o)
    (λ not. let e = t.trips (lt_of_not-le not) (lt_of_not-le no) in owns_more v w (padding_at v n) (ap (λ (y : Pass). y.number) e) (ap (λ (y : Pass). y.right.parts) e) (ap (λ (y : Pass). y.right.numbers) e) (ap (λ (y : Pass). y.right.claims) e) refl o))

pub rotates_claims : (v : Pass) (k from n : ℕ) (w : Pass) → Rotates v k from n w → w.right.claims ≡ v.right.claims
rotates_claims v k from n w t = dite (ℕ_discrete n from)
    (λ hit. ap (λ (y : Pass). y.right.claims) (t.begun (inl hit)))
    (λ miss. dite (ℤ_discrete (id_in n) (id_of (geometry_of v) (k + 1)))
    (λ yes. ap (λ (y : Pass). y.right.claims) (t.begun (inr yes)))
    (λ no. ap (λ (y : Pass). y.right.claims) (t.other miss no)))

-- ---- what is handed over

all_renamed : (n : ℕ) (cs : List ClaimRange) → AllByRecursion (IsOwn n) (map (owned_by n) cs)
all_renamed n [] = tt
all_renamed n (c ∷ cs) = (refl, all_renamed n cs)

pub owns_handed : (v w : Pass) → OwnsClaims v → OwnsClaims (handed_over v w)
owns_handed v w o = record {
  number = o.number;
  mine = λ less. all_append (IsOwn v.number) v.right.claims (map (owned_by v.number) w.right.claims) (o.mine (fewer v.right.parts w.right.parts less)) (all_renamed v.number w.right.claims);
  among = λ less. among_left v.number v.right.numbers w.right.numbers (o.among (fewer v.right.parts w.right.parts less));
}
  where
    fewer : (a c : ℕ) → a + c < 1024 → a < 1024
    fewer a c lt = omega arith

pub renamed_share : (n : ℕ) (w : Pass) → claimed_bytes (renamed n w) ≡ claimed_bytes w
renamed_share n w = total_map range_bytes (owned_by n) w.right.claims

pub handed_share : (v w : Pass) → claimed_bytes (handed_over v w) ≡ claimed_bytes v + claimed_bytes w
handed_share v w = both_share v (renamed v.number w) ∙ ap (λ (m : ℕ). claimed_bytes v + m) (renamed_share v.number w)

-- ---- the share of an owner

pub own_share : (n m : ℕ) (cs : List ClaimRange) → AllByRecursion (λ c. c.owner ≡ m) cs → total (owner_bytes n) (map entry_of cs) ≡ cond (eqb m n) (total range_bytes cs) 0
own_share n m [] a = none (eqb m n)
  where
    none : (b : Bool) → ◌≡◌ {A = ℕ} 0 (cond b 0 0)
    none true = refl
    none false = refl
own_share n m (c ∷ cs) a =
    ap (λ (k : ℕ). cond (eqb k n) (span c.cuts) 0 + total (owner_bytes n) (map entry_of cs)) a.0
    ∙ ap (λ (k : ℕ). cond (eqb m n) (span c.cuts) 0 + k) (own_share n m cs a.1)
    ∙ both (eqb m n) (span c.cuts) (total range_bytes cs)
  where
    both : (b : Bool) (x y : ℕ) → cond b x 0 + cond b y 0 ≡ cond b (x + y) 0
    both true x y = refl
    both false x y = refl
