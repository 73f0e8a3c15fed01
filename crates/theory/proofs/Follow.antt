-- Frames that follow each other: where they lie, what they cover, and how far they reach.
use Rattle.std.proofs.Common.{◌≡◌, ℕ, ◌+◌, ◌-◌, ◌*◌, ◌/◌, ◌<◌, ◌≤◌, inl, inr, ⊎_elim, List, [], ◌∷◌, ◌++◌, refl, sym, ap, ◌∙◌, subst, arith}
use Rattle.std.proofs.lemmas.Bool.{cases_lt}
use Rattle.theory.specs.Placed.{IsReached, frame_length, Placed, covered, end_of, Among, Chain, AllAmong}
use Rattle.theory.specs.Units.{HasUnit, IsContiguous}
use Rattle.theory.proofs.Lists.{all_weaker, all_append}

pub chain_le : (c q : ℕ) (read : List Placed) → Chain c q read → c ≤ q
chain_le c q [] h = omega (arith, h)
chain_le c q (s ∷ ss) h = omega (arith, h.0, chain_le (end_of s) q ss h.1)

pub chain_from : (c q : ℕ) (read : List Placed) (s : Placed) → Chain c q read → Among s read → c ≤ s.at
chain_from c q [] s h a = absurd a
chain_from c q (t ∷ ts) s h (inl e) = let at : s.at ≡ t.at = ap (λ x. x.at) e in omega (arith, h.0)
chain_from c q (t ∷ ts) s h (inr a) = omega (arith, h.0, chain_from (end_of t) q ts s h.1 a)

pub chain_units : (frames : List Placed) (j q : ℕ) (read : List Placed) → Chain j q read → AllAmong frames read → (k : ℕ) → j + 32 * k < q → HasUnit frames (j + 32 * k)
chain_units frames j q [] c a k h = absurd (omega (arith, c))
chain_units frames j q (s ∷ ss) c a k h =
    let at : s.at ≡ j = c.0 in
    ⊎_elim
    (λ (l : 32 * k < covered s). record { frame = s; among = a.0; unit = k; inside = l; here = omega arith })
    (λ (l : covered s ≤ 32 * k).
    let rest : HasUnit frames (end_of s + 32 * (k - (frame_length s.frame + 31) / 32)) = chain_units frames (end_of s) q ss c.1 a.1 (k - (frame_length s.frame + 31) / 32) (omega arith) in
    let same : end_of s + 32 * (k - (frame_length s.frame + 31) / 32) ≡ j + 32 * k = omega arith in
    subst (λ x. HasUnit frames x) same rest)
    (cases_lt (32 * k) (covered s))

-- frames that follow each other take whole units
pub chain_span : (j q : ℕ) (read : List Placed) → Chain j q read → (n : ℕ) × (q ≡ j + 32 * n)
chain_span j q [] c = (0, omega (arith, c))
chain_span j q (s ∷ ss) c = let rest = chain_span (end_of s) q ss c.1 in ((frame_length s.frame + 31) / 32 + rest.0, omega (arith, c.0, rest.1))

pub Chain-push : (j q : ℕ) (read : List Placed) (s : Placed) → Chain j q read → s.at ≡ q → Chain j (end_of s) (read ++ s ∷ [])
Chain-push j q [] s c e = (e ∙ c, refl)
Chain-push j q (t ∷ ts) s c e = (c.0, Chain-push (end_of t) q ts s c.1 e)

pub Chain-append : (j q r : ℕ) (read more : List Placed) → Chain j q read → Chain q r more → Chain j r (read ++ more)
Chain-append j q r [] more c d = subst (λ x. Chain x r more) c d
Chain-append j q r (t ∷ ts) more c d = (c.0, Chain-append (end_of t) q r ts more c.1 d)

pub passed_more : (old new : List Placed) → ((s : Placed) → Among s old → Among s new) → (start at : ℕ) → IsReached old start at → IsReached new start at
passed_more old new keeps start at p = record { read = p.read; chain = p.chain; among = all_weaker (λ s. Among s old) (λ s. Among s new) keeps p.read p.among }

pub passed_along : (frames : List Placed) (start at to : ℕ) (more : List Placed) → IsReached frames start at → Chain at to more → AllAmong frames more → IsReached frames start to
passed_along frames start at to more p c a = record { read = p.read ++ more; chain = Chain-append start at to p.read more p.chain c; among = all_append (λ x. Among x frames) p.read more p.among a }

-- there is one such end
pub one_end : (frames : List Placed) (j q r : ℕ) → IsContiguous frames j q → IsContiguous frames j r → q ≡ r
one_end frames j q r a b =
    ⊎_elim
    (λ (l : a.units < b.units). absurd (a.next (subst (λ x. HasUnit frames x) (sym a.end) (b.all a.units l))))
    (λ (l : b.units ≤ a.units).
    ⊎_elim
    (λ (m : b.units < a.units). absurd (b.next (subst (λ x. HasUnit frames x) (sym b.end) (a.all b.units m))))
    (λ (m : a.units ≤ b.units). let e : q ≡ j + 32 * a.units = a.end in let f : r ≡ j + 32 * b.units = b.end in omega arith)
    (cases_lt b.units a.units))
    (cases_lt a.units b.units)
