-- A list of bytes has one fault as a datagram.
use Rattle.std.proofs.Common.{◌≡◌, ◌⊎◌, List, [], ◌∷◌, ◌++◌, drop, Option, Some, None, Result, Ok, Err, ℕ, length, sym, ap, subst, ◌∙◌, append_assoc, inl, inr}
use Rattle.std.specs.Prelude.{IfOk, IfErr}
use Rattle.std.specs.List.{flat_map, AllByRecursion}
use Rattle.theory.specs.Wire.{Wire, spelling, IsFrame, SpellsDatagram}
use Rattle.theory.proofs.Spelled.{one_spelling}
use Rattle.frames.specs.declared.fault.FrameError.{FrameError}
use Rattle.frames.specs.declared.fault.FrameError.TheVariants.{Datagram}
use Rattle.frames.specs.Order.{first_fault}
use Rattle.frames.specs.Datagrams.{IsData, IsUnreadable, IsMisplaced, IsDatagramFault}
use Rattle.frames.proofs.Laws.{front_parts}
use Rattle.frames.proofs.Together.{readable, no_fault, no_datagram}

abbrev Stops : List Wire → List ℕ → FrameError → Type 0
Stops before rest fault = IsUnreadable before rest fault ⊎ ((fault ≡ Datagram) × IsMisplaced before rest)

fault_is : (e f : FrameError) (o : Option FrameError) → o ≡ Some e → o ≡ Some f → e ≡ f
fault_is e f o p q = cc

-- where a frame is misplaced, a frame is read
misplaced_reads : (before : List Wire) (rest : List ℕ) → IsMisplaced before rest → first_fault rest ≡ None
misplaced_reads before rest m = ap first_fault (front_parts rest m.frame m.size m.read) ∙ readable m.frame (drop m.size rest) m.read.spelled.0

-- both stop at one place
same_place : (a b : List Wire) (rest : List ℕ) (e f : FrameError) → Stops a rest e → Stops b rest f → e ≡ f
same_place a b rest e f (inl u) (inl v) = fault_is e f (first_fault rest) u.reason v.reason
same_place a b rest e f (inl u) (inr m) = absurd (no_fault e (sym (misplaced_reads b rest m.1) ∙ u.reason))
same_place a b rest e f (inr m) (inl v) = absurd (no_fault f (sym (misplaced_reads a rest m.1) ∙ v.reason))
same_place a b rest e f (inr m) (inr n) = m.0 ∙ sym n.0

-- nothing stops where a data frame stands
no_stop : (before : List Wire) (w : Wire) (rest after : List ℕ) (e : FrameError) → IsFrame w → IsData w → rest ≡ spelling w ++ after → Stops before rest e → ⊥
no_stop before w rest after e legal kind parts (inl u) = no_fault e (sym (readable w after legal) ∙ ap first_fault (sym parts) ∙ u.reason)
no_stop before w rest after e legal kind parts (inr m) =
    let p = one_spelling w m.1.frame after (drop m.1.size rest) legal m.1.read.spelled.0 (sym parts ∙ front_parts rest m.1.frame m.1.size m.1.read) in
    m.1.other (subst IsData p.0 kind)

same_stop : (c d a b : List Wire) (x y : List ℕ) (e f : FrameError) → AllByRecursion IsFrame a → AllByRecursion IsFrame b → AllByRecursion IsData a → AllByRecursion IsData b
    → flat_map spelling a ++ x ≡ flat_map spelling b ++ y → Stops c x e → Stops d y f → e ≡ f
same_stop c d [] [] x y e f fa fb ka kb same p q = same_place c d x e f p (subst (λ (r : List ℕ). Stops d r f) (sym same) q)
same_stop c d [] (w ∷ b) x y e f fa fb ka kb same p q = absurd (no_stop c w x (flat_map spelling b ++ y) e fb.0 kb.0 (same ∙ append_assoc (spelling w) (flat_map spelling b) y) p)
same_stop c d (w ∷ a) [] x y e f fa fb ka kb same p q = absurd (no_stop d w y (flat_map spelling a ++ x) f fa.0 ka.0 (sym same ∙ append_assoc (spelling w) (flat_map spelling a) x) q)
same_stop c d (v ∷ a) (w ∷ b) x y e f fa fb ka kb same p q =
    let one = one_spelling v w (flat_map spelling a ++ x) (flat_map spelling b ++ y) fa.0 fb.0 (sym (append_assoc (spelling v) (flat_map spelling a) x) ∙ same ∙ append_assoc (spelling w) (flat_map spelling b) y) in
    same_stop c d a b x y e f fa.1 fb.1 ka.1 kb.1 one.1 p q

same_fault : (bytes : List ℕ) (e f : FrameError) → IsDatagramFault bytes e → IsDatagramFault bytes f → e ≡ f
same_fault bytes e f p q = same_stop p.0 q.0 p.0 q.0 p.1 q.1 e f p.2.frames q.2.frames p.2.kinds q.2.kinds (sym p.2.parts ∙ q.2.parts) p.3 q.3

abbrev refusal : FrameError → Result ℕ FrameError
refusal e = Err e

pub is_refused : (bytes : List ℕ) (r : Result ℕ FrameError) (fault : FrameError) → IfOk r (λ n. (read : List Wire) × SpellsDatagram read bytes × (length read ≡ n)) → IfErr r (λ fault. IsDatagramFault bytes fault) → IsDatagramFault bytes fault → r ≡ Err fault
is_refused bytes (Ok n) fault found refused h = absurd (no_datagram bytes found.0 fault found.1 h)
is_refused bytes (Err e) fault found refused h = ap (λ (x : FrameError). refusal x) (same_fault bytes e fault refused h)
