-- What frames make of a receiver leaves its consumer and the assembler that it has.
use Rattle.std.proofs.Common.{◌≡◌, ℕ, inl, inr, List, [], ◌∷◌, Option, Some, None, refl, sym, ap, ◌∙◌, subst}
use Rattle.std.specs.Prelude.{ℤ, pos, negsuc}
use Rattle.theory.specs.Placed as placed
use Rattle.theory.specs.Consumer.{consumer_at, least_of}
use Rattle.theory.specs.Control.{named_by}
use Rattle.theory.specs.Image.{after_heartbeat, image_at}
use Rattle.theory.specs.Wire.{Header, Setup, Wire, DATA, PAD, HEARTBEAT, NAK, SM, SETUP}
use Rattle.assembler.specs.Assembling.{Assembling}
use Rattle.receiver.specs.declared.receiver_core.Outcome.{Outcome}
use Rattle.frames.specs.FaultCounts.{counted_at, place_of}
use Rattle.receiver.specs.Receiving.{TakesDatagram, IfOurs, Meets, MeetsAll, MeetsFrame, MeetsHeartbeat, MeetsSetup, Opened, Receiver, answer_at, at_moment, given_at}
use Rattle.receiver.specs.Representing as core
use Rattle.receiver.specs.Representing.{Represents, beaten_at}
use Rattle.receiver.specs.Subscribing.{AssemblesFor, SubscriberBecomes, Subscribing}
use Rattle.theory.proofs.Stays.{beat_stays, insert_stays}

-- it is to have one consumer, for which this assembler has begun what it has
pub record IsSeated (a : Assembling) (r : Receiver) : Type 0 where
  pub one : r.consumers ≡ 1
  pub seat : AssemblesFor a.begun r.image
  pub greatest : a.greatest ≡ r.greatest

abbrev Keeps : Assembling → Receiver → Receiver → Type 0
Keeps a r s = IsSeated a r → IsSeated a s

keeps_same : (b : Assembling) (r s : Receiver) → s ≡ r → Keeps b r s
keeps_same b r s e h = subst (IsSeated b) (sym e) h

keeps_unmet : (b : Assembling) (r s : Receiver) (h : Header) → s ≡ record r { unmet = Some h } → Keeps b r s
keeps_unmet b r s h e k = subst (IsSeated b) (sym e) (record { one = k.one; seat = k.seat; greatest = k.greatest })

keeps_image : (b : Assembling) (r s : Receiver) (o p : Opened) → r.image ≡ Some o → s ≡ record r { image = Some p } → p.image.consumers ≡ o.image.consumers → Keeps b r s
keeps_image b r s o p is e same k =
    let was : AssemblesFor b.begun (Some o) = subst (AssemblesFor b.begun) is k.seat in
    subst (IsSeated b) (sym e) (record { one = k.one; seat = (was.0, same ∙ was.1, was.2); greatest = k.greatest })

given_consumers : (o : Opened) (z : ℤ) (f : placed.Frame) → (given_at o z f).image.consumers ≡ o.image.consumers
given_consumers o (pos p) f = (insert_stays o.image (record { at = p; frame = f }) (answer_at o (pos p) f)).0
given_consumers o (negsuc n) f = refl

beaten_consumers : (o : Opened) (z : ℤ) → (after_heartbeat o.geometry o.image (least_of o.image.consumers) z).consumers ≡ o.image.consumers
beaten_consumers o z = (beat_stays o.geometry o.image (least_of o.image.consumers) z).0

frame_keeps : (b : Assembling) (o : Option Opened) (r : Receiver) (h : Header) (f : placed.Frame) (out : Outcome) (s : Receiver) → r.image ≡ o → MeetsFrame o r h f out s → Keeps b r s
frame_keeps b None r h f out s is met = keeps_unmet b r s h met.1
frame_keeps b (Some o) r h f out s is met = keeps_image b r s o (given_at o (named_by o.geometry h) f) is met.3 (given_consumers o (named_by o.geometry h) f)

beat_keeps : (b : Assembling) (o : Option Opened) (r : Receiver) (h : Header) (out : Outcome) (s : Receiver) → r.image ≡ o → MeetsHeartbeat o r h out s → Keeps b r s
beat_keeps b None r h out s is met = keeps_unmet b r s h met.1
beat_keeps b (Some o) r h out s is met = keeps_image b r s o (beaten_at o h) is met.1 (beaten_consumers o (named_by o.geometry h))

setup_keeps : (b : Assembling) (o : Option Opened) (r : Receiver) (f : Setup) (out : Outcome) (s : Receiver) → r.image ≡ o → MeetsSetup o r f out s → Keeps b r s
setup_keeps b (Some o) r f out s is met = keeps_same b r s met.1
setup_keeps b None r f out s is (inr met) = keeps_same b r s met.3
setup_keeps b None r f out s is (inl (g, p, opens, named, e)) = λ k.
    let none : b.begun ≡ None = subst (AssemblesFor b.begun) is k.seat in
    subst (IsSeated b) (sym e) (record { one = k.one; seat = opened k.one none; greatest = k.greatest })
  where
    opened : r.consumers ≡ 1 → b.begun ≡ None → AssemblesFor b.begun (Some (record { geometry = g; image = image_at p r.window r.consumers }))
    opened one none = subst (λ n. AssemblesFor b.begun (Some (record { geometry = g; image = image_at p r.window n }))) (sym one) (consumer_at p, refl, λ l. none)

if_ours : (b : Assembling) (r : Receiver) (x y : ℤ) (Then : Type 0) (out : Outcome) (s : Receiver) → (Then → Keeps b r s) → IfOurs r x y Then out s → Keeps b r s
if_ours b r x y Then out s f (inl h) = f h.1
if_ours b r x y Then out s f (inr h) = keeps_same b r s h.1.1

meets_keeps : (b : Assembling) (r : Receiver) (w : Wire) (out : Outcome) (s : Receiver) → Meets r w out s → Keeps b r s
meets_keeps b r (DATA h flags payload) out s met = if_ours b r h.session h.stream (MeetsFrame r.image r h (placed.Data flags payload) out s) out s (frame_keeps b r.image r h (placed.Data flags payload) out s refl) met
meets_keeps b r (PAD h n) out s met = if_ours b r h.session h.stream (MeetsFrame r.image r h (placed.Pad n) out s) out s (frame_keeps b r.image r h (placed.Pad n) out s refl) met
meets_keeps b r (HEARTBEAT h) out s met = if_ours b r h.session h.stream (MeetsHeartbeat r.image r h out s) out s (beat_keeps b r.image r h out s refl) met
meets_keeps b r (NAK f) out s met = keeps_same b r s met.1
meets_keeps b r (SM asks f) out s met = keeps_same b r s met.1
meets_keeps b r (SETUP f) out s met = if_ours b r f.session f.stream (MeetsSetup r.image r f out s) out s (setup_keeps b r.image r f out s refl) met

all_keep : (b : Assembling) (r : Receiver) (ws : List Wire) (outs : List Outcome) (s : Receiver) → MeetsAll r ws outs s → Keeps b r s
all_keep b r [] outs s met = keeps_same b r s met.1
all_keep b r (w ∷ ws) outs s (out, mid, rest, first, is, more) = λ k. all_keep b mid ws rest s more (meets_keeps b r w out mid first k)

at_keeps : (b : Assembling) (r : Receiver) (now : ℕ) → Keeps b r (at_moment r now)
at_keeps b r now k = record { one = k.one; seat = k.seat; greatest = k.greatest }

counts_keeps : (b : Assembling) (r s : Receiver) (p : ℕ) → s ≡ record r { faults = counted_at p r.faults } → Keeps b r s
counts_keeps b r s p e k = subst (IsSeated b) (sym e) (record { one = k.one; seat = k.seat; greatest = k.greatest })

pub hears_keeps : (b : Assembling) (r : Receiver) (now : ℕ) (bytes : List ℕ) (outs : List Outcome) (s : Receiver) → TakesDatagram r now bytes outs s → IsSeated b r → IsSeated b s
hears_keeps b r now bytes outs s (inl (ws, spells, met)) k = all_keep b (at_moment r now) ws outs s met (at_keeps b r now k)
hears_keeps b r now bytes outs s (inr (fault, why, is, e)) k = counts_keeps b (at_moment r now) s (place_of fault) e (at_keeps b r now k)

-- a step of the core that keeps its consumer is one of the subscriber
pub core_step : (v w : Subscribing) (Step : Receiver → Receiver → Type 0) → ((r s : Receiver) → Step r s → IsSeated v.assembler r → IsSeated v.assembler s) → w.assembler ≡ v.assembler → core.Becomes v.core w.core Step → SubscriberBecomes v w Step
core_step v w Step keeps same f = λ r h.
    let a = f r h.core in
    let k : IsSeated v.assembler a.0 = keeps r a.0 a.1 (record { one = h.one; seat = h.begun; greatest = h.greatest }) in
    (a.0, a.1, record { core = a.2; one = k.one; begun = subst (λ x. AssemblesFor x a.0.image) (sym (ap (λ (x : Assembling). x.begun) same)) k.seat; greatest = ap (λ (x : Assembling). x.greatest) same ∙ k.greatest })
