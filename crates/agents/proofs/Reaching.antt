-- A receiver's core that has come as far as some readings stays so in a cycle, and where a reader learns of it.
use Rattle.std.proofs.Common.{◌≡◌, ◌⊎◌, ℕ, ◌+◌, ◌*◌, ◌<◌, Bool, inl, inr, List, [], ◌∷◌, map, Option, None, Some, refl, sym, ap, subst, arith}
use Rattle.std.specs.Prelude.{ℤ}
use Rattle.endpoint.specs.Devices.{Device}
use Rattle.agents.specs.Cycles.{Cycle, Fault, HearsAll, TicksBehind}
use Rattle.agents.specs.Parties.{CoreHears, CoreTicks}
use Rattle.endpoint.specs.declared.device_error.DeviceError.{DeviceError}
use Rattle.image.specs.Handles.{ReaderSeat}
use Rattle.theory.specs.Consumer.{Consumer, consumer_at, least_of}
use Rattle.theory.specs.Control.{named_by}
use Rattle.theory.specs.Placed as placed
use Rattle.theory.specs.Placed.{Placed}
use Rattle.theory.specs.Units.{HasUnit}
use Rattle.theory.specs.Wire.{DATA, HEARTBEAT, Header, NAK, PAD, SETUP, SM, Setup, Wire}
use Rattle.counters.specs.declared.readings.Readings.{Readings}
use Rattle.image.specs.Rebuilding.{Inserting, geometry_of, join_of}
use Rattle.receiver.specs.declared.receiver_core.Outcome.{Outcome}
use Rattle.receiver.specs.Dealt.{Learns}
use Rattle.receiver.specs.Receiving.{IfOurs, Meets, MeetsFrame, MeetsHeartbeat, MeetsSetup, Opened, Receiver, ticked}
use Rattle.receiver.specs.Representing.{BecomesSeen, Core, HearsDatagram, ImageSeesOn, MeetsEach, RepresentsOpened, core_seen_as, image_seen_as, with_image}
use Rattle.agents.specs.Publishing.{HasReached, IsReachedBy}
use Rattle.agents.proofs.Images.{HasCome, beaten, given, none_reached, opened_come}
use Rattle.counters.specs.Order.{zeros}

-- ---- a receiver that the core shows

abbrev ImageComes : Option Opened → Readings → Type 0
ImageComes None k = k ≡ zeros
ImageComes (Some o) k = HasCome k o.image

abbrev Keeps : Readings → Receiver → Receiver → Type 0
Keeps k r s = ImageComes r.image k → ImageComes s.image k

keeps_same : (k : Readings) (r s : Receiver) → s.image ≡ r.image → Keeps k r s
keeps_same k r s e h = subst (λ o. ImageComes o k) (sym e) h

-- its image becomes another
keeps_image : (k : Readings) (r s : Receiver) (o p : Option Opened) → r.image ≡ o → s.image ≡ p → (ImageComes o k → ImageComes p k) → Keeps k r s
keeps_image k r s o p is becomes step h = subst (λ x. ImageComes x k) (sym becomes) (step (subst (λ x. ImageComes x k) is h))

frame_keeps : (k : Readings) (o : Option Opened) (r : Receiver) (h : Header) (f : placed.Frame) (out : Outcome) (s : Receiver) → r.image ≡ o → MeetsFrame o r h f out s → Keeps k r s
frame_keeps k None r h f out s is met = keeps_same k r s (ap (λ (x : Receiver). x.image) met.1)
frame_keeps k (Some o) r h f out s is met = keeps_image k r s (Some o) _ is (ap (λ (x : Receiver). x.image) met.3) (given k o (named_by o.geometry h) f)

beat_keeps : (k : Readings) (o : Option Opened) (r : Receiver) (h : Header) (out : Outcome) (s : Receiver) → r.image ≡ o → MeetsHeartbeat o r h out s → Keeps k r s
beat_keeps k None r h out s is met = keeps_same k r s (ap (λ (x : Receiver). x.image) met.1)
beat_keeps k (Some o) r h out s is met = keeps_image k r s (Some o) _ is (ap (λ (x : Receiver). x.image) met.1) (beaten k o.geometry o.image (least_of o.image.consumers) (named_by o.geometry h))

setup_keeps : (k : Readings) (o : Option Opened) (r : Receiver) (f : Setup) (out : Outcome) (s : Receiver) → r.image ≡ o → MeetsSetup o r f out s → Keeps k r s
setup_keeps k None r f out s is (inl met) = keeps_image k r s None _ is (ap (λ (x : Receiver). x.image) met.4) (opened_come k met.1 r.window r.consumers)
setup_keeps k None r f out s is (inr met) = keeps_same k r s (ap (λ (x : Receiver). x.image) met.3)
setup_keeps k (Some o) r f out s is met = keeps_same k r s (ap (λ (x : Receiver). x.image) met.1)

ours_keeps : (k : Readings) (r : Receiver) (session stream : ℤ) (Then : Type 0) (out : Outcome) (s : Receiver) → (Then → Keeps k r s) → IfOurs r session stream Then out s → Keeps k r s
ours_keeps k r session stream Then out s step (inl met) = step met.1
ours_keeps k r session stream Then out s step (inr met) = keeps_same k r s (ap (λ (x : Receiver). x.image) met.1.1)

met_keeps : (k : Readings) (r : Receiver) (w : Wire) (out : Outcome) (s : Receiver) → Meets r w out s → Keeps k r s
met_keeps k r (DATA h flags payload) out s met = ours_keeps k r h.session h.stream _ out s (frame_keeps k r.image r h (placed.Data flags payload) out s refl) met
met_keeps k r (PAD h n) out s met = ours_keeps k r h.session h.stream _ out s (frame_keeps k r.image r h (placed.Pad n) out s refl) met
met_keeps k r (HEARTBEAT h) out s met = ours_keeps k r h.session h.stream _ out s (beat_keeps k r.image r h out s refl) met
met_keeps k r (NAK f) out s met = keeps_same k r s (ap (λ (x : Receiver). x.image) met.1)
met_keeps k r (SM asks f) out s met = keeps_same k r s (ap (λ (x : Receiver). x.image) met.1)
met_keeps k r (SETUP f) out s met = ours_keeps k r f.session f.stream _ out s (setup_keeps k r.image r f out s refl) met

-- ---- and the core

stand_there : (xs : List ℕ) → xs ≡ map (λ (c : Consumer). c.at) (map consumer_at xs)
stand_there [] = refl
stand_there (x ∷ xs) = ap (λ (ys : List ℕ). x ∷ ys) (stand_there xs)

-- an image of the definitions that an inserter shows
abbrev opened_of : Inserting → Opened
opened_of i = record { geometry = geometry_of i; image = record { join = join_of i; window = i.window; stored = i.stored; high = i.high; consumers = map consumer_at i.seen } }

abbrev image_of : Option Inserting → Option Opened
image_of None = None
image_of (Some i) = Some (opened_of i)

image_shows : (o : Option Inserting) → RepresentsOpened o (image_of o)
image_shows None = tt
image_shows (Some i) = record { geometry = refl; join = refl; window = refl; high = refl; stored = refl; consumers = stand_there i.seen }

comes_of : (k : Readings) (a b : Option Inserting) → HasReached a k → ImageComes (image_of (image_seen_as a b)) k
comes_of k None b h = h
comes_of k (Some i) None h = record { rebuilt = h.rebuilt; high = h.high }
comes_of k (Some i) (Some j) h = record { rebuilt = h.rebuilt; high = h.high }

reached_by : (k : Readings) (a b : Option Inserting) (o : Option Opened) → ImageSeesOn a b → HasReached a k → RepresentsOpened b o → ImageComes o k → HasReached b k
reached_by k None None o sees h is comes = h
reached_by k None (Some j) o sees h is comes = none_reached k j h
reached_by k (Some i) None o sees h is comes = absurd sees
reached_by k (Some i) (Some j) None sees h is comes = absurd is
reached_by k (Some i) (Some j) (Some o) sees h is comes = record {
  least = omega (arith, h.least, sees.floor);
  rebuilt = subst (λ (x : ℕ × List Placed). (n : ℕ) → x.0 + 32 * n < k.rebuilt → HasUnit x.1 (x.0 + 32 * n)) (λ n. (sym is.join n, sym is.stored n)) comes.rebuilt;
  high = omega (arith, is.high, comes.high);
}

-- a call that looks at the consumers once
step_reaches : (k : Readings) (v w : Core) (Step : Receiver → Receiver → Type 0) → ((r s : Receiver) → Step r s → Keeps k r s) → BecomesSeen v w Step → HasReached v.image k → HasReached w.image k
step_reaches k v w Step keeps seen h =
    let o = image_of (image_seen_as v.image w.image) in
    let r = with_image (core_seen_as v w) 0 o in
    let t = seen.1 r (record { numbers = refl; image = image_shows (image_seen_as v.image w.image) }) in
    reached_by k v.image w.image t.0.image seen.0 h t.2.image (keeps r t.0 t.1 (comes_of k v.image w.image h))

each_reaches : (k : Readings) (v : Core) (ws : List Wire) (outs : List Outcome) (w : Core) → MeetsEach v ws outs w → HasReached v.image k → HasReached w.image k
each_reaches k v [] outs w met h = subst (λ (x : Core). HasReached x.image k) (sym met.1) h
each_reaches k v (f ∷ fs) outs w met h = each_reaches k met.1 fs met.2 w met.6 (step_reaches k v met.1 _ (λ r s. met_keeps k r f met.0 s) met.3 h)

datagram_reaches : (k : Readings) (v : Core) (now : ℕ) (bytes : List ℕ) (outs : List Outcome) (w : Core) → HearsDatagram v now bytes outs w → HasReached v.image k → HasReached w.image k
datagram_reaches k v now bytes outs w (inl met) h = each_reaches k _ met.0 outs w met.2 h
datagram_reaches k v now bytes outs w (inr seen) h = step_reaches k v w _ (λ r s met. keeps_same k r s (ap (λ (x : Receiver). x.image) met.3)) seen h

-- ---- a cycle

hears_all : (k : Readings) (now : ℕ) (v : Core) (ds : List (List ℕ)) (w : Core) (given : List (List ℕ)) → HearsAll CoreHears now v ds w given → HasReached v.image k → HasReached w.image k
hears_all k now v [] w given heard h = subst (λ (x : Core). HasReached x.image k) (sym heard.0) h
hears_all k now v (d ∷ ds) w given heard h = hears_all k now heard.0 ds w heard.2 heard.4 (datagram_reaches k v now d heard.3.outcomes heard.0 heard.3.hears h)

ticks : (k : Readings) (now : ℕ) (v w : Core) (given : List (List ℕ)) → CoreTicks v now w given → HasReached v.image k → HasReached w.image k
ticks k now v w given told h = step_reaches k v w (λ r s. s ≡ ticked r now) (λ r s is. keeps_same k r s (ap (λ (x : Receiver). x.image) is)) (told.sees, λ r shows. (ticked r now, refl, told.becomes r shows)) h

pub cycle_reached : (k : Readings) (now : ℕ) (tells : Type 0) (v : Core) (d : Device) (busy : Bool) (w : Core) (e : Device) → Cycle CoreHears CoreTicks now tells v d busy w e → HasReached v.image k → HasReached w.image k
cycle_reached k now tells v d busy w e c h = ticks k now c.middle w c.given c.ticked (hears_all k now v c.heard c.middle c.answers c.all_heard h)

pub fault_reached : (k : Readings) (now : ℕ) (tells : Type 0) (fault : DeviceError) (v : Core) (d : Device) (w : Core) (e : Device) → Fault CoreHears CoreTicks now tells fault v d w e → HasReached v.image k → HasReached w.image k
fault_reached k now tells fault v d w e c h = either c.ticked
  where
    before : HasReached c.middle.image k
    before = hears_all k now v c.heard c.middle c.answers c.all_heard h

    either : ((w ≡ c.middle) × (c.given ≡ [])) ⊎ TicksBehind CoreTicks now c.heard c.lost c.answers c.given c.sent c.middle d w e → HasReached w.image k
    either (inl stays) = subst (λ (x : Core). HasReached x.image k) (sym stays.0) before
    either (inr told) = ticks k now c.middle w c.given told.ticked before

-- ---- a reader learns

pub learnt_reached : (k : Readings) (a : Option Inserting) (r : ReaderSeat) (b : Option Inserting) (q : ReaderSeat) → Learns a r b q → HasReached a k → HasReached b k
learnt_reached k None r b q learns h = absurd learns
learnt_reached k (Some i) r b q learns h =
    subst (λ x. HasReached x k) (sym learns.1) (subst (IsReachedBy k) (sym learns.2.inserter) (record { least = h.least; rebuilt = h.rebuilt; high = h.high }))
