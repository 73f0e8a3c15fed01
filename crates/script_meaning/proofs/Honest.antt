-- Packets that the sender and the receivers gave out.
use Rattle.std.proofs.Common.{◌≡◌, ℕ, List, [], ◌∷◌, ◌++◌, map, Bool, true, false, Option, None, Some, refl, subst}
use Rattle.std.specs.List.{AllByRecursion}
use Rattle.std.specs.Prelude.{⊤}
use Rattle.theory.specs.Wire.{Header, Setup, Wire, DATA, PAD, HEARTBEAT, NAK, SM, SETUP, IsFrame, SpellsDatagram, StandTogether}
use Rattle.theory.specs.Placed.{AllAmong, Among, Data, Pad, Frame, Placed}
use Rattle.theory.specs.Datagrams.{frames_of, wires}
use Rattle.theory.specs.Bytes.{Identity, wire_at}
use Rattle.std.proofs.Common.{cond}
use Rattle.std.specs.Option.{option_to_list}
use Rattle.theory.specs.Consumer.{least_of}
use Rattle.theory.specs.Control.{asking_at, nak_at, setup_fields, status_at}
use Rattle.theory.specs.Gap.{Gap}
use Rattle.theory.specs.Laws.{HasOneReading}
use Rattle.model.specs.Sender.{Sender}
use Rattle.theory.proofs.Lists.{all_append, all_at, all_behind, all_front, all_weaker}
use Rattle.theory.proofs.Readings.{stands_alone}
use Rattle.script_meaning.specs.Answers.{AreFrames}
use Rattle.receiver.specs.declared.receiver_core.Outcome.{Outcome}
use Rattle.receiver.specs.declared.receiver_core.Outcome.TheVariants as outcomes
use Rattle.script_meaning.specs.LineContents.{OfReceiver}
use Rattle.script_meaning.specs.Published.{AreHonestFrames, IfGiven, WasPrinted}
use Rattle.sender.specs.Cycling.{alone, datagrams}
use Rattle.receiver.specs.Receiving.{Opened, Receiver, asking, at_moment, is_due, missing, replies, scanned_at, telling}

-- a frame that the sender sent
abbrev pub WasSent : Identity → List Placed → Wire → Type 0
WasSent i sent w = (s : Placed) × Among s sent × (w ≡ wire_at i s.at s.frame)

-- a SETUP that the sender sent
abbrev pub WasNamed : Identity → List ℕ → Setup → Type 0
WasNamed i setups f = (p : ℕ) × Among p setups × (f ≡ setup_fields i p)

-- what the sender and the receivers give out: data, paddings and SETUPs are the sender's
abbrev pub IsGivenOut : Identity → List Placed → List ℕ → Wire → Type 0
IsGivenOut i sent setups (DATA h flags payload) = WasSent i sent (DATA h flags payload)
IsGivenOut i sent setups (PAD h n) = WasSent i sent (PAD h n)
IsGivenOut i sent setups (SETUP f) = WasNamed i setups f
IsGivenOut i sent setups (HEARTBEAT h) = ⊤
IsGivenOut i sent setups (NAK f) = ⊤
IsGivenOut i sent setups (SM asks f) = ⊤

-- the frames of a datagram that was given out
abbrev pub AreGivenOut : Identity → Sender → List Wire → Type 0
AreGivenOut i x ws = AllByRecursion (λ w. IsGivenOut i x.sent x.setups w) ws

-- bytes of such a datagram
pub record IsHonest (i : Identity) (x : Sender) (bytes : List ℕ) : Type 0 where
  pub wires : List Wire
  pub spelled : SpellsDatagram wires bytes
  pub given : AreGivenOut i x wires

abbrev pub AreHonest : Identity → Sender → List (List ℕ) → Type 0
AreHonest i x packets = AllByRecursion (IsHonest i x) packets

-- ---- more is sent

given_more : (i : Identity) (x y : Sender) (w : Wire) → ((s : Placed) → Among s x.sent → Among s y.sent) → ((p : ℕ) → Among p x.setups → Among p y.setups) → IsGivenOut i x.sent x.setups w → IsGivenOut i y.sent y.setups w
given_more i x y (DATA h flags payload) more named given = (given.0, more given.0 given.1, given.2)
given_more i x y (PAD h n) more named given = (given.0, more given.0 given.1, given.2)
given_more i x y (HEARTBEAT h) more named given = tt
given_more i x y (NAK f) more named given = tt
given_more i x y (SM asks f) more named given = tt
given_more i x y (SETUP f) more named given = (given.0, named given.0 given.1, given.2)

pub honest_more : (i : Identity) (x y : Sender) (packets : List (List ℕ)) → ((s : Placed) → Among s x.sent → Among s y.sent) → ((p : ℕ) → Among p x.setups → Among p y.setups) → AreHonest i x packets → AreHonest i y packets
honest_more i x y packets more named h =
    all_weaker (IsHonest i x) (IsHonest i y) (λ bytes k. record {
      wires = k.wires;
      spelled = k.spelled;
      given = all_weaker (λ w. IsGivenOut i x.sent x.setups w) (λ w. IsGivenOut i y.sent y.setups w) (λ w g. given_more i x y w more named g) k.wires k.given;
    }) packets h

-- a datagram that stands in the grammar, of frames that were given out
pub record IsGiven (i : Identity) (x : Sender) (ws : List Wire) : Type 0 where
  pub stands : StandTogether ws
  pub frames : AreFrames ws
  pub given : AreGivenOut i x ws

abbrev pub AreGiven : Identity → Sender → List (List Wire) → Type 0
AreGiven i x sent = AllByRecursion (IsGiven i x) sent

pub honest_given : (i : Identity) (x : Sender) (sent : List (List Wire)) → AreGiven i x sent → AreHonest i x (datagrams sent)
honest_given i x [] h = tt
honest_given i x (ws ∷ wss) h = (record { wires = ws; spelled = (h.0.stands, h.0.frames, refl); given = h.0.given }, honest_given i x wss h.1)

pub alone_given : (i : Identity) (x : Sender) (ws : List Wire) → AreFrames ws → AreGivenOut i x ws → AreGiven i x (alone ws)
alone_given i x [] frames given = tt
alone_given i x (w ∷ ws) frames given = (record { stands = stands_alone w; frames = (frames.0, tt); given = (given.0, tt) }, alone_given i x ws frames.1 given.1)

-- ---- what the sender gave out

placed_given : (i : Identity) (x : Sender) (p : ℕ) (f : Frame) → Among (record { at = p; frame = f }) x.sent → IsGivenOut i x.sent x.setups (wire_at i p f)
placed_given i x p (Data flags payload) h = (record { at = p; frame = Data flags payload }, h, refl)
placed_given i x p (Pad n) h = (record { at = p; frame = Pad n }, h, refl)

frames_given : (i : Identity) (x : Sender) (ss : List Placed) → AllAmong x.sent ss → AreGivenOut i x (wires i ss)
frames_given i x [] h = tt
frames_given i x (s ∷ ss) h = (placed_given i x s.at s.frame h.0, frames_given i x ss h.1)

frames_framed : (i : Identity) (sent ss : List Placed) → AllByRecursion (λ s. IsFrame (wire_at i s.at s.frame)) sent → AllAmong sent ss → AreFrames (wires i ss)
frames_framed i sent [] spelled h = tt
frames_framed i sent (s ∷ ss) spelled h = (all_at (λ t. IsFrame (wire_at i t.at t.frame)) s sent spelled h.0, frames_framed i sent ss spelled h.1)

-- datagrams of frames that it sent
pub placed_datagrams : (i : Identity) (x : Sender) (ds : List (List Placed)) → AllByRecursion (λ s. IsFrame (wire_at i s.at s.frame)) x.sent → AllByRecursion (λ d. StandTogether (wires i d)) ds → AllAmong x.sent (frames_of ds) → AreGiven i x (map (wires i) ds)
placed_datagrams i x [] spelled stand h = tt
placed_datagrams i x (d ∷ ds) spelled stand h =
    let here : AllAmong x.sent d = all_front (λ s. Among s x.sent) d (frames_of ds) h in (
      record { stands = stand.0; frames = frames_framed i x.sent d spelled here; given = frames_given i x d here },
      placed_datagrams i x ds spelled stand.1 (all_behind (λ s. Among s x.sent) d (frames_of ds) h),
    )

-- ---- what a receiver gave out

asking_given : (i : Identity) (x : Sender) (r : Receiver) (unmet : Option Header) → AreGivenOut i x (map (λ h. asking_at h r.id) (option_to_list unmet))
asking_given i x r None = tt
asking_given i x r (Some h) = (tt, tt)

told_given : (i : Identity) (x : Sender) (w : Wire) (due : Bool) → IsGivenOut i x.sent x.setups w → AreGivenOut i x (cond due (w ∷ []) [])
told_given i x w true h = (h, tt)
told_given i x w false h = tt

telling_given : (i : Identity) (x : Sender) (r : Receiver) (o : Option Opened) → AreGivenOut i x (telling o r)
telling_given i x r None = tt
telling_given i x r (Some o) = told_given i x (status_at (record { geometry = o.geometry; session = r.session; stream = r.stream }) (least_of o.image.consumers) r.window r.id) (is_due r o) tt

missing_given : (i : Identity) (x : Sender) (r : Receiver) (o : Option Opened) → AreGivenOut i x (missing o r)
missing_given i x r None = tt
missing_given i x r (Some o) = naks_given (option_to_list (scanned_at (Some o) r).told)
  where
    naks_given : (gaps : List Gap) → AreGivenOut i x (map (nak_at (record { geometry = o.geometry; session = r.session; stream = r.stream })) gaps)
    naks_given [] = tt
    naks_given (gap ∷ gaps) = (tt, naks_given gaps)

pub replies_given : (i : Identity) (x : Sender) (r : Receiver) (now : ℕ) → AreGivenOut i x (replies r now)
replies_given i x r now =
    let s = at_moment r now in
    all_append (λ w. IsGivenOut i x.sent x.setups w) (asking s ++ missing r.image s) (telling r.image s)
    (all_append (λ w. IsGivenOut i x.sent x.setups w) (asking s) (missing r.image s) (asking_given i x s r.unmet) (missing_given i x s r.image))
    (telling_given i x s r.image)

-- ---- it has one reading

pub frames_given_out : HasOneReading → (i : Identity) (x : Sender) (bytes : List ℕ) (frames : List Wire) → IsHonest i x bytes → SpellsDatagram frames bytes → AreGivenOut i x frames
frames_given_out law i x bytes frames h spelled = subst (AreGivenOut i x) (law h.wires frames bytes h.spelled spelled) h.given

-- ---- what a receiver takes of a datagram

if_given : (out : Outcome) (P Q : Type 0) → (P → Q) → IfGiven out P → IfGiven out Q
if_given (outcomes.Inserted a) P Q weaker h = weaker h
if_given (outcomes.Opened j) P Q weaker h = weaker h
if_given outcomes.Heartbeat P Q weaker h = tt
if_given outcomes.Kept P Q weaker h = tt
if_given outcomes.Asked P Q weaker h = tt
if_given (outcomes.SetupRefused e) P Q weaker h = tt
if_given outcomes.Other P Q weaker h = tt
if_given (outcomes.Refused e) P Q weaker h = tt

surely_given : (out : Outcome) (P : Type 0) → P → IfGiven out P
surely_given (outcomes.Inserted a) P h = h
surely_given (outcomes.Opened j) P h = h
surely_given outcomes.Heartbeat P h = tt
surely_given outcomes.Kept P h = tt
surely_given outcomes.Asked P h = tt
surely_given (outcomes.SetupRefused e) P h = tt
surely_given outcomes.Other P h = tt
surely_given (outcomes.Refused e) P h = tt

-- each frame that is given to an image, and each SETUP that opens one, was given out
abbrev pub AreEntering : Identity → Sender → List Wire → List Outcome → Type 0
AreEntering i x [] outs = ⊤
AreEntering i x (w ∷ ws) [] = ⊤
AreEntering i x (w ∷ ws) (out ∷ outs) = IfGiven out (IsGivenOut i x.sent x.setups w) × AreEntering i x ws outs

-- frames of a datagram that was given out
pub all_entering : (i : Identity) (x : Sender) (ws : List Wire) (outs : List Outcome) → AreGivenOut i x ws → AreEntering i x ws outs
all_entering i x [] outs h = tt
all_entering i x (w ∷ ws) [] h = tt
all_entering i x (w ∷ ws) (out ∷ outs) h = (surely_given out (IsGivenOut i x.sent x.setups w) h.0, all_entering i x ws outs h.1)

was_given : HasOneReading → (i : Identity) (x : Sender) (packets : List (List ℕ)) (w : Wire) → AreHonest i x packets → WasPrinted packets w → IsGivenOut i x.sent x.setups w
was_given law i x packets w h p = all_at (λ v. IsGivenOut i x.sent x.setups v) w p.frames (frames_given_out law i x p.bytes p.frames (all_at (IsHonest i x) p.bytes packets h p.among) p.spelled) p.here

-- frames that were printed
pub printed_entering : HasOneReading → (i : Identity) (x : Sender) (packets : List (List ℕ)) (ws : List Wire) (outs : List Outcome) → AreHonest i x packets → AreHonestFrames packets ws (map OfReceiver outs) → AreEntering i x ws outs
printed_entering law i x packets [] outs h k = tt
printed_entering law i x packets (w ∷ ws) [] h k = tt
printed_entering law i x packets (w ∷ ws) (out ∷ outs) h k =
    (if_given out (WasPrinted packets w) (IsGivenOut i x.sent x.setups w) (was_given law i x packets w h) k.0, printed_entering law i x packets ws outs h k.1)
