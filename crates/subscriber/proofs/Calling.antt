-- What opens an image by a datagram.
use Rattle.std.proofs.Common.{ℕ, List, Option, None, Some, Result, Ok, Err, ◌≡◌, ◌∙◌, ap, subst, sym}
use Rattle.std.specs.declared.net.SocketAddr.{SocketAddr}
use Rattle.theory.specs.Wire.{Header, IsHeader}
use Rattle.frames.specs.Frames.{header_of, setup_of}
use Rattle.frames.specs.declared.frame.Header.{Header as Named}
use Rattle.frames.specs.declared.frame.Setup.{Setup}
use Rattle.options.specs.declared.ends.plans.SubscribePlan.{SubscribePlan}
use Rattle.endpoint.specs.Devices.{counted}
use Rattle.endpoint.specs.declared.datagrams.DeviceFailed.{DeviceFailed}
use Rattle.peer.specs.Ties.{Came, Listening, with_came}
use Rattle.subscriber.specs.Calls.{Heeds, IsCall, IsCallWith, IsFrameCall, Waiting, answered, seen_by}
use Rattle.subscriber.specs.Meetings.{Opens}
use Rattle.subscriber.specs.Watches.{Timing, after_call, seeing}
use Rattle.subscriber.specs.declared.listening.Call.{Call}
use Rattle.subscriber.specs.declared.listening.Call.TheVariants as calls
use Rattle.subscriber.specs.declared.listening.setup_offer.SetupOffer.{SetupOffer}

no_frame : (plan : SubscribePlan) (header : Option Header) (m : SetupOffer) → IsFrameCall plan header (calls.Opens m) → ⊥
no_frame plan None m is = absurd (cc)
no_frame plan (Some h) m wrong = wrong

opens_with : (plan : SubscribePlan) (from : SocketAddr) (bytes : List ℕ) (found : Option Setup) (m : SetupOffer) → IsCallWith plan from bytes found (calls.Opens m) → Opens plan (setup_of m.setup) m.opening
opens_with plan from bytes (Some f) m is = is.opens
opens_with plan from bytes None m (header, tells, is) = absurd (no_frame plan header m is)

pub call_opens : (plan : SubscribePlan) (from : SocketAddr) (bytes : List ℕ) (m : SetupOffer) → IsCall plan from bytes (calls.Opens m) → Opens plan (setup_of m.setup) m.opening
call_opens plan from bytes m (found, tells, is) = opens_with plan from bytes found m is

legal_frame : (plan : SubscribePlan) (header : Option Header) (h : Named) → IsFrameCall plan header (calls.Asks h) → IsHeader (header_of h)
legal_frame plan None h is = absurd (cc)
legal_frame plan (Some named) h (taken, legal, is) = subst IsHeader (sym is) legal

legal_with : (plan : SubscribePlan) (from : SocketAddr) (bytes : List ℕ) (found : Option Setup) (h : Named) → IsCallWith plan from bytes found (calls.Asks h) → IsHeader (header_of h)
legal_with plan from bytes (Some f) h wrong = absurd wrong
legal_with plan from bytes None h (header, tells, is) = legal_frame plan header h is

-- the header with which a SETUP is asked for is one of a frame
pub legal_call : (plan : SubscribePlan) (from : SocketAddr) (bytes : List ℕ) (h : Named) → IsCall plan from bytes (calls.Asks h) → IsHeader (header_of h)
legal_call plan from bytes h (found, tells, is) = legal_with plan from bytes found h is

asks_by : (plan : SubscribePlan) (from : SocketAddr) (call : Call) (l : Listening) (s : Timing) → l.asks ≡ s.calls → (answered plan from call l).asks ≡ (seen_by call s).calls
asks_by plan from (calls.Opens m) l s same = same
asks_by plan from (calls.Untaken u) l s same = same
asks_by plan from (calls.Asks h) l s same = ap counted same
asks_by plan from calls.Stranger l s same = same

asks_came : (plan : SubscribePlan) (came : Option Came) (old : Waiting) (found : Option SetupOffer) (new : Waiting) → Heeds plan came old found new → old.socket.asks ≡ old.seen.calls → new.socket.asks ≡ new.seen.calls
asks_came plan None old found new (none, is) same = subst (λ (w : Waiting). w.socket.asks ≡ w.seen.calls) (sym is) same
asks_came plan (Some came) old found new h same =
    ap (λ (l : Listening). l.asks) h.answers ∙ asks_by plan came.from h.call old.socket old.seen same ∙ sym (ap (λ (s : Timing). s.calls) h.seen)

noted : (answer : Result (Unit {0}) DeviceFailed) (s t : Timing) → t ≡ after_call answer s → t.calls ≡ s.calls
noted (Ok done) s t is = ap (λ (x : Timing). x.calls) is
noted (Err failed) s t is = ap (λ (x : Timing). x.calls) is

-- in a turn for each call one was asked
pub asks_once : (plan : SubscribePlan) (answer : Result (Unit {0}) DeviceFailed) (k l m : Listening) (s t u v : Timing) (found : Option SetupOffer)
    → t ≡ seeing s t.moment → l ≡ with_came k l.came → u ≡ after_call answer t → Heeds plan l.came (record { socket = l; seen = u }) found (record { socket = m; seen = v }) → k.asks ≡ s.calls → m.asks ≡ v.calls
asks_once plan answer k l m s t u v found sees hears notes heeds same =
    let first : l.asks ≡ u.calls = ap (λ (x : Listening). x.asks) hears ∙ same ∙ sym (noted answer t u notes ∙ ap (λ (x : Timing). x.calls) sees) in
    asks_came plan l.came (record { socket = l; seen = u }) found (record { socket = m; seen = v }) heeds first
