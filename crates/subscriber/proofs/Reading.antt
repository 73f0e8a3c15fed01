-- The socket is read, and what came goes where it belongs.
use Rattle.std.proofs.Common.{◌≡◌, ◌∙◌, ◌<◌, inl, inr, ℕ, zero, suc, List, [], ◌∷◌, length, get_or, set, Option, None, Some, Result, Ok, Err, refl, ap, subst, arith}
use Rattle.std.specs.Prelude.{IfNone, IfSome, MatchOption, OnOk}
use Rattle.std.specs.List.{AllWithin, AllZip, HoldsAt}
use Rattle.std.specs.declared.net.SocketAddr.{SocketAddr}
use Rattle.endpoint.specs.declared.datagrams.DeviceFailed.{DeviceFailed}
use Rattle.peer.specs.Ties.{Came}
use Rattle.subscriber.specs.Hearings.{Routed, with_routed}
use Rattle.subscriber.specs.Losing.{with_device}
use Rattle.subscriber.specs.Offers.{SubscriberDevice}
use Rattle.subscriber.specs.Receivings.{Receiving, bringing}
use Rattle.subscriber.specs.Routing.{GoesToIts, Hearer, IsNobodys, IsOf, ReadsMany, ReadsOne, Routes, RoutesCame}
use Rattle.subscriber.specs.Sessions.{IsRouted}
use Rattle.subscriber.specs.Watches.{Timing, after_call}
use Rattle.subscriber.specs.declared.images.session.Session.{Session}
use Rattle.subscriber.specs.declared.listening.first_frame.FirstFrame.{FirstFrame}
use Rattle.subscriber.proofs.Along.{each_on, each_still, one_on}

-- ---- whose a datagram is

-- the first whose it is stands at this place
abbrev pub IsItsPlace : SocketAddr → FirstFrame → List Session → ℕ → Type 0
IsItsPlace from first [] place = ⊥
IsItsPlace from first (j ∷ others) zero = IsOf j.duty.device from first
IsItsPlace from first (j ∷ others) (suc place) = (¬ IsOf j.duty.device from first) × IsItsPlace from first others place

module _ (from : SocketAddr) (first : FirstFrame) where
  abbrev pub Its : Session → Type 0
  Its j = IsOf j.duty.device from first

  abbrev pub IsNot : Session → Type 0
  IsNot j = ¬ IsOf j.duty.device from first

  pub its_place : (sessions : List Session) (place : ℕ) → place < length sessions → HoldsAt Its sessions place → AllWithin IsNot sessions 0 place → IsItsPlace from first sessions place
  its_place [] place low here before = absurd (omega (arith, low))
  its_place (j ∷ others) zero low here before = here j
  its_place (j ∷ others) (suc place) low here before =
      (before 0 j (omega arith) (omega arith), its_place others place (omega (arith, low)) here (λ k d least less. before (suc k) d (omega arith) (omega (arith, less))))

  pub nobodys : (sessions : List Session) → AllWithin IsNot sessions 0 (length sessions) → IsNobodys from first sessions
  nobodys [] all = tt
  nobodys (j ∷ others) all = (all 0 j (omega arith) (omega arith), nobodys others (λ k d least less. all (suc k) d (omega arith) (omega (arith, less))))

  pub place_is : (sessions : List Session) (found : Option ℕ)
      → MatchOption found (AllWithin IsNot sessions 0 (length sessions)) (λ i. (i < length sessions) × HoldsAt Its sessions i × AllWithin IsNot sessions 0 i)
      → IfSome found (IsItsPlace from first sessions) × IfSome found (λ i. i < length sessions) × IfNone found (IsNobodys from first sessions)
  place_is sessions None h = (tt, tt, nobodys sessions h)
  place_is sessions (Some i) h = (its_place sessions i h.0 h.1 h.2, h.0, tt)

-- it goes to the first whose it is
pub goes_to : (from : SocketAddr) (r : Routed) (sessions : List Session) (place : ℕ) (d : Session) (e : SubscriberDevice) → IsItsPlace from r.first sessions place → e ≡ with_routed (get_or sessions place d).duty.device r → GoesToIts from r sessions (set sessions place (with_device (get_or sessions place d) e))
goes_to from r [] place d e its given = absurd its
goes_to from r (j ∷ others) zero d e its given = inl (its, ap (λ (x : SubscriberDevice). with_device j x ∷ others) given)
goes_to from r (j ∷ others) (suc place) d e its given = inr (its.0, (set others place (with_device (get_or others place d) e), refl, goes_to from r others place d e its.1 given))

pub routes_came : (came : Option Came) (from : SocketAddr) (bytes : List ℕ) (old new : Hearer) → Some (record { from = from; bytes = bytes }) ≡ came → RoutesCame (record { from = from; bytes = bytes }) old new → Routes came old new
routes_came came from bytes old new is h = subst (λ (c : Option Came). Routes c old new) is h

-- ---- the socket

pub read_one : (js : List Session) (r s : Receiving) (t u : Timing) (new : Hearer) (answer : Result (Unit {0}) DeviceFailed) → s ≡ bringing r s.socket.came → u ≡ after_call answer t → Routes s.socket.came (record { sessions = js; socket = s; seen = u }) new → ReadsOne (record { sessions = js; socket = r; seen = t }) new
read_one js r s t u new answer brings notes routes = record {
  answer = answer;
  came = s.socket.came;
  routes = subst (λ (x : Receiving). Routes s.socket.came (record { sessions = js; socket = x; seen = after_call answer t }) new) brings
      (subst (λ (x : Timing). Routes s.socket.came (record { sessions = js; socket = s; seen = x }) new) notes routes);
}

pub read_where : {T E : Type 0} (result : Result T E) (js : List Session) (r s : Receiving) (t u : Timing) (new : Hearer) (answer : Result (Unit {0}) DeviceFailed) → s ≡ bringing r s.socket.came → u ≡ after_call answer t → OnOk result (Routes s.socket.came (record { sessions = js; socket = s; seen = u }) new) → OnOk result (ReadsOne (record { sessions = js; socket = r; seen = t }) new)
read_where (Ok x) js r s t u new answer brings notes routes = read_one js r s t u new answer brings notes routes
read_where (Err e) js r s t u new answer brings notes routes = routes

pub read_more : (old middle new : Hearer) → ((n : ℕ) × ReadsMany n old middle) → ReadsOne middle new → (n : ℕ) × ReadsMany n old new
read_more old middle new (n, many) one = (suc n, (middle, many, one))

-- ---- what the sessions stay

pub routed_still : (j : Session) → IsRouted j j
routed_still j = (j.duty.device, refl)

pub routed_on : (j k l : Session) → IsRouted j k → IsRouted k l → IsRouted j l
routed_on j k l first then = (then.0, then.1 ∙ ap (λ (x : Session). with_device x then.0) first.1)

pub all_routed_still : (js : List Session) → AllZip IsRouted js js
all_routed_still js = each_still IsRouted routed_still js

pub all_routed_on : (js ks ls : List Session) → AllZip IsRouted js ks → AllZip IsRouted ks ls → AllZip IsRouted js ls
all_routed_on js ks ls first then = each_on IsRouted routed_on js ks ls first then

pub routed_at : (js : List Session) (place : ℕ) (d : Session) (e : SubscriberDevice) → place < length js → AllZip IsRouted js (set js place (with_device (get_or js place d) e))
routed_at js place d e low = one_on IsRouted routed_on js js place d (with_device (get_or js place d) e) (all_routed_still js) low (e, refl)
