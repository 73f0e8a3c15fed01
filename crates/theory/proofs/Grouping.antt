-- Frames are grouped into datagrams one after the other.
use Rattle.std.proofs.Common.{◌≡◌, ℕ, ◌+◌, ◌<◌, ◌≤◌, ⊎_elim, List, [], ◌∷◌, ◌++◌, take, length, true, false, refl, sym, ap, ◌∙◌, append_assoc, length-append, arith}
use Rattle.std.specs.List.{AllByRecursion}
use Rattle.std.specs.Prelude.{nat_le, if◌then◌else◌}
use Rattle.std.proofs.lemmas.Bool.{cases_Bool, cond-true, cond-false, le-leb, lt-leb}
use Rattle.std.proofs.lemmas.List.{same_from_push, take_all}
use Rattle.theory.specs.Position.{Geometry}
use Rattle.theory.specs.Placed.{Placed}
use Rattle.theory.specs.Datagrams.{MayBeSent, cycle_datagrams, fits_in, frames_of, grouped, grouped_behind, sendable, sent_end, size_of, wire_size}
use Rattle.theory.proofs.Lists.{all_pushed}

-- ---- the datagrams are the frames, in order

grouped_behind_is : (g : Geometry) (front ss : List Placed) → frames_of (grouped_behind g front ss) ≡ front ++ ss
grouped_behind_is g front [] = refl
grouped_behind_is g front (s ∷ ss) =
    ⊎_elim
    (λ (t : fits_in g front s ≡ true). ap frames_of (cond-true (fits_in g front s) (grouped_behind g (front ++ s ∷ []) ss) (front ∷ grouped_behind g (s ∷ []) ss) t) ∙ grouped_behind_is g (front ++ s ∷ []) ss ∙ append_assoc front (s ∷ []) ss)
    (λ (f : fits_in g front s ≡ false). ap frames_of (cond-false (fits_in g front s) (grouped_behind g (front ++ s ∷ []) ss) (front ∷ grouped_behind g (s ∷ []) ss) f) ∙ ap (λ x. front ++ x) (grouped_behind_is g (s ∷ []) ss))
    (cases_Bool (fits_in g front s))

pub grouped_is : (g : Geometry) (ss : List Placed) → frames_of (grouped g ss) ≡ ss
grouped_is g [] = refl
grouped_is g (s ∷ ss) = grouped_behind_is g (s ∷ []) ss

pub size_push : (ts : List Placed) (s : Placed) → size_of (ts ++ s ∷ []) ≡ size_of ts + wire_size s s.frame
size_push [] s = omega arith
size_push (t ∷ ts) s = omega (arith, size_push ts s)

-- ---- one frame more

-- the last datagram, and the frame in it or behind it
abbrev with_frame : Geometry → List Placed → Placed → List (List Placed)
with_frame g last s = if fits_in g last s then (last ++ s ∷ []) ∷ [] else last ∷ (s ∷ []) ∷ []

record Ends (g : Geometry) (front ss : List Placed) : Type 0 where
  earlier : List (List Placed)
  last : List Placed
  parts : grouped_behind g front ss ≡ earlier ++ last ∷ []
  on : (s : Placed) → grouped_behind g front (ss ++ s ∷ []) ≡ earlier ++ with_frame g last s

ends : (g : Geometry) (front ss : List Placed) → Ends g front ss
ends g front [] = record { earlier = []; last = front; parts = refl; on = λ s. refl }
ends g front (x ∷ ss) =
    ⊎_elim
    (λ (t : fits_in g front x ≡ true).
    let r = ends g (front ++ x ∷ []) ss in
    record {
      earlier = r.earlier;
      last = r.last;
      parts = cond-true (fits_in g front x) (grouped_behind g (front ++ x ∷ []) ss) (front ∷ grouped_behind g (x ∷ []) ss) t ∙ r.parts;
      on = λ s. cond-true (fits_in g front x) (grouped_behind g (front ++ x ∷ []) (ss ++ s ∷ [])) (front ∷ grouped_behind g (x ∷ []) (ss ++ s ∷ [])) t ∙ r.on s;
    })
    (λ (f : fits_in g front x ≡ false).
    let r = ends g (x ∷ []) ss in
    record {
      earlier = front ∷ r.earlier;
      last = r.last;
      parts = cond-false (fits_in g front x) (grouped_behind g (front ++ x ∷ []) ss) (front ∷ grouped_behind g (x ∷ []) ss) f ∙ ap (λ ds. front ∷ ds) r.parts;
      on = λ s. cond-false (fits_in g front x) (grouped_behind g (front ++ x ∷ []) (ss ++ s ∷ [])) (front ∷ grouped_behind g (x ∷ []) (ss ++ s ∷ [])) f ∙ ap (λ ds. front ∷ ds) (r.on s);
    })
    (cases_Bool (fits_in g front x))

one_more : (g : Geometry) (ss : List Placed) (s : Placed) (earlier : List (List Placed)) (last : List Placed) → grouped g ss ≡ earlier ++ last ∷ [] → grouped g (ss ++ s ∷ []) ≡ earlier ++ with_frame g last s
one_more g [] s earlier last e = absurd (omega (arith, ap length e, length-append earlier (last ∷ [])))
one_more g (x ∷ ss) s earlier last e =
    let r = ends g (x ∷ []) ss in
    let same = same_from_push r.earlier earlier r.last last (sym r.parts ∙ e) in
    r.on s ∙ ap (λ ds. ds ++ with_frame g r.last s) same.0 ∙ ap (λ d. earlier ++ with_frame g d s) same.1

-- a frame that fits goes into the last datagram
pub goes_into_last : (g : Geometry) (ss : List Placed) (s : Placed) (earlier : List (List Placed)) (last : List Placed) → grouped g ss ≡ earlier ++ last ∷ [] → fits_in g last s ≡ true → grouped g (ss ++ s ∷ []) ≡ earlier ++ (last ++ s ∷ []) ∷ []
goes_into_last g ss s earlier last e t = one_more g ss s earlier last e ∙ ap (λ ds. earlier ++ ds) (cond-true (fits_in g last s) ((last ++ s ∷ []) ∷ []) (last ∷ (s ∷ []) ∷ []) t)

-- and one that doesn't fit begins another
pub begins_another : (g : Geometry) (ss : List Placed) (s : Placed) (earlier : List (List Placed)) (last : List Placed) → grouped g ss ≡ earlier ++ last ∷ [] → fits_in g last s ≡ false → grouped g (ss ++ s ∷ []) ≡ grouped g ss ++ (s ∷ []) ∷ []
begins_another g ss s earlier last e f =
    one_more g ss s earlier last e
    ∙ ap (λ ds. earlier ++ ds) (cond-false (fits_in g last s) ((last ++ s ∷ []) ∷ []) (last ∷ (s ∷ []) ∷ []) f)
    ∙ sym (append_assoc earlier (last ∷ []) ((s ∷ []) ∷ []))
    ∙ ap (λ ds. ds ++ (s ∷ []) ∷ []) (sym e)

-- ---- what a cycle sends

pub all_sendable : (limit : ℕ) (ss : List Placed) → AllByRecursion (MayBeSent limit) ss → sendable limit ss ≡ ss
all_sendable limit [] h = refl
all_sendable limit (s ∷ ss) h = cond-true (nat_le (sent_end s s.frame) limit) (s ∷ sendable limit ss) [] (le-leb (sent_end s s.frame) limit h.0) ∙ ap (λ ts. s ∷ ts) (all_sendable limit ss h.1)

sendable_before : (limit : ℕ) (ss : List Placed) (s : Placed) → AllByRecursion (MayBeSent limit) ss → limit < sent_end s s.frame → sendable limit (ss ++ s ∷ []) ≡ ss
sendable_before limit [] s h k = cond-false (nat_le (sent_end s s.frame) limit) (s ∷ []) [] (lt-leb (sent_end s s.frame) limit k)
sendable_before limit (t ∷ ss) s h k = cond-true (nat_le (sent_end t t.frame) limit) (t ∷ sendable limit (ss ++ s ∷ [])) [] (le-leb (sent_end t t.frame) limit h.0) ∙ ap (λ ts. t ∷ ts) (sendable_before limit ss s h.1 k)

-- all frames go that may be sent and need no more than 16 datagrams
pub cycle_sends_these : (g : Geometry) (limit : ℕ) (ss : List Placed) → AllByRecursion (MayBeSent limit) ss → length (grouped g ss) ≤ 16 → cycle_datagrams g limit ss ≡ grouped g ss
cycle_sends_these g limit ss h few = ap (λ ts. take 16 (grouped g ts)) (all_sendable limit ss h) ∙ take_all 16 (grouped g ss) few

-- one that ends above the limit changes nothing
pub cycle_stops_at_limit : (g : Geometry) (limit : ℕ) (ss : List Placed) (s : Placed) → AllByRecursion (MayBeSent limit) ss → limit < sent_end s s.frame → length (grouped g ss) ≤ 16 → cycle_datagrams g limit (ss ++ s ∷ []) ≡ grouped g ss
cycle_stops_at_limit g limit ss s h above few = ap (λ ts. take 16 (grouped g ts)) (sendable_before limit ss s h above) ∙ take_all 16 (grouped g ss) few

-- nor does one that has no place in 16 datagrams
pub cycle_stops_when_full : (g : Geometry) (limit : ℕ) (ss : List Placed) (s : Placed) → AllByRecursion (MayBeSent limit) ss → MayBeSent limit s → take 16 (grouped g (ss ++ s ∷ [])) ≡ grouped g ss → cycle_datagrams g limit (ss ++ s ∷ []) ≡ grouped g ss
cycle_stops_when_full g limit ss s h may full = ap (λ ts. take 16 (grouped g ts)) (all_sendable limit (ss ++ s ∷ []) (all_pushed (MayBeSent limit) ss s h may)) ∙ full
