-- Datagrams of a stream's committed frames, its SETUPs and its heartbeats are honest for it.
use Rattle.std.proofs.Common.{◌≡◌, ℕ, ◌%◌, ◌≤◌, List, [], ◌∷◌, ◌++◌, map, Bool, true, false, Option, None, Some, ⊎_elim, refl, sym, subst, append-nil}
use Rattle.std.specs.List.{AllByRecursion, flat_map}
use Rattle.theory.specs.Bytes.{wire_at}
use Rattle.theory.specs.Control.{heartbeat_at, setup_at, setup_fields}
use Rattle.theory.specs.Datagrams.{frames_of, grouped, sendable, wires}
use Rattle.theory.specs.Entry.{committed}
use Rattle.theory.specs.Gap.{Gap}
use Rattle.theory.specs.Laws.{HasOneReading}
use Rattle.theory.specs.Placed.{AllAmong, Among, Data, Frame, Pad, Placed}
use Rattle.theory.specs.Position.{max_position}
use Rattle.theory.specs.Wire.{IsFrame, SETUP, StandTogether, SpellsDatagram, Wire, spelling}
use Rattle.theory.proofs.Lists.{all_at, all_behind, all_from, all_front}
use Rattle.theory.proofs.Readings.{stands_alone}
use Rattle.model.proofs.Datagrams.{grouped_stand}
use Rattle.model.proofs.Sizes.{all_take}
use Rattle.sender.specs.Cycling.{AreRead, GivesAgain, GivesNew, TakesAll, alone, datagrams, heartbeats, setups}
use Rattle.receiver.specs.Lives.{IsHonest, IsHonestFrame, IsStream, Stream}
use Rattle.sender_meaning.specs.Lives.{IsSpelled, SetupsAreHonest}
use Rattle.sender_meaning.proofs.Spelled.{header_framed, setup_framed}

-- frames that stand together, of which each is honest
pub record IsGiven (x : Stream) (ws : List Wire) : Type 0 where
  pub stands : StandTogether ws
  pub frames : AllByRecursion IsFrame ws
  pub honest : AllByRecursion (IsHonestFrame x) ws

pub honest_given : HasOneReading → (x : Stream) (sent : List (List Wire)) → AllByRecursion (IsGiven x) sent → AllByRecursion (IsHonest x) (datagrams sent)
honest_given law x [] h = tt
honest_given law x (ws ∷ wss) h = (
  (λ (frames : List Wire) (spelled : SpellsDatagram frames (flat_map spelling ws)). subst (AllByRecursion (IsHonestFrame x)) (law ws frames (flat_map spelling ws) (h.0.stands, h.0.frames, refl) spelled) h.0.honest),
  honest_given law x wss h.1,
)

-- ---- a SETUP, and a heartbeat

pub setup_given : (x : Stream) → IsStream x → IsSpelled x → (p : ℕ) (due : Bool) → p % 32 ≡ 0 → p ≤ max_position x.identity.geometry → AllByRecursion (IsGiven x) (alone (setups x.identity p due))
setup_given x is spelled p true unit low = (record { stands = stands_alone (setup_at x.identity p); frames = (setup_framed x.identity p is.geometry spelled.ids, tt); honest = ((λ its. (p, low, refl)), tt) }, tt)
setup_given x is spelled p false unit low = tt

pub beat_given : (x : Stream) → IsStream x → IsSpelled x → (p : ℕ) (beat : Bool) → p % 32 ≡ 0 → AllByRecursion (IsGiven x) (alone (heartbeats x.identity p beat))
beat_given x is spelled p true unit = (record { stands = stands_alone (heartbeat_at x.identity p); frames = (header_framed x.identity p is.geometry spelled.ids unit, tt); honest = (tt, tt) }, tt)
beat_given x is spelled p false unit = tt

pub setups_are_honest : HasOneReading → SetupsAreHonest
setups_are_honest law x is spelled p low ttl fits =
    let s = setup_framed x.identity p is.geometry spelled.ids in
    let w : Wire = SETUP (record (setup_fields x.identity p) { ttl = ttl }) in
    let given : IsGiven x (w ∷ []) = record { stands = stands_alone w; frames = ((s.0, s.1, s.2, s.3, s.4, s.5, s.6, fits), tt); honest = ((λ its. (p, low, refl)), tt) } in
    subst (IsHonest x) (append-nil (spelling w)) (honest_given law x ((w ∷ []) ∷ []) (given, tt)).0

-- ---- committed frames

frame_honest : (x : Stream) (p : ℕ) (f : Frame) → Among (record { at = p; frame = f }) (committed x.entries) → IsHonestFrame x (wire_at x.identity p f)
frame_honest x p (Data flags payload) h = λ its. (record { at = p; frame = Data flags payload }, h, refl)
frame_honest x p (Pad n) h = λ its. (record { at = p; frame = Pad n }, h, refl)

frames_honest : (x : Stream) (ss : List Placed) → AllAmong (committed x.entries) ss → AllByRecursion (IsHonestFrame x) (wires x.identity ss)
frames_honest x [] h = tt
frames_honest x (s ∷ ss) h = (frame_honest x s.at s.frame h.0, frames_honest x ss h.1)

frames_framed : (x : Stream) → IsSpelled x → (ss : List Placed) → AllAmong (committed x.entries) ss → AllByRecursion IsFrame (wires x.identity ss)
frames_framed x spelled [] h = tt
frames_framed x spelled (s ∷ ss) h = (all_at (λ t. IsFrame (wire_at x.identity t.at t.frame)) s (committed x.entries) spelled.frames h.0, frames_framed x spelled ss h.1)

pub placed_given : (x : Stream) → IsSpelled x → (ds : List (List Placed)) → AllByRecursion (λ d. StandTogether (wires x.identity d)) ds → AllAmong (committed x.entries) (frames_of ds) → AllByRecursion (IsGiven x) (map (wires x.identity) ds)
placed_given x spelled [] stand h = tt
placed_given x spelled (d ∷ ds) stand h =
    let here : AllAmong (committed x.entries) d = all_front (λ s. Among s (committed x.entries)) d (frames_of ds) h in (
      record { stands = stand.0; frames = frames_framed x spelled d here; honest = frames_honest x d here },
      placed_given x spelled ds stand.1 (all_behind (λ s. Among s (committed x.entries)) d (frames_of ds) h),
    )

-- ---- what was read

-- all that was read is committed, and so is what goes out of it
pub sent_among : (x : Stream) (frames reads : List Placed) (at to : ℕ) (sent : List (List Placed)) (Ended : Type 0) → AllAmong (committed x.entries) frames → AreRead frames at to reads → TakesAll sent reads Ended → AllAmong (committed x.entries) (frames_of sent)
sent_among x frames reads at to sent Ended known read takes =
    let all : AllAmong (committed x.entries) reads = all_from (λ s. Among s (committed x.entries)) reads (λ s a. all_at (λ t. Among t (committed x.entries)) s frames known (all_at (λ t. Among t frames) s reads read.among a)) in
    ⊎_elim
    (λ (e : (reads ≡ frames_of sent) × Ended). subst (AllAmong (committed x.entries)) e.0 all)
    (λ (e : (s : Placed) × (reads ≡ frames_of sent ++ s ∷ [])). all_front (λ s. Among s (committed x.entries)) (frames_of sent) (e.0 ∷ []) (subst (AllAmong (committed x.entries)) e.1 all))
    takes

pub fresh_given : (x : Stream) → IsSpelled x → (frames : List Placed) (at limit : ℕ) (ds : List (List Placed)) → AllAmong (committed x.entries) frames → GivesNew x.identity.geometry frames at limit ds → AllByRecursion (IsGiven x) (map (wires x.identity) ds)
fresh_given x spelled frames at limit ds known h =
    let i = x.identity in let can = sendable limit h.reads in
    placed_given x spelled ds
    (subst (AllByRecursion (λ d. StandTogether (wires i d))) (sym h.sent_is) (all_take (λ d. StandTogether (wires i d)) 16 (grouped i.geometry can) (grouped_stand i i.geometry can)))
    (sent_among x frames h.reads at h.to ds _ known h.read h.ends)

pub again_given : (x : Stream) → IsSpelled x → (frames : List Placed) (range : Option Gap) (ds : List (List Placed)) → AllAmong (committed x.entries) frames → GivesAgain x.identity.geometry frames range ds → AllByRecursion (IsGiven x) (map (wires x.identity) ds)
again_given x spelled frames None ds known h = subst (λ (ss : List (List Placed)). AllByRecursion (IsGiven x) (map (wires x.identity) ss)) (sym h) tt
again_given x spelled frames (Some range) ds known h =
    let i = x.identity in
    placed_given x spelled ds
    (subst (AllByRecursion (λ d. StandTogether (wires i d))) (sym h.sent_is) (all_take (λ d. StandTogether (wires i d)) 15 (grouped i.geometry h.reads) (grouped_stand i i.geometry h.reads)))
    (sent_among x frames h.reads range.start h.to ds _ known h.read h.ends)
