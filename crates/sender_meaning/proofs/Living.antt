-- What a sender gives out at a datagram and at a moment is honest for its stream.
use Rattle.std.proofs.Common.{◌≡◌, ◌∙◌, ℕ, ℤ, ◌%◌, ◌≤◌, Bool, true, List, [], ◌∷◌, ◌++◌, map, sym, ap, subst}
use Rattle.std.specs.List.{AllByRecursion}
use Rattle.theory.specs.Bytes.{Identity}
use Rattle.theory.specs.Datagrams.{frames_of, wires}
use Rattle.theory.specs.Entry.{committed}
use Rattle.theory.specs.Laws.{HasOneReading}
use Rattle.theory.specs.Placed.{AllAmong, Among}
use Rattle.theory.specs.Position.{max_position}
use Rattle.theory.proofs.Lists.{all_append, all_at, all_from}
use Rattle.frame_source.specs.Sources.{Source}
use Rattle.shared_log.specs.Sourced.{Grows}
use Rattle.shared_log.specs.declared.reader.source.LogFrames.{LogFrames}
use Rattle.agents.specs.Duties as duties
use Rattle.sender.specs.Resending.Handler.{due_range}
use Rattle.sender.specs.Cycling.{AsksSetup, GivesAgain, GivesNew, Misses, NewsContent, Says, TellsNothing, Unreadable, alone, datagrams, heartbeats, sent_wires, setups}
use Rattle.sender.specs.Sending.{HearsNews, Sending, after_fresh, all_noted, at_moment}
use Rattle.sender.specs.declared.sender_core.SenderAnswer.{SenderAnswer}
use Rattle.receiver.specs.Lives.{IsHonest, IsStream, Stream}
use Rattle.sender_meaning.specs.Lives.{IsSpelled, SendsStream, source_in, stays_in}
use Rattle.sender_meaning.proofs.Honest.{IsGiven, again_given, beat_given, fresh_given, honest_given, setup_given}
use Rattle.sender_meaning.proofs.Standing.{stands_on}

moved : {F : Type 0} (x : Stream) (s t : Sending LogFrames F) → t.identity ≡ s.identity → t.handler.at ≡ s.handler.at → SendsStream x s → SendsStream x t
moved {F} x s t identity at h = record {
  identity = identity ∙ h.identity;
  unit = subst (λ (p : ℕ). p % 32 ≡ 0) (sym at) h.unit;
  low = subst (λ (p : ℕ). p ≤ max_position x.identity.geometry) (sym at) h.low;
}

-- ---- a moment

pub ticks : {F : Type 0} (looked : LogFrames → LogFrames → Type 0) (after_tick : F → ℕ → F) (reached : F → ℕ) → HasOneReading → (x : Stream) → IsStream x → IsSpelled x → (s t : Sending LogFrames F) (now : ℕ) (given : List (List ℕ)) → SendsStream x s
    → duties.Ticks source_in stays_in looked Grows after_tick reached s now t given → AllAmong (committed x.entries) (source_in t.reads).frames → AllByRecursion (IsHonest x) given × SendsStream x t
ticks {F} looked after_tick reached law x is spelled s t now given h k known =
    let c = k.cycles in
    let y = c.cycle in
    let i = x.identity in
    let p = s.handler.at in
    let limit = reached (after_tick (at_moment s now).flow (at_moment s now).clock) in
    let frames = (source_in t.reads).frames in
    let new : GivesNew i.geometry frames p limit y.fresh = subst (λ (j : Identity). GivesNew j.geometry frames p limit y.fresh) h.identity c.is.new in
    let range = due_range (after_fresh (at_moment s now) y) in
    let again : GivesAgain i.geometry frames range y.again = subst (λ (j : Identity). GivesAgain j.geometry frames range y.again) h.identity c.is.again in
    let stands = stands_on x is s.handler frames limit y.fresh known new h.unit h.low in
    let to : t.handler.at ≡ (all_noted s.handler (frames_of y.fresh)).at = ap (λ (z : Sending LogFrames F). z.handler.at) c.state in
    let there : SendsStream x t = record {
      identity = ap (λ (z : Sending LogFrames F). z.identity) c.state ∙ h.identity;
      unit = subst (λ (q : ℕ). q % 32 ≡ 0) (sym to) stands.0;
      low = subst (λ (q : ℕ). q ≤ max_position i.geometry) (sym to) stands.1;
    } in
    let one = alone (setups i p y.setup) in
    let two = map (wires i) y.fresh in
    let three = map (wires i) y.again in
    let four = alone (heartbeats i t.handler.at y.beat) in
    let first : AllByRecursion (IsGiven x) one = setup_given x is spelled p y.setup h.unit h.low in
    let second : AllByRecursion (IsGiven x) two = fresh_given x spelled frames p limit y.fresh known new in
    let third : AllByRecursion (IsGiven x) three = again_given x spelled frames range y.again known again in
    let last : AllByRecursion (IsGiven x) four = beat_given x is spelled t.handler.at y.beat there.unit in
    let all = all_append (IsGiven x) ((one ++ two) ++ three) four (all_append (IsGiven x) (one ++ two) three (all_append (IsGiven x) one two first second) third) last in
    let sent : given ≡ datagrams (sent_wires i p t.handler.at y) = c.sends ∙ ap (λ (j : Identity). datagrams (sent_wires j p t.handler.at y)) h.identity in
    (subst (AllByRecursion (IsHonest x)) (sym sent) (honest_given law x (sent_wires i p t.handler.at y) all), there)

-- ---- a datagram

none_given : (x : Stream) (sent : List (List ℕ)) → sent ≡ [] → AllByRecursion (IsHonest x) sent
none_given x sent none = subst (AllByRecursion (IsHonest x)) (sym none) tt

by_news : {F : Type 0} → HasOneReading → (after_status : F → ℤ → ℤ → ℤ → ℕ → F) (reached : F → ℕ) (has_heard : F → Bool) (x : Stream) → IsStream x → IsSpelled x → (s t : Sending LogFrames F) (news : NewsContent) (answer : SenderAnswer) (sent : List (List ℕ)) → SendsStream x s → HearsNews after_status reached has_heard s news answer t sent
    → AllByRecursion (IsHonest x) sent × SendsStream x t
by_news {F} law after_status reached has_heard x is spelled s t (Says f) answer sent h m = (none_given x sent m.2, moved x s t (ap (λ (z : Sending LogFrames F). z.identity) m.0) (ap (λ (z : Sending LogFrames F). z.handler.at) m.0) h)
by_news {F} law after_status reached has_heard x is spelled s t AsksSetup answer sent h m =
    let i = x.identity in
    let p = s.handler.at in
    let given : sent ≡ datagrams (alone (setups i p true)) = m.2 ∙ ap (λ (j : Identity). datagrams (alone (setups j p true))) h.identity in (
      subst (AllByRecursion (IsHonest x)) (sym given) (honest_given law x (alone (setups i p true)) (setup_given x is spelled p true h.unit h.low)),
      moved x s t (ap (λ (z : Sending LogFrames F). z.identity) m.0) (ap (λ (z : Sending LogFrames F). z.handler.at) m.0) h,
    )
by_news {F} law after_status reached has_heard x is spelled s t (Misses f) answer sent h m = (none_given x sent m.4, moved x s t (ap (λ (z : Sending LogFrames F). z.identity) m.3) (ap (λ (z : Sending LogFrames F). z.handler.at) m.3) h)
by_news {F} law after_status reached has_heard x is spelled s t TellsNothing answer sent h m = (none_given x sent m.2, moved x s t (ap (λ (z : Sending LogFrames F). z.identity) m.0) (ap (λ (z : Sending LogFrames F). z.handler.at) m.0) h)
by_news {F} law after_status reached has_heard x is spelled s t (Unreadable fault) answer sent h m = (none_given x sent m.2, moved x s t (ap (λ (z : Sending LogFrames F). z.identity) m.0) (ap (λ (z : Sending LogFrames F). z.handler.at) m.0) h)

pub hears : {F : Type 0} (after_status : F → ℤ → ℤ → ℤ → ℕ → F) (reached : F → ℕ) (has_heard : F → Bool) → HasOneReading → (x : Stream) → IsStream x → IsSpelled x → (s t : Sending LogFrames F) (now : ℕ) (bytes : List ℕ) (given : List (List ℕ)) → SendsStream x s
    → duties.Hears source_in stays_in after_status reached has_heard s now bytes t given → AllByRecursion (IsHonest x) given × SendsStream x t
hears {F} after_status reached has_heard law x is spelled s t now bytes given h m =
    by_news law after_status reached has_heard x is spelled (at_moment s now) t m.hears.hears.news m.hears.answer given (record { identity = h.identity; unit = h.unit; low = h.low }) m.hears.hears.hears
