-- The life of a log's sender: a cycle is a part of it, and what it gives out is honest for its stream.
use Rattle.std.proofs.Common.{◌≡◌, ◌<◌, ◌≤◌, ℕ, suc, List, [], ◌∷◌, ◌++◌, Bool, Result, Ok, Err, inl, inr, refl, sym, subst, arith}
use Rattle.std.specs.List.{AllByRecursion}
use Rattle.theory.specs.Entry.{committed}
use Rattle.theory.specs.Laws.{HasOneReading}
use Rattle.theory.specs.Placed.{AllAmong, Among}
use Rattle.theory.proofs.Lists.{all_append, all_at, all_from}
use Rattle.conductor.specs.Parties.{ClientSeen}
use Rattle.endpoint.specs.Devices.{Device}
use Rattle.endpoint.specs.declared.device_error.DeviceError.{DeviceError}
use Rattle.flow_control.specs.Stream.{has_heard_of, reached_of, status_after, tick_after}
use Rattle.flow_control.specs.declared.stream.StreamFlow.{StreamFlow}
use Rattle.frame_source.specs.Sources.{Source}
use Rattle.shared_log.specs.Readers.{misses_of}
use Rattle.shared_log.specs.Sourced.{Grows, StaysOn, frames_stay, stays_on}
use Rattle.shared_log.specs.declared.reader.source.LogFrames.{LogFrames}
use Rattle.agents.specs.Cycles.{HearsAll}
use Rattle.agents.specs.Duties.{Agent, AgentCycle}
use Rattle.agents.specs.Rounds.{WaysFault}
use Rattle.receiver.specs.Lives.{IsHonest, IsStream, Stream}
use Rattle.sender_meaning.specs.Lives.{Hears, IsSpelled, SendsStream, Ticks, looked_in, source_in}
use Rattle.sender_meaning.specs.Moments.{CyclesAt, HearsThere, StreamCore, TicksThere}
use Rattle.sender_meaning.specs.StreamLives.{Acts, GoesOnBy, IsAct, LooksAtItsEnd, OneNeverRegroups, Regroups, StreamAct, StreamGivesHonest, StreamKeepsItsReader, StreamLived, StreamLivedTo, StreamLives, given_in_all}
use Rattle.sender_meaning.proofs.Living.{hears, ticks}
use Rattle.sender_meaning.proofs.Moments.{ways_cycle, ways_heard}

lives_on : (n : ℕ) (s m t : StreamCore) (xs ys : List StreamAct) → StreamLives n s xs m → StreamLives n m ys t → StreamLives n s (xs ++ ys) t
lives_on n s m t [] ys first then = subst (λ (z : StreamCore). StreamLives n z ys t) first then
lives_on n s m t (x ∷ xs) ys first then = (first.0, first.1, lives_on n first.0 m t xs ys first.2 then)

pub lived_same : (n : ℕ) (s t : StreamCore) → t ≡ s → StreamLived n s t
lived_same n s t same = record { acts = []; lives = same }

pub lived_on : (n : ℕ) (s m t : StreamCore) → StreamLived n s m → StreamLived n m t → StreamLived n s t
lived_on n s m t a b = record { acts = a.acts ++ b.acts; lives = lives_on n s m t a.acts b.acts a.lives b.lives }

pub lived_to_on : (n now : ℕ) (s m t : StreamCore) → StreamLived n s m → StreamLivedTo n now m t → StreamLivedTo n now s t
lived_to_on n now s m t before then = record { heard = then.heard; lived = lived_on n s m then.heard before then.lived; given = then.given; told = then.told }

-- by another group of as many as it was
pub lived_by : (n size : ℕ) (s t : StreamCore) → GoesOnBy n size s t → StreamLived n s t
lived_by n size s t by = record { acts = Regroups size ∷ []; lives = (t, by, refl) }

-- one that never regroups lives so whatever destinations it has
lives_any : (n : ℕ) (s t : StreamCore) (acts : List StreamAct) → StreamLives 0 s acts t → StreamLives n s acts t
lives_any n s t [] h = h
lives_any n s t (Acts act ∷ acts) h = (h.0, h.1, lives_any n h.0 t acts h.2)
lives_any n s t (Regroups size ∷ acts) h = let fewer = h.1.fewer in absurd (omega (arith, fewer))

pub lived_any : (n : ℕ) (s t : StreamCore) → StreamLived 0 s t → StreamLived n s t
lived_any n s t a = record { acts = a.acts; lives = lives_any n s t a.acts a.lives }

pub lived_to_any : (n now : ℕ) (s t : StreamCore) → StreamLivedTo 0 now s t → StreamLivedTo n now s t
lived_to_any n now s t a = record { heard = a.heard; lived = lived_any n s a.heard a.lived; given = a.given; told = a.told }

all_heard : (n now : ℕ) (s t : StreamCore) (datagrams given : List (List ℕ)) → HearsAll HearsThere now s datagrams t given → StreamLived n s t
all_heard n now s t [] given all = record { acts = []; lives = all.0 }
all_heard n now s t (d ∷ ds) given all = let rest = all_heard n now all.0 t ds all.2 all.4 in record { acts = Acts (Hears now d all.1) ∷ rest.acts; lives = (all.0, all.3, rest.lives) }

ticked : (n now : ℕ) (s t : StreamCore) (given : List (List ℕ)) → TicksThere s now t given → StreamLived n s t
ticked n now s t given h = record { acts = Acts (Ticks now given) ∷ []; lives = (t, h, refl) }

-- ---- a cycle

pub cycle_lived_to : (n now : ℕ) (s t : StreamCore) → CyclesAt now s t → StreamLivedTo n now s t
cycle_lived_to n now s t c = record { heard = c.heard; lived = all_heard n now s c.heard c.datagrams c.answers c.all; given = c.given; told = c.told }

to_lived : (n now : ℕ) (s t : StreamCore) → StreamLivedTo n now s t → StreamLived n s t
to_lived n now s t l = lived_on n s l.heard t l.lived (ticked n now l.heard t l.given l.told)

fault_lived : {D : Type 0} (n now : ℕ) (device : D → Device) (tells : D → Type 0) (turned : D → ℕ → D) (ways : ℕ) (why : DeviceError) (s t : StreamCore) (d e : D) → WaysFault HearsThere TicksThere now device tells turned ways why s d t e → StreamLived n s t
fault_lived {D} n now device tells turned ways why s t d e (inl f) =
    let heard = ways_heard now device tells turned f.way f.any s f.middle d f.between f.heard in
    lived_on n s f.middle t (all_heard n now s f.middle heard.0 heard.1 heard.2) (all_heard n now f.middle t f.stopped.heard f.stopped.given f.stopped.all_heard)
fault_lived {D} n now device tells turned ways why s t d e (inr f) =
    let heard = ways_heard now device tells turned ways f.any s f.middle d f.between f.heard in
    lived_on n s f.middle t (all_heard n now s f.middle heard.0 heard.1 heard.2) (ticked n now f.middle t f.ticked.given f.ticked.ticked)

-- with a fault, too, it has lived on
pub ways_lived : {D : Type 0} (n now : ℕ) (device : D → Device) (tells : D → Type 0) (turned : D → ℕ → D) (ways : ℕ) (a b : Agent LogFrames StreamFlow) (c after : ClientSeen) (d e : D) (result : Result Bool DeviceError) → AgentCycle HearsThere TicksThere now device tells turned ways a c d result b after e → StreamLived n a.core b.core
ways_lived {D} n now device tells turned ways a b c after d e (Ok busy) h =
    to_lived n now a.core b.core (cycle_lived_to n now a.core b.core (ways_cycle now device tells turned ways a b c after d e (Ok busy) h))
ways_lived {D} n now device tells turned ways a b c after d e (Err why) h = fault_lived n now device tells turned ways why a.core b.core d e h.fault

-- ---- its reader

lives_reading : (n : ℕ) (s t : StreamCore) (acts : List StreamAct) → StreamLives n s acts t → StaysOn s.reads.log.now s.reads.reader t.reads.log.now t.reads.reader
lives_reading n s t [] e = subst (λ (z : StreamCore). StaysOn s.reads.log.now s.reads.reader z.reads.log.now z.reads.reader) (sym e) (frames_stay s.reads.log.now s.reads.reader)
lives_reading n s t (Acts (Hears now bytes given) ∷ acts) m = (stays_on s.reads.log.now s.reads.reader m.0.reads.log.now m.0.reads.reader t.reads.log.now t.reads.reader tt tt tt m.1.left (lives_reading n m.0 t acts m.2, refl)).0
lives_reading n s t (Acts (Ticks now given) ∷ acts) m = (stays_on s.reads.log.now s.reads.reader m.0.reads.log.now m.0.reads.reader t.reads.log.now t.reads.reader tt tt tt m.1.left (lives_reading n m.0 t acts m.2, refl)).0
lives_reading n s t (Regroups size ∷ acts) m = subst (λ (z : StreamCore). StaysOn z.reads.log.now z.reads.reader t.reads.log.now t.reads.reader) m.1.is (lives_reading n m.0 t acts m.2)

pub keeps_its_reader : StreamKeepsItsReader
keeps_its_reader n s t h = lives_reading n s t h.acts h.lives

-- ---- what it gives out

known_on : (n : ℕ) (s t : StreamCore) (acts : List StreamAct) → StreamLives n s acts t → Grows (source_in s.reads).frames (source_in t.reads).frames
known_on n s t [] e f a = subst (λ (z : StreamCore). Among f (source_in z.reads).frames) (sym e) a
known_on n s t (Acts (Hears now bytes given) ∷ acts) m f a = known_on n m.0 t acts m.2 f (subst (λ (z : Source). Among f z.frames) (sym m.1.hears.same) a)
known_on n s t (Acts (Ticks now given) ∷ acts) m f a = known_on n m.0 t acts m.2 f (m.1.cycles.reads.grows f a)
known_on n s t (Regroups size ∷ acts) m f a = known_on n m.0 t acts m.2 f (subst (λ (z : StreamCore). Among f (source_in z.reads).frames) (sym m.1.is) a)

lives_honest : HasOneReading → (x : Stream) → IsStream x → IsSpelled x → (n : ℕ) (s t : StreamCore) (acts : List StreamAct) → SendsStream x s → StreamLives n s acts t → AllAmong (committed x.entries) (source_in t.reads).frames
    → AllByRecursion (IsHonest x) (given_in_all acts) × SendsStream x t
lives_honest law x is spelled n s t [] h e known = (tt, subst (λ (z : StreamCore). SendsStream x z) (sym e) h)
lives_honest law x is spelled n s t (Acts (Hears now bytes given) ∷ acts) h m known =
    let u = m.0 in
    let step = hears status_after reached_of has_heard_of law x is spelled s u now bytes given h m.1 in
    let rest = lives_honest law x is spelled n u t acts step.1 m.2 known in
    (all_append (IsHonest x) given (given_in_all acts) step.0 rest.0, rest.1)
lives_honest law x is spelled n s t (Acts (Ticks now given) ∷ acts) h m known =
    let u = m.0 in
    let before : AllAmong (committed x.entries) (source_in u.reads).frames =
    all_from (λ f. Among f (committed x.entries)) (source_in u.reads).frames (λ f a. all_at (λ g. Among g (committed x.entries)) f (source_in t.reads).frames known (known_on n u t acts m.2 f a)) in
    let step = ticks looked_in tick_after reached_of law x is spelled s u now given h m.1 before in
    let rest = lives_honest law x is spelled n u t acts step.1 m.2 known in
    (all_append (IsHonest x) given (given_in_all acts) step.0 rest.0, rest.1)
lives_honest law x is spelled n s t (Regroups size ∷ acts) h m known =
    lives_honest law x is spelled n m.0 t acts (subst (λ (z : StreamCore). SendsStream x z) (sym m.1.is) (record { identity = h.identity; unit = h.unit; low = h.low })) m.2 known

pub gives_honest : HasOneReading → StreamGivesHonest
gives_honest law x is spelled n s t acts h lives known = lives_honest law x is spelled n s t acts h lives known

-- ---- one destination

pub one_never_regroups : OneNeverRegroups
one_never_regroups s t [] h = tt
one_never_regroups s t (Acts act ∷ acts) h = (tt, one_never_regroups h.0 t acts h.2)
one_never_regroups s t (Regroups size ∷ acts) h = let some = h.1.some in let fewer = h.1.fewer in absurd (omega (arith, some, fewer))

-- ---- where new frames end

pub looks_at_its_end : LooksAtItsEnd
looks_at_its_end s t now given k all = let l = k.cycles.looked all in
    let until = l.until.0.looked in let look = l.look in let since = l.since.0.looked in
    more (misses_of s.reads.reader) (misses_of l.before.reader) (misses_of l.after.reader) (misses_of t.reads.reader) until look since
  where
    more : (a c d e : ℕ) → a ≤ c → d ≡ suc c → d ≤ e → a < e
    more a c d e x y z = omega arith
