-- Each line of the sender leaves a sound state.
use Rattle.std.proofs.Common.{◌≡◌, ◌⊎◌, ℕ, ◌+◌, ◌/◌, ◌%◌, ◌^◌, ◌<◌, ◌≤◌, List, [], ◌∷◌, ◌++◌, map, Bool, true, false, Option, None, Some, inl, inr, ⊎_elim, refl, sym, ap, ◌∙◌, subst, arith}
use Rattle.std.specs.List.{AllByRecursion, filter}
use Rattle.std.specs.Prelude.{nat_le, pos, FitsSigned}
use Rattle.std.specs.Int.{w32, cast_unsigned}
use Rattle.std.proofs.lemmas.Bool.{cases_Bool, cond-true, cond-false}
use mir.ValLaws.{to_z-Fits}
use Rattle.std.proofs.Math.Nat.{mod-lt}
use Rattle.theory.specs.Position.{Geometry, IsGeometry, Place, max_position, place_of}
use Rattle.theory.specs.Placed.{Among, Placed}
use Rattle.theory.specs.Entry.{committed}
use Rattle.theory.specs.Bytes.{Identity, IsIdentity, header_at}
use Rattle.theory.specs.Control.{setup_at}
use Rattle.theory.specs.Datagrams.{frames_of, grouped, sendable, wires}
use Rattle.theory.specs.Resend.{Action, first_due, is_resent}
use Rattle.theory.specs.Wire.{IsFrame, IsHeader, StandTogether, Wire}
use Rattle.theory.proofs.Follow.{chain_span}
use Rattle.theory.proofs.Lists.{all_append, all_from, among_left, among_right}
use Rattle.theory.proofs.Places.{mod_unit, power_unit}
use Rattle.model.specs.Sender.{Sender}
use Rattle.model.proofs.Datagrams.{grouped_stand}
use Rattle.model.proofs.Sizes.{all_take}
use Rattle.sender.specs.Naming.{Naming, after_due}
use Rattle.sender.specs.Sending.{named_once}
use Rattle.sender.specs.Cycling.{AsksSetup, Cycle, GivesNew, Misses, NewsContent, Says, TellsNothing, Unreadable, alone, datagrams, heartbeats, setups}
use Rattle.script.specs.Meaning as commands
use Rattle.script.specs.Meaning.{CommandContent}
use Rattle.script_meaning.specs.Answers.{Hears, IsCycle, IsMissing, Replied, SenderHears, Sends, after_cycle, again_for, behind_new, clock_at, cycled, cycle_limit, given_out, have_all_come, heard, missed, named, wires_of, with_sender, woken}
use Rattle.script_meaning.specs.LineContents.{LineContent}
use Rattle.script_meaning.specs.Published.{Played}
use Rattle.script_meaning.specs.ScriptState.{ScriptState, entries_of, lone, opened_state, world_of, seat_of}
use Rattle.script_meaning.specs.Standing.{Begins}
use Rattle.script_meaning.proofs.Honest.{AreGiven, IsGiven, IsHonest, alone_given, honest_given, honest_more, placed_datagrams}
use Rattle.script_meaning.proofs.Runs.{Goes, goes_on}
use Rattle.script_meaning.proofs.SenderRuns.{asked, cycles, hears, misses, sees}
use Rattle.script_meaning.proofs.Seen.{and_line}
use Rattle.script_meaning.proofs.Sound.{IsQuiet, IsSound, Laws, SaysNoRange, followed_stays, law_of, legal, readers_stay, sender_below, tail_low}
use Rattle.script_meaning.proofs.SoundLines.{matches_stay, missing_line}

-- ---- another sender

-- it sent and named no less, no SETUP stands above the end of the stream, and these datagrams went out
record IsSenderNext (i : Identity) (only : ℕ) (s t : ScriptState) (x : Sender) (sent : List (List Wire)) : Type 0 where
  goes : Goes (world_of (lone only s)) (world_of (lone only t))
  more : (p : Placed) → Among p s.sender.sent → Among p x.sent
  named : (p : ℕ) → Among p s.sender.setups → Among p x.setups
  given : AreGiven i x sent
  setups : AllByRecursion (λ p. p ≤ max_position i.geometry) x.setups

-- the state with another sender, more packets, and what the sender remembers of its SETUPs and of its last frames
abbrev sender_scene : ScriptState → Sender → Naming → Option ℕ → List (List Wire) → ScriptState
sender_scene s x naming last sent = record (given_out s sent) { log = record s.log { consumers = Some x.at ∷ map seat_of s.readers }; sender = x; naming = naming; last = last }

sender_line : (i : Identity) (group : Option ℕ) (start readers only : ℕ) (played : List Played) (command : CommandContent) (lines : List LineContent) (s : ScriptState) (x : Sender) (naming : Naming) (last : Option ℕ) (sent : List (List Wire)) → IsQuiet command lines → SaysNoRange command lines → IsSenderNext i only s (sender_scene s x naming last sent) x sent → IsSound i group start readers only played s → IsSound i group start readers only (and_line played command lines) (sender_scene s x naming last sent)
sender_line i group start readers only played command lines s x naming last sent quiet none n h =
    let t = sender_scene s x naming last sent in
    record {
      runs = goes_on (world_of (opened_state i group start readers)) (world_of (lone only s)) (world_of (lone only t)) h.runs n.goes;
      identity = h.identity;
      start_is = h.start_is;
      consumers = refl;
      named = n.setups;
      forgotten = h.forgotten;
      honest = all_append (IsHonest i x) s.packets (datagrams sent) (honest_more i s.sender x s.packets n.more n.named h.honest) (honest_given i x sent n.given);
      matches = matches_stay i.geometry played command lines (entries_of s) none h.matches;
      eight = h.eight;
      followed = followed_stays i played command lines s t only (quiet.joins only, quiet.polls only) refl h.followed;
      reading = readers_stay start readers played command lines s t quiet.reads refl h.reading;
    }

low_at : Laws → (i : Identity) (group : Option ℕ) (start readers only : ℕ) (played : List Played) (s : ScriptState) → Begins i start → IsSound i group start readers only played s → s.sender.at ≤ max_position i.geometry
low_at laws i group start readers only played s b h = omega (arith, tail_low laws i group start readers only played s b h, sender_below laws i group start readers only s b h.runs)

named_low : (x : Sender) (due : Bool) (most : ℕ) → x.at ≤ most → AllByRecursion (λ p. p ≤ most) x.setups → AllByRecursion (λ p. p ≤ most) (named x due).setups
named_low x true most low all = (low, all)
named_low x false most low all = all

named_more : (x : Sender) (due : Bool) (p : ℕ) → Among p x.setups → Among p (named x due).setups
named_more x true p h = inr h
named_more x false p h = h

named_sent : (x : Sender) (due : Bool) → (named x due).sent ≡ x.sent
named_sent x true = refl
named_sent x false = refl

-- ---- what goes out is of the grammar

place_low : (g : Geometry) (p : ℕ) → IsGeometry g → p % 32 ≡ 0 → ((place_of g p).offset ≤ g.term_length) × ((place_of g p).offset % 32 ≡ 0)
place_low g p legal unit =
    let some : 0 < g.term_length = omega (arith, legal.term.least) in
    let term : g.term_length % 32 ≡ 0 = power_unit g.term_length legal.term.power legal.term.least in
    let last : Place = record { count = 2147483647; offset = g.term_length } in
    let here : Place = record { count = p / g.term_length; offset = p % g.term_length } in
    ⊎_elim
    (λ (t : nat_le (max_position g) p ≡ true). let same : (place_of g p).offset ≡ g.term_length = ap (λ (x : Place). x.offset) (cond-true (nat_le (max_position g) p) last here t) in (omega (arith, same), omega (arith, same, term)))
    (λ (f : nat_le (max_position g) p ≡ false). let same : (place_of g p).offset ≡ p % g.term_length = ap (λ (x : Place). x.offset) (cond-false (nat_le (max_position g) p) last here f) in (omega (arith, same, mod-lt p some), ap (λ x. x % 32) same ∙ mod_unit p g.term_length some term unit))
    (cases_Bool (nat_le (max_position g) p))

small : (n : ℕ) → n < 2147483648 → FitsSigned w32 (pos n)
small n h = record { sfits = omega (arith, h) }

setup_framed : (i : Identity) (p : ℕ) → IsGeometry i.geometry → IsIdentity i → p % 32 ≡ 0 → IsFrame (setup_at i p)
setup_framed i p legal is unit =
    let g = i.geometry in
    let offset = (place_low g p legal unit).0 in (
      small (place_of g p).offset (omega (arith, offset, legal.term.greatest)),
      is.session,
      is.stream,
      legal.initial,
      to_z-Fits w32 ((cast_unsigned w32 g.initial_term_id + (place_of g p).count) % 2 ^ 32) (record { fits = omega arith }),
      small g.term_length (omega (arith, legal.term.greatest)),
      small g.mtu (omega (arith, legal.mtu.greatest)),
      small 0 (omega arith),
    )

header_framed : (i : Identity) (p : ℕ) → IsGeometry i.geometry → IsIdentity i → p % 32 ≡ 0 → IsHeader (header_at i p)
header_framed i p legal is unit =
    let place = place_low i.geometry p legal unit in
    record {
      unit = place.1;
      low = omega (arith, place.0, legal.term.greatest);
      session = is.session;
      stream = is.stream;
      term_id = to_z-Fits w32 ((cast_unsigned w32 i.geometry.initial_term_id + (place_of i.geometry p).count) % 2 ^ 32) (record { fits = omega arith });
      reserved = record { sfits = omega arith };
    }

-- its SETUP, which is named by a sender that names no less
setup_given : (i : Identity) (x z : Sender) (due : Bool) → IsGeometry i.geometry → IsIdentity i → x.at % 32 ≡ 0 → z.setups ≡ (named x due).setups → AreGiven i z (alone (setups i x.at due))
setup_given i x z true legal is unit same = alone_given i z (setup_at i x.at ∷ []) (setup_framed i x.at legal is unit, tt) ((x.at, subst (Among x.at) (sym same) (inl refl), refl), tt)
setup_given i x z false legal is unit same = tt

beat_given : (i : Identity) (z : Sender) (at : ℕ) (beat : Bool) → IsGeometry i.geometry → IsIdentity i → at % 32 ≡ 0 → AreGiven i z (alone (heartbeats i at beat))
beat_given i z at true legal is unit = (record { stands = refl; frames = (header_framed i at legal is unit, tt); given = (tt, tt) }, tt)
beat_given i z at false legal is unit = tt

new_stand : (i : Identity) (g : Geometry) (frames : List Placed) (at limit : ℕ) (ds : List (List Placed)) → GivesNew g frames at limit ds → AllByRecursion (λ d. StandTogether (wires i d)) ds
new_stand i g frames at limit ds h =
    let can = sendable limit h.reads in
    subst (AllByRecursion (λ d. StandTogether (wires i d))) (sym h.sent_is) (all_take (λ d. StandTogether (wires i d)) 16 (grouped g can) (grouped_stand i g can))

again_stand : (i : Identity) (g : Geometry) (x : Sender) (o : Option Action) → AllByRecursion (λ d. StandTogether (wires i d)) (again_for g x o)
again_stand i g x None = tt
again_stand i g x (Some a) =
    let range = filter (is_resent g x.at a) x.passed in
    all_take (λ d. StandTogether (wires i d)) 15 (grouped g range) (grouped_stand i g range)

-- ---- a cycle

-- where the sender of a sound state stands
unit_at : Laws → (i : Identity) (group : Option ℕ) (start readers only : ℕ) (s : ScriptState) → Begins i start → s.log.start ≡ start → Goes (world_of (opened_state i group start readers)) (world_of (lone only s)) → s.sender.at % 32 ≡ 0
unit_at laws i group start readers only s b from runs =
    let span = chain_span s.log.start s.sender.at s.sender.passed (law_of laws.passed i group start readers only s b runs).chain in
    omega (arith, span.1, from, b.unit)

-- each datagram stands in the grammar, and its frames were sent or named
cycle_given : Laws → (i : Identity) (group : Option ℕ) (start readers only : ℕ) (played : List Played) (s : ScriptState) (now : ℕ) (y : Cycle) → Begins i start → IsSound i group start readers only played s → IsCycle s now y → Goes (world_of (opened_state i group start readers)) (world_of (lone only (after_cycle s now y))) → AreGiven s.log.identity (cycled s now y) (wires_of s now y)
cycle_given laws i group start readers only played s now y b h c runs =
    let j = s.log.identity in
    let g = j.geometry in
    let z = cycled s now y in
    let is : IsIdentity j = subst IsIdentity (sym h.identity) b.identity in
    let good = legal i group start readers only played s b h in
    let new = frames_of y.fresh in
    let again = frames_of y.again in
    let before = (named s.sender y.setup).sent in
    let spelled = law_of laws.spelled i group start readers only (after_cycle s now y) b runs in
    let one = alone (setups j s.sender.at y.setup) in
    let two = map (wires j) y.fresh in
    let three = map (wires j) y.again in
    let first : AreGiven j z one = setup_given j s.sender z y.setup good is (unit_at laws i group start readers only s b h.start_is h.runs) refl in
    let second : AreGiven j z two = placed_datagrams j z y.fresh spelled (new_stand j g (committed s.log.entries) s.sender.at (cycle_limit s now) y.fresh c.new) (all_from (λ p. Among p z.sent) new (λ p a. among_right p again (new ++ before) (among_left p new before a))) in
    let stand : AllByRecursion (λ d. StandTogether (wires j d)) y.again = subst (AllByRecursion (λ d. StandTogether (wires j d))) (sym c.again) (again_stand j g (behind_new s now y) (first_due (behind_new s now y).actions)) in
    let third : AreGiven j z three = placed_datagrams j z y.again spelled stand (all_from (λ p. Among p z.sent) again (λ p a. among_left p again (new ++ before) a)) in
    let last : AreGiven j z (alone (heartbeats j z.at y.beat)) = beat_given j z z.at y.beat good is (unit_at laws i group start readers only (after_cycle s now y) b h.start_is runs) in
    all_append (IsGiven j z) ((one ++ two) ++ three) (alone (heartbeats j z.at y.beat)) (all_append (IsGiven j z) (one ++ two) three (all_append (IsGiven j z) one two first second) third) last

cycle_next : Laws → (i : Identity) (group : Option ℕ) (start readers only : ℕ) (played : List Played) (s : ScriptState) (now : ℕ) (y : Cycle) → Begins i start → IsSound i group start readers only played s → IsCycle s now y → IsSenderNext i only s (after_cycle s now y) (cycled s now y) (wires_of s now y)
cycle_next laws i group start readers only played s now y b h c =
    let z = cycled s now y in
    let goes : Goes (world_of (lone only s)) (world_of (lone only (after_cycle s now y))) = cycles (lone only s) now y (record { setup = c.setup; new = c.new; again = c.again; beat = c.beat }) in
    let runs = goes_on (world_of (opened_state i group start readers)) (world_of (lone only s)) (world_of (lone only (after_cycle s now y))) h.runs goes in
    record {
      goes = goes;
      more = λ p a. among_right p (frames_of y.again) (frames_of y.fresh ++ (named s.sender y.setup).sent) (among_right p (frames_of y.fresh) (named s.sender y.setup).sent (subst (Among p) (sym (named_sent s.sender y.setup)) a));
      named = λ p a. named_more s.sender y.setup p a;
      given = subst (λ j. AreGiven j z (wires_of s now y)) h.identity (cycle_given laws i group start readers only played s now y b h c runs);
      setups = named_low s.sender y.setup (max_position i.geometry) (low_at laws i group start readers only played s b h) h.named;
    }

pub send_line : Laws → (i : Identity) (group : Option ℕ) (start readers only : ℕ) (played : List Played) (s t : ScriptState) (now : ℕ) (lines : List LineContent) → Begins i start → IsSound i group start readers only played s → Sends s now lines t → IsSound i group start readers only (and_line played (commands.Send now) lines) t
send_line laws i group start readers only played s t now lines b h m =
    let y = m.0 in
    subst (λ x. IsSound i group start readers only (and_line played (commands.Send now) lines) x) (sym m.3)
    (sender_line i group start readers only played (commands.Send now) lines s (cycled s now y) (after_due s.naming (clock_at s now)) (after_cycle s now y).last (wires_of s now y) (record { joins = λ k. refl; polls = λ k. refl; reads = λ k. (refl, refl) }) (λ g ranges. refl) (cycle_next laws i group start readers only played s now y b h m.1) h)

-- ---- what the sender is told

-- it has sent and named what it had
record IsAsBefore (s : ScriptState) (x : Sender) : Type 0 where
  at : x.at ≡ s.sender.at
  sent : x.sent ≡ s.sender.sent
  setups : x.setups ≡ s.sender.setups

told_line : (i : Identity) (group : Option ℕ) (start readers only : ℕ) (played : List Played) (command : CommandContent) (lines : List LineContent) (s : ScriptState) (x : Sender) (naming : Naming) → IsQuiet command lines → SaysNoRange command lines → IsAsBefore s x → Goes (world_of (lone only s)) (world_of (lone only (record s { sender = x }))) → IsSound i group start readers only played s → IsSound i group start readers only (and_line played command lines) (record s { sender = x; naming = naming })
told_line i group start readers only played command lines s x naming quiet none same goes h =
    let t = record s { sender = x; naming = naming } in
    record {
      runs = goes_on (world_of (opened_state i group start readers)) (world_of (lone only s)) (world_of (lone only t)) h.runs goes;
      identity = h.identity;
      start_is = h.start_is;
      consumers = h.consumers ∙ ap (λ p. Some p ∷ map seat_of s.readers) (sym same.at);
      named = subst (λ xs. AllByRecursion (λ p. p ≤ max_position i.geometry) xs) (sym same.setups) h.named;
      forgotten = h.forgotten;
      honest = honest_more i s.sender x s.packets (λ p a. subst (λ xs. Among p xs) (sym same.sent) a) (λ p a. subst (λ xs. Among p xs) (sym same.setups) a) h.honest;
      matches = matches_stay i.geometry played command lines (entries_of s) none h.matches;
      eight = h.eight;
      followed = followed_stays i played command lines s t only (quiet.joins only, quiet.polls only) refl h.followed;
      reading = readers_stay start readers played command lines s t quiet.reads refl h.reading;
    }

-- the sender stands where it stood
told_scene : (s : ScriptState) (x : Sender) (sent : List (List Wire)) → s.log.consumers ≡ Some x.at ∷ map seat_of s.readers → sender_scene s x s.naming s.last sent ≡ record (given_out s sent) { sender = x }
told_scene s x sent one = ap (λ xs. record (given_out s sent) { log = record s.log { consumers = xs }; sender = x }) (sym one)

asked_line : Laws → (i : Identity) (group : Option ℕ) (start readers only : ℕ) (played : List Played) (command : CommandContent) (now : ℕ) (lines : List LineContent) (s : ScriptState) → Begins i start → IsQuiet command lines → SaysNoRange command lines → IsSound i group start readers only played s → IsSound i group start readers only (and_line played command lines) (with_sender (given_out s (alone (setup_at s.log.identity s.sender.at ∷ []))) (named (woken s now) true))
asked_line laws i group start readers only played command now lines s b quiet none h =
    let x = named (woken s now) true in
    let sent = alone (setup_at s.log.identity s.sender.at ∷ []) in
    let given : AreGiven s.log.identity x sent = setup_given s.log.identity (woken s now) x true (legal i group start readers only played s b h) (subst IsIdentity (sym h.identity) b.identity) (unit_at laws i group start readers only s b h.start_is h.runs) refl in
    subst (λ t. IsSound i group start readers only (and_line played command lines) t) (told_scene s x sent h.consumers)
    (sender_line i group start readers only played command lines s x s.naming s.last sent quiet none (record {
      goes = asked (lone only s) now;
      more = λ p a. a;
      named = λ p a. inr a;
      given = subst (λ j. AreGiven j x sent) h.identity given;
      setups = (low_at laws i group start readers only played s b h, h.named);
    }) h)

hears_line : Laws → (i : Identity) (group : Option ℕ) (start readers only : ℕ) (played : List Played) (command : CommandContent) (now : ℕ) (lines : List LineContent) (s t : ScriptState) (news : NewsContent) → Begins i start → IsQuiet command lines → SaysNoRange command lines → IsSound i group start readers only played s → SenderHears s now news lines t → IsSound i group start readers only (and_line played command lines) t
hears_line laws i group start readers only played command now lines s t (Says f) b quiet none h m =
    subst (λ x. IsSound i group start readers only (and_line played command lines) x) (sym m.1) (told_line i group start readers only played command lines s (heard s now f) (named_once (have_all_come s.sender.group (heard s now f).heard) s.naming) quiet none (record { at = refl; sent = refl; setups = refl }) (hears (lone only s) now f) h)
hears_line laws i group start readers only played command now lines s t AsksSetup b quiet none h m =
    subst (λ x. IsSound i group start readers only (and_line played command lines) x) (sym m.1) (asked_line laws i group start readers only played command now lines s b quiet none h)
hears_line laws i group start readers only played command now lines s t (Misses f) b quiet none h m =
    subst (λ x. IsSound i group start readers only (and_line played command lines) x) (sym m.3) (told_line i group start readers only played command lines s (missed s now f) s.naming quiet none (record { at = refl; sent = refl; setups = refl }) (misses (lone only s) now f) h)
hears_line laws i group start readers only played command now lines s t TellsNothing b quiet none h m =
    subst (λ x. IsSound i group start readers only (and_line played command lines) x) (sym m.1) (told_line i group start readers only played command lines s (woken s now) s.naming quiet none (record { at = refl; sent = refl; setups = refl }) (sees (world_of (lone only s)) now) h)
hears_line laws i group start readers only played command now lines s t (Unreadable fault) b quiet none h m =
    subst (λ x. IsSound i group start readers only (and_line played command lines) x) (sym m.1) (told_line i group start readers only played command lines s (woken s now) s.naming quiet none (record { at = refl; sent = refl; setups = refl }) (sees (world_of (lone only s)) now) h)

pub back_line : Laws → (i : Identity) (group : Option ℕ) (start readers only : ℕ) (played : List Played) (now : ℕ) (bytes : List ℕ) (lines : List LineContent) (s t : ScriptState) → Begins i start → IsSound i group start readers only played s → Hears s now bytes lines t → IsSound i group start readers only (and_line played (commands.RawBack now bytes) lines) t
back_line laws i group start readers only played now bytes lines s t b h m = hears_line laws i group start readers only played (commands.RawBack now bytes) now lines s t m.0 b (record { joins = λ n. refl; polls = λ n. refl; reads = λ n. (refl, refl) }) (λ g ranges. refl) h m.2

pub reply_line : Laws → (i : Identity) (group : Option ℕ) (start readers only : ℕ) (played : List Played) (k now : ℕ) (lines : List LineContent) (s t : ScriptState) → Begins i start → IsSound i group start readers only played s → IsMissing s k lines t ⊎ Replied s k now lines t → IsSound i group start readers only (and_line played (commands.Reply k now) lines) t
reply_line laws i group start readers only played k now lines s t b h (inl m) = missing_line i group start readers only played (commands.Reply k now) k lines s t (record { joins = λ n. refl; polls = λ n. refl; reads = λ n. (refl, refl) }) (λ g ranges. refl) h m
reply_line laws i group start readers only played k now lines s t b h (inr m) = hears_line laws i group start readers only played (commands.Reply k now) now lines s t m.2.0 b (record { joins = λ n. refl; polls = λ n. refl; reads = λ n. (refl, refl) }) (λ g ranges. refl) h m.2.2
