-- Each line of a receiver leaves a sound state.
use Rattle.std.proofs.Common.{Option, ◌≡◌, ◌⊎◌, ℕ, ◌<◌, List, [], ◌∷◌, ◌++◌, map, Bool, true, false, cond, Some, inl, inr, ⊎_elim, refl, sym, ap, ◌∙◌, subst, arith, append-nil, append_assoc}
use Rattle.std.specs.Prelude.{nat_eq, slice_get}
use Rattle.std.specs.List.{AllByRecursion, flat_map}
use Rattle.std.proofs.lemmas.Bool.{cases_eq, cond-true, cond-false, eq-eqb, ne_eqb}
use Rattle.std.proofs.lemmas.List.{length-set, map-set, set-set}
use Rattle.std.proofs.lemmas.Option.{slice_get_within}
use Rattle.theory.specs.Bytes.{Identity}
use Rattle.theory.specs.Wire.{SpellsDatagram, Wire}
use Rattle.theory.proofs.Lists.{all_append, all_get}
use Rattle.script.specs.Meaning as commands
use Rattle.script.specs.Meaning.{CommandContent}
use Rattle.receiver.specs.declared.receiver_core.Outcome.{Outcome}
use Rattle.script_meaning.specs.Answers.{Answers, AreFrames, Delivered, IsMissing, PollsBy, GetsDatagram, TellsBy, Ticks, with_receiver}
use Rattle.sender.specs.Cycling.{alone, datagrams}
use Rattle.script_meaning.specs.LineContents.{LineContent, OfReceiver, poll_line as poll_content}
use Rattle.script_meaning.specs.Published.{AllWhole, AreHonestFrames, IsHonestLine, IsShort, Played, is_refusal, is_too_long, joined_by, joins, joins_in, joins_of, messages_in, polled, polled_by}
use Rattle.frames.specs.FaultCounts.{counted_at, place_of}
use Rattle.receiver.specs.Receiving.{TakesDatagram, MeetsAll, Receiver, at_moment, replies, ticked}
use Rattle.script_meaning.specs.ScriptState.{ScriptState, entries_of, image_of, lone, opened_state, world_of}
use Rattle.script_meaning.proofs.Honest.{AreEntering, AreHonest, IsHonest, all_entering, alone_given, frames_given_out, honest_given, printed_entering, replies_given}
use Rattle.script_meaning.proofs.Lone.{lone_other, lone_put}
use Rattle.script_meaning.specs.Standing.{Begins}
use Rattle.script_meaning.proofs.PollFollows.{StaysShort, StillWhole, polls_met, polls_short}
use Rattle.script_meaning.proofs.ReceiverRuns.{At, Follows, IsSending, Met, meets, no_more, numbers_of, unchanged}
use Rattle.script_meaning.proofs.Runs.{Goes, goes_on}
use Rattle.theory.proofs.Tables.{get_other, get_put}
use Rattle.script_meaning.proofs.Seen.{and_line}
use Rattle.script_meaning.proofs.Sound.{HasFollowed, IsSound, Laws, SaysNoRead, at_number, followed_stays, follows_as, follows_quiet, joins_more, opened, polled_more, readers_stay, sending, whole_parts, SaysNoRange}
use Rattle.script_meaning.proofs.SoundLines.{matches_stay, missing_line, same_state}

-- what holds of the receiver that is looked at and of each other one holds of a receiver
by_number : (P : ℕ → Type 0) (n only : ℕ) → P only → ((n ≡ only → ⊥) → P n) → P n
by_number P n only own other = ⊎_elim (λ (e : n ≡ only). subst P (sym e) own) other (cases_eq n only)

-- a line of receiver n, after which it is another one and there may be more packets
abbrev moved_scene : ScriptState → ℕ → Receiver → List (List ℕ) → ScriptState
moved_scene s n mid packets = record (with_receiver s n mid) { packets = packets }

receiver_line : (i : Identity) (group : Option ℕ) (start readers only : ℕ) (played : List Played) (command : CommandContent) (lines : List LineContent) (s : ScriptState) (n : ℕ) (mid : Receiver) (packets : List (List ℕ)) → Goes (world_of (opened_state i group start readers)) (world_of (lone only (with_receiver s n mid))) → AreHonest i s.sender packets → SaysNoRange command lines → SaysNoRead command lines → (only < 8 → HasFollowed i (and_line played command lines) (with_receiver s n mid) only) → IsSound i group start readers only played s → IsSound i group start readers only (and_line played command lines) (moved_scene s n mid packets)
receiver_line i group start readers only played command lines s n mid packets runs honest none quiet followed h = record {
  runs = runs;
  identity = h.identity;
  start_is = h.start_is;
  consumers = h.consumers;
  named = h.named;
  forgotten = h.forgotten;
  honest = honest;
  matches = matches_stay i.geometry played command lines (entries_of s) none h.matches;
  eight = length-set s.receivers n mid ∙ h.eight;
  followed = followed;
  reading = readers_stay start readers played command lines s (moved_scene s n mid packets) quiet refl h.reading;
}

-- it isn't the one that is looked at, of which the line says nothing
other_line : (i : Identity) (group : Option ℕ) (start readers only : ℕ) (played : List Played) (command : CommandContent) (lines : List LineContent) (s : ScriptState) (n : ℕ) (mid : Receiver) (packets : List (List ℕ)) → (n ≡ only → ⊥) → AreHonest i s.sender packets → (joined_by only command lines ≡ []) × (polled_by only command lines ≡ []) → SaysNoRange command lines → SaysNoRead command lines → IsSound i group start readers only played s → IsSound i group start readers only (and_line played command lines) (moved_scene s n mid packets)
other_line i group start readers only played command lines s n mid packets other honest silent none quiet h =
    receiver_line i group start readers only played command lines s n mid packets
    (subst (λ w. Goes (world_of (opened_state i group start readers)) w) (sym (lone_other only n s mid other)) h.runs)
    honest none quiet
    (followed_stays i played command lines s (with_receiver s n mid) only silent (get_other s.receivers n only mid (λ e. other (sym e))) h.followed)
    h

-- it is the one that is looked at
own_line : (i : Identity) (group : Option ℕ) (start readers only : ℕ) (played : List Played) (command : CommandContent) (lines : List LineContent) (s : ScriptState) (r mid : Receiver) (packets : List (List ℕ)) → slice_get s.receivers only ≡ Some r → Goes (world_of (lone only s)) (world_of (with_receiver (lone only s) only mid)) → AreHonest i s.sender packets → SaysNoRange command lines → SaysNoRead command lines → Follows i mid (joins only (and_line played command lines)) (polled only (and_line played command lines)) (AllWhole only (and_line played command lines)) → IsSound i group start readers only played s → IsSound i group start readers only (and_line played command lines) (moved_scene s only mid packets)
own_line i group start readers only played command lines s r mid packets there goes honest none quiet now h =
    let t = with_receiver s only mid in
    let on : Goes (world_of (lone only s)) (world_of (lone only t)) = subst (λ z. Goes (world_of (lone only s)) (world_of z)) (sym (lone_put only s mid)) goes in
    receiver_line i group start readers only played command lines s only mid packets
    (goes_on (world_of (opened_state i group start readers)) (world_of (lone only s)) (world_of (lone only t)) h.runs on)
    honest none quiet
    (λ low. (mid, get_put s.receivers only mid (slice_get_within s.receivers only r there), now))
    h

pub number_low : (i : Identity) (group : Option ℕ) (start readers only : ℕ) (played : List Played) (s : ScriptState) (n : ℕ) (r : Receiver) → IsSound i group start readers only played s → slice_get s.receivers n ≡ Some r → n < 8
number_low i group start readers only played s n r h there = omega (arith, slice_get_within s.receivers n r there, h.eight)

-- the receiver that is looked at
own_at : (i : Identity) (group : Option ℕ) (start readers only : ℕ) (played : List Played) (s : ScriptState) (r q : Receiver) → IsSound i group start readers only played s → slice_get s.receivers only ≡ Some r → q.image ≡ r.image → numbers_of q ≡ numbers_of r → At (lone only s) only q (joins only played) (polled only played) (AllWhole only played)
own_at i group start readers only played s r q h there image numbers = at_number i group start readers only played s r q h (number_low i group start readers only played s only r h there) there image numbers

-- ---- a tick

abbrev TickIsSound : (i : Identity) (group : Option ℕ) (start readers only : ℕ) (played : List Played) (now : ℕ) (lines : List LineContent) (s t : ScriptState) → ℕ → Type 0
TickIsSound i group start readers only played now lines s t n = Ticks s n now lines t → IsSound i group start readers only (and_line played (commands.Tick n now) lines) t

-- what goes out at it
tick_honest : (i : Identity) (group : Option ℕ) (start readers only : ℕ) (played : List Played) (s : ScriptState) (r : Receiver) (now : ℕ) → IsSound i group start readers only played s → AreFrames (replies r now) → AreHonest i s.sender (s.packets ++ datagrams (alone (replies r now)))
tick_honest i group start readers only played s r now h frames =
    let sent = alone (replies r now) in
    all_append (IsHonest i s.sender) s.packets (datagrams sent) h.honest (honest_given i s.sender sent (alone_given i s.sender (replies r now) frames (replies_given i s.sender r now)))

own_tick : (i : Identity) (group : Option ℕ) (start readers only : ℕ) (played : List Played) (now : ℕ) (lines : List LineContent) (s t : ScriptState) → IsSound i group start readers only played s → TickIsSound i group start readers only played now lines s t only
own_tick i group start readers only played now lines s t h m =
    let r = m.0 in
    let mid = ticked r now in
    let command = commands.Tick only now in
    let z = lone only s in
    let a = own_at i group start readers only played s r mid h m.1 refl refl in
    let follows : Follows i mid (joins only played) (polled only played) (AllWhole only played) = subst (λ x. Follows x mid (joins only played) (polled only played) (AllWhole only played)) h.identity a.follows in
    subst (λ x. IsSound i group start readers only (and_line played command lines) x) (sym m.4)
    (own_line i group start readers only played command lines s r mid (s.packets ++ datagrams (alone (replies r now))) m.1 (unchanged z only r mid (own_at i group start readers only played s r r h m.1 refl refl).there refl) (tick_honest i group start readers only played s r now h m.2) (λ g ranges. refl) (λ k. (refl, refl)) (follows_quiet i only mid played command lines refl refl follows) h)

pub tick_line : (i : Identity) (group : Option ℕ) (start readers only : ℕ) (played : List Played) (n now : ℕ) (lines : List LineContent) (s t : ScriptState) → IsSound i group start readers only played s → Ticks s n now lines t → IsSound i group start readers only (and_line played (commands.Tick n now) lines) t
tick_line i group start readers only played n now lines s t h =
    by_number (TickIsSound i group start readers only played now lines s t) n only
    (own_tick i group start readers only played now lines s t h)
    (λ other m. subst (λ x. IsSound i group start readers only (and_line played (commands.Tick n now) lines) x) (sym m.4)
    (other_line i group start readers only played (commands.Tick n now) lines s n (ticked m.0 now) (s.packets ++ datagrams (alone (replies m.0 now))) other (tick_honest i group start readers only played s m.0 now h m.2) (refl, refl) (λ g ranges. refl) (λ k. (refl, refl)) h))

-- ---- a datagram

-- the world goes on, and the receiver is followed, with the joins that its lines tell
record MetAll (s : ScriptState) (k : ℕ) (mid : Receiver) (outs : List Outcome) (joins : List ℕ) (given : List (List ℕ)) (Whole : Type 0) : Type 0 where
  goes : Goes (world_of s) (world_of (with_receiver s k mid))
  follows : Follows s.log.identity mid (joins ++ flat_map joins_of outs) given Whole

none_met : (s : ScriptState) (k : ℕ) (r mid : Receiver) (outs : List Outcome) (joins : List ℕ) (given : List (List ℕ)) (Whole : Type 0) → At s k r joins given Whole → flat_map joins_of outs ≡ [] → mid ≡ r → MetAll s k mid outs joins given Whole
none_met s k r mid outs joins given Whole a none same = record {
  goes = unchanged s k r mid a.there (ap image_of same);
  follows = subst (λ x. Follows s.log.identity x (joins ++ flat_map joins_of outs) given Whole) (sym same) (subst (λ xs. Follows s.log.identity r xs given Whole) (sym (ap (λ xs. joins ++ xs) none ∙ append-nil joins)) a.follows);
}

-- a datagram that was refused is counted, and nothing more
refused_met : (s : ScriptState) (k p : ℕ) (r mid : Receiver) (outs : List Outcome) (joins : List ℕ) (given : List (List ℕ)) (Whole : Type 0) → At s k r joins given Whole → flat_map joins_of outs ≡ [] → mid ≡ record r { faults = counted_at p r.faults } → MetAll s k mid outs joins given Whole
refused_met s k p r mid outs joins given Whole a none same = record {
  goes = unchanged s k r mid a.there (ap image_of same);
  follows = no_more s.log.identity r mid joins (flat_map joins_of outs) given Whole a.follows (ap numbers_of same) (ap (λ x. x.image) same) none;
}

-- the receiver behind one of its frames
met_at : (s : ScriptState) (k : ℕ) (r mid : Receiver) (out : Outcome) (joins : List ℕ) (given : List (List ℕ)) (Whole : Type 0) → At s k r joins given Whole → Met s k mid out joins given Whole → At (with_receiver s k mid) k mid (joins ++ joins_of out) given Whole
met_at s k r mid out joins given Whole a m = record {
  there = ap (λ xs. slice_get xs k) (map-set image_of s.receivers k mid) ∙ get_put (map image_of s.receivers) k (image_of mid) (slice_get_within (map image_of s.receivers) k (image_of r) a.there);
  follows = m.follows;
}

-- the frames of a datagram, one after the other
all_met : Laws → (s : ScriptState) (k : ℕ) (r mid : Receiver) (ws : List Wire) (outs : List Outcome) (joins : List ℕ) (given : List (List ℕ)) (Whole : Type 0) → IsSending s → At s k r joins given Whole → AreEntering s.log.identity s.sender ws outs → MeetsAll r ws outs mid → MetAll s k mid outs joins given Whole
all_met laws s k r mid [] outs joins given Whole x a out m = none_met s k r mid outs joins given Whole a (ap (flat_map joins_of) m.0) m.1
all_met laws s k r mid (w ∷ ws) outs joins given Whole x a out m =
    let first = m.0 in
    let next = m.1 in
    let rest = m.2 in
    let t = with_receiver s k next in
    let entering : AreEntering s.log.identity s.sender (w ∷ ws) (first ∷ rest) = subst (AreEntering s.log.identity s.sender (w ∷ ws)) m.4 out in
    let one = meets laws.places s k r next w first joins given Whole x a entering.0 m.3 in
    let more = all_met laws t k next mid ws rest (joins ++ joins_of first) given Whole (record { legal = x.legal; sent = x.sent; setups = x.setups }) (met_at s k r next first joins given Whole a one) entering.1 m.5 in
    let all : (joins ++ joins_of first) ++ flat_map joins_of rest ≡ joins ++ flat_map joins_of outs = append_assoc joins (joins_of first) (flat_map joins_of rest) ∙ ap (λ xs. joins ++ flat_map joins_of xs) (sym m.4) in
    record {
      goes = subst (λ xs. Goes (world_of s) (world_of (record s { receivers = xs }))) (set-set s.receivers k next mid) (goes_on (world_of s) (world_of t) (world_of (with_receiver t k mid)) one.goes more.goes);
      follows = subst (λ xs. Follows s.log.identity mid xs given Whole) all more.follows;
    }

-- what the receiver takes of these bytes was given out
abbrev IsTaken : Identity → ScriptState → List ℕ → List Outcome → Type 0
IsTaken i s bytes outs = (frames : List Wire) → SpellsDatagram frames bytes → AreEntering i s.sender frames outs

takes_met : Laws → (i : Identity) (s : ScriptState) (k now : ℕ) (r mid : Receiver) (bytes : List ℕ) (outs : List Outcome) (joins : List ℕ) (given : List (List ℕ)) (Whole : Type 0) → s.log.identity ≡ i → IsSending s → At s k (at_moment r now) joins given Whole → IsTaken i s bytes outs → TakesDatagram r now bytes outs mid → MetAll s k mid outs joins given Whole
takes_met laws i s k now r mid bytes outs joins given Whole same x a honest (inl m) =
    all_met laws s k (at_moment r now) mid m.0 outs joins given Whole x a (subst (λ j. AreEntering j s.sender m.0 outs) (sym same) (honest m.0 m.1)) m.2
takes_met laws i s k now r mid bytes outs joins given Whole same x a honest (inr m) = refused_met s k (place_of m.0) (at_moment r now) mid outs joins given Whole a (ap (flat_map joins_of) m.2) m.3

all_joins : (outs : List Outcome) → flat_map joins_in (map OfReceiver outs) ≡ flat_map joins_of outs
all_joins [] = refl
all_joins (out ∷ outs) = ap (λ xs. joins_of out ++ xs) (all_joins outs)

-- a line that tells what became of a datagram at receiver n
record TellsOf (command : CommandContent) (n : ℕ) (lines : List LineContent) : Type 0 where
  joins : joined_by n command lines ≡ flat_map joins_in lines
  polls : polled_by n command lines ≡ []
  ranges : SaysNoRange command lines
  reads : SaysNoRead command lines

own_joins : (n : ℕ) (command : CommandContent) (outs : List Outcome) (lines : List LineContent) → TellsOf command n lines → lines ≡ map OfReceiver outs → joined_by n command lines ≡ flat_map joins_of outs
own_joins n command outs lines tells e = tells.joins ∙ ap (flat_map joins_in) e ∙ all_joins outs

own_taking : Laws → (i : Identity) (group : Option ℕ) (start readers only : ℕ) (played : List Played) (command : CommandContent) (now : ℕ) (bytes : List ℕ) (lines : List LineContent) (s t : ScriptState) → Begins i start → TellsOf command only lines → IsSound i group start readers only played s → (m : GetsDatagram s only now bytes lines t) → IsTaken i s bytes m.0 → IsSound i group start readers only (and_line played command lines) t
own_taking laws i group start readers only played command now bytes lines s t b tells h m honest =
    let outs = m.0 in
    let r = m.1 in
    let mid = m.2 in
    let a = own_at i group start readers only played s r (at_moment r now) h m.3 refl refl in
    let met = takes_met laws i (lone only s) only now r mid bytes outs (joins only played) (polled only played) (AllWhole only played) h.identity (sending laws i group start readers only played s b h) a honest m.4 in
    let follows : Follows i mid (joins only played ++ flat_map joins_of outs) (polled only played) (AllWhole only played) = subst (λ x. Follows x mid (joins only played ++ flat_map joins_of outs) (polled only played) (AllWhole only played)) h.identity met.follows in
    let now_follows = follows_as i mid (joins only played ++ flat_map joins_of outs) (joins only (and_line played command lines)) (polled only played) (polled only (and_line played command lines)) (AllWhole only played) (AllWhole only (and_line played command lines))
    (sym (joins_more only played command lines ∙ ap (λ xs. joins only played ++ xs) (own_joins only command outs lines tells m.5)))
    (sym (polled_more only played command lines ∙ ap (λ xs. polled only played ++ xs) tells.polls ∙ append-nil (polled only played)))
    (λ x. (whole_parts only played command lines x).0)
    follows in
    subst (λ x. IsSound i group start readers only (and_line played command lines) x) (sym m.6)
    (own_line i group start readers only played command lines s r mid s.packets m.3 met.goes h.honest tells.ranges tells.reads now_follows h)

abbrev DeliveryIsSound : (i : Identity) (group : Option ℕ) (start readers only : ℕ) (played : List Played) (k now : ℕ) (bytes : List ℕ) (lines : List LineContent) (s t : ScriptState) → ℕ → Type 0
DeliveryIsSound i group start readers only played k now bytes lines s t n = GetsDatagram s n now bytes lines t → IsSound i group start readers only (and_line played (commands.Deliver k n now) lines) t

own_delivery : Laws → (i : Identity) (group : Option ℕ) (start readers only : ℕ) (played : List Played) (k now : ℕ) (bytes : List ℕ) (lines : List LineContent) (s t : ScriptState) → Begins i start → IsSound i group start readers only played s → IsHonest i s.sender bytes → DeliveryIsSound i group start readers only played k now bytes lines s t only
own_delivery laws i group start readers only played k now bytes lines s t b h honest m =
    own_taking laws i group start readers only played (commands.Deliver k only now) now bytes lines s t b
    (record { joins = cond-true (nat_eq only only) (flat_map joins_in lines) [] (eq-eqb only only refl); polls = refl; ranges = λ g ranges. refl; reads = λ k. (refl, refl) })
    h m (λ frames spelled. all_entering i s.sender frames m.0 (frames_given_out laws.reading i s.sender bytes frames honest spelled))

-- what another receiver is handed
handed_other : (i : Identity) (group : Option ℕ) (start readers only : ℕ) (played : List Played) (command : CommandContent) (n now : ℕ) (bytes : List ℕ) (lines : List LineContent) (s t : ScriptState) → (n ≡ only → ⊥) → (joined_by only command lines ≡ []) × (polled_by only command lines ≡ []) → SaysNoRange command lines → SaysNoRead command lines → IsSound i group start readers only played s → GetsDatagram s n now bytes lines t → IsSound i group start readers only (and_line played command lines) t
handed_other i group start readers only played command n now bytes lines s t other silent none quiet h m =
    subst (λ x. IsSound i group start readers only (and_line played command lines) x) (sym m.6) (other_line i group start readers only played command lines s n m.2 s.packets other h.honest silent none quiet h)

missing_joins : (k n now j : ℕ) (s t : ScriptState) (lines : List LineContent) → IsMissing s k lines t → joined_by j (commands.Deliver k n now) lines ≡ []
missing_joins k n now j s t lines m = ap (λ ls. cond (nat_eq n j) (flat_map joins_in ls) []) m.1 ∙ both (nat_eq n j)
  where
    both : (b : Bool) → cond {A = List ℕ} b [] [] ≡ []
    both true = refl
    both false = refl

pub deliver_line : Laws → (i : Identity) (group : Option ℕ) (start readers only : ℕ) (played : List Played) (k n now : ℕ) (lines : List LineContent) (s t : ScriptState) → Begins i start → IsSound i group start readers only played s → IsMissing s k lines t ⊎ Delivered s k n now lines t → IsSound i group start readers only (and_line played (commands.Deliver k n now) lines) t
deliver_line laws i group start readers only played k n now lines s t b h (inl m) = missing_line i group start readers only played (commands.Deliver k n now) k lines s t (record { joins = λ j. missing_joins k n now j s t lines m; polls = λ j. refl; reads = λ j. (refl, refl) }) (λ g ranges. refl) h m
deliver_line laws i group start readers only played k n now lines s t b h (inr m) =
    by_number (DeliveryIsSound i group start readers only played k now m.0 lines s t) n only
    (own_delivery laws i group start readers only played k now m.0 lines s t b h (all_get (IsHonest i s.sender) s.packets k m.0 m.1 h.honest))
    (λ other. handed_other i group start readers only played (commands.Deliver k n now) n now m.0 lines s t other (cond-false (nat_eq n only) (flat_map joins_in lines) [] (ne_eqb n only other), refl) (λ g ranges. refl) (λ k. (refl, refl)) h)
    m.2

-- bytes of the script's own
abbrev RawIsSound : (i : Identity) (group : Option ℕ) (start readers only : ℕ) (played : List Played) (now : ℕ) (bytes : List ℕ) (lines : List LineContent) (s t : ScriptState) → ℕ → Type 0
RawIsSound i group start readers only played now bytes lines s t n = (only < 8 → IsHonestLine only s.packets (commands.Raw n now bytes) lines) → GetsDatagram s n now bytes lines t → IsSound i group start readers only (and_line played (commands.Raw n now bytes) lines) t

-- of those that its image takes each was printed
own_raw : Laws → (i : Identity) (group : Option ℕ) (start readers only : ℕ) (played : List Played) (now : ℕ) (bytes : List ℕ) (lines : List LineContent) (s t : ScriptState) → Begins i start → IsSound i group start readers only played s → RawIsSound i group start readers only played now bytes lines s t only
own_raw laws i group start readers only played now bytes lines s t b h honest m =
    let low : only < 8 = number_low i group start readers only played s only m.1 h m.3 in
    own_taking laws i group start readers only played (commands.Raw only now bytes) now bytes lines s t b
    (record { joins = cond-true (nat_eq only only) (flat_map joins_in lines) [] (eq-eqb only only refl); polls = refl; ranges = λ g ranges. refl; reads = λ k. (refl, refl) })
    h m (λ frames spelled. printed_entering laws.reading i s.sender s.packets frames m.0 h.honest (subst (AreHonestFrames s.packets frames) m.5 (honest low refl frames spelled)))

pub raw_line : Laws → (i : Identity) (group : Option ℕ) (start readers only : ℕ) (played : List Played) (n now : ℕ) (bytes : List ℕ) (lines : List LineContent) (s t : ScriptState) → Begins i start → (only < 8 → IsHonestLine only s.packets (commands.Raw n now bytes) lines) → IsSound i group start readers only played s → GetsDatagram s n now bytes lines t → IsSound i group start readers only (and_line played (commands.Raw n now bytes) lines) t
raw_line laws i group start readers only played n now bytes lines s t b honest h m =
    by_number (RawIsSound i group start readers only played now bytes lines s t) n only
    (own_raw laws i group start readers only played now bytes lines s t b h)
    (λ other spared k. handed_other i group start readers only played (commands.Raw n now bytes) n now bytes lines s t other (cond-false (nat_eq n only) (flat_map joins_in lines) [] (ne_eqb n only other), refl) (λ g ranges. refl) (λ k. (refl, refl)) h k)
    honest m

-- ---- a poll

own_polls : (n : ℕ) (line : LineContent) (lines : List LineContent) → lines ≡ line ∷ [] → polled_by n (commands.Poll n) lines ≡ messages_in line
own_polls n line lines e = cond-true (nat_eq n n) (flat_map messages_in lines) [] (eq-eqb n n refl) ∙ ap (flat_map messages_in) e ∙ append-nil (messages_in line)

still_whole : (n : ℕ) (played : List Played) (line : LineContent) (lines : List LineContent) → lines ≡ line ∷ [] → AllWhole n (and_line played (commands.Poll n) lines) → StillWhole (AllWhole n played) line
still_whole n played line lines e x =
    let parts = whole_parts n played (commands.Poll n) lines x in
    let all : AllByRecursion (λ l. is_refusal l ≡ false) (line ∷ []) = subst (λ ls. AllByRecursion (λ l. is_refusal l ≡ false) ls) e (parts.1 refl) in
    (parts.0, all.0)

-- wherever the world goes to, no assembler has more than the greatest message
stay_short : Laws → (i : Identity) (group : Option ℕ) (start readers only : ℕ) (s : ScriptState) → Begins i start → Goes (world_of (opened_state i group start readers)) (world_of (lone only s)) → StaysShort (world_of (lone only s))
stay_short laws i group start readers only s b runs w on =
    let first = world_of (opened_state i group start readers) in
    let all = goes_on first (world_of (lone only s)) w runs on in
    laws.short first w all.0 (opened i group start readers b) all.1

abbrev PollIsSound : (i : Identity) (group : Option ℕ) (start readers only : ℕ) (played : List Played) (lines : List LineContent) (s t : ScriptState) → ℕ → Type 0
PollIsSound i group start readers only played lines s t n = PollsBy s n lines t → IsSound i group start readers only (and_line played (commands.Poll n) lines) t

own_poll : Laws → (i : Identity) (group : Option ℕ) (start readers only : ℕ) (played : List Played) (lines : List LineContent) (s t : ScriptState) → Begins i start → IsSound i group start readers only played s → PollIsSound i group start readers only played lines s t only
own_poll laws i group start readers only played lines s t b h m =
    let line = poll_content m.0 in
    let r = m.1 in
    let mid = m.2 in
    let command = commands.Poll only in
    let a = own_at i group start readers only played s r r h m.3 refl refl in
    let met = polls_met (lone only s) only r mid m.0 (joins only played) (polled only played) (AllWhole only played) a (stay_short laws i group start readers only s b h.runs) m.4 in
    let follows : Follows i mid (joins only played) (polled only played ++ messages_in line) (StillWhole (AllWhole only played) line) = subst (λ x. Follows x mid (joins only played) (polled only played ++ messages_in line) (StillWhole (AllWhole only played) line)) h.identity met.follows in
    let now_follows = follows_as i mid (joins only played) (joins only (and_line played command lines)) (polled only played ++ messages_in line) (polled only (and_line played command lines)) (StillWhole (AllWhole only played) line) (AllWhole only (and_line played command lines))
    (sym (joins_more only played command lines ∙ append-nil (joins only played)))
    (sym (polled_more only played command lines ∙ ap (λ xs. polled only played ++ xs) (own_polls only line lines m.5)))
    (still_whole only played line lines m.5)
    follows in
    subst (λ x. IsSound i group start readers only (and_line played command lines) x) (sym m.6)
    (own_line i group start readers only played command lines s r mid s.packets m.3 met.goes h.honest (λ g ranges. refl) (λ k. (refl, refl)) now_follows h)

pub poll_line : Laws → (i : Identity) (group : Option ℕ) (start readers only : ℕ) (played : List Played) (n : ℕ) (lines : List LineContent) (s t : ScriptState) → Begins i start → IsSound i group start readers only played s → PollsBy s n lines t → IsSound i group start readers only (and_line played (commands.Poll n) lines) t
poll_line laws i group start readers only played n lines s t b h =
    by_number (PollIsSound i group start readers only played lines s t) n only
    (own_poll laws i group start readers only played lines s t b h)
    (λ other m. subst (λ x. IsSound i group start readers only (and_line played (commands.Poll n) lines) x) (sym m.6)
    (other_line i group start readers only played (commands.Poll n) lines s n m.2 s.packets other h.honest (refl, cond-false (nat_eq n only) (flat_map messages_in lines) [] (ne_eqb n only other)) (λ g ranges. refl) (λ k. (refl, refl)) h))

-- and no message is too long, as long as memory isn't refused
own_short : Laws → (i : Identity) (group : Option ℕ) (start readers only : ℕ) (played : List Played) (lines : List LineContent) (s t : ScriptState) → Begins i start → AllWhole only played → IsSound i group start readers only played s → PollsBy s only lines t → AllByRecursion (λ line. is_too_long line ≡ false) lines
own_short laws i group start readers only played lines s t b whole h m =
    let r = m.1 in
    let a = own_at i group start readers only played s r r h m.3 refl refl in
    let here = polls_short (lone only s) only r m.2 m.0 (joins only played) (polled only played) (AllWhole only played) a (stay_short laws i group start readers only s b h.runs) whole m.4 in
    subst (AllByRecursion (λ line. is_too_long line ≡ false)) (sym m.5) (here, tt)

pub line_short : Laws → (i : Identity) (group : Option ℕ) (start readers only : ℕ) (played : List Played) (command : CommandContent) (lines : List LineContent) (s t : ScriptState) → Begins i start → AllWhole only played → IsSound i group start readers only played s → Answers s command lines t → IsShort only command lines
line_short laws i group start readers only played (commands.Poll n) lines s t b whole h m = λ e. own_short laws i group start readers only played lines s t b whole h (subst (λ k. PollsBy s k lines t) e m)
line_short laws i group start readers only played command lines s t b whole h m = tt

pub image_line : (i : Identity) (group : Option ℕ) (start readers only : ℕ) (played : List Played) (n : ℕ) (lines : List LineContent) (s t : ScriptState) → IsSound i group start readers only played s → TellsBy s n lines t → IsSound i group start readers only (and_line played (commands.Image n) lines) t
image_line i group start readers only played n lines s t h m = same_state i group start readers only played (commands.Image n) lines s t (record { joins = λ k. refl; polls = λ k. refl; reads = λ k. (refl, refl) }) (λ g ranges. refl) m.5 h
