-- The sender of the small world: at its first moment it gives out a SETUP, a status message is heard, and at a later moment it gives
-- out both frames, and finds none behind them. So its publisher has ended whole.
use Rattle.std.specs.Prelude.{◌≡◌, ◌<◌, ℕ, pos, true, false, List, [], ◌∷◌, ◌++◌, map, Option, Some}
use Rattle.std.specs.List.{flat_map}
use Rattle.std.proofs.Common.{arith, ap, inl, inr, refl}
use Rattle.theory.specs.Bytes.{bytes_of}
use Rattle.theory.specs.Control.{setup_at}
use Rattle.theory.specs.Entry.{committed}
use Rattle.theory.specs.Placed.{AllAmong, Among, Data, Placed}
use Rattle.theory.specs.Wire.{SM, SpellsDatagram, Status, spelling}
use Rattle.theory.proofs.Rows.{abc, identity, the_geometry}
use Rattle.position.specs.Words.{frame_words}
use Rattle.publication.specs.declared.pass.FrameWords.{FrameWords}
use Rattle.log_rule.specs.Claims.Sure.{no_controls}
use Rattle.log_rule.specs.Table.{reader_alone}
use Rattle.shared_log.specs.Sourced.{placed}
use Rattle.shared_log.specs.declared.reader.source.LogFrames.{LogFrames}
use Rattle.sender.specs.Cycling.{Cycle, GivesNew, Says}
use Rattle.sender.specs.Sending.{at_moment, begun, cycled, told}
use Rattle.sender.specs.declared.sender_core.SenderAnswer.TheVariants as answers
use Rattle.flow_control.specs.Stream.{has_heard_of, status_after}
use Rattle.flow_control.specs.declared.stream.StreamFlow.TheVariants.{One}
use Rattle.sender_meaning.specs.Lives.{Hears, SendsStream, Ticks, source_in}
use Rattle.sender_meaning.specs.Moments.{HearsThere, StreamCore, TicksThere}
use Rattle.sender_meaning.specs.StreamLives.{Acts, StreamAct, StreamLives, given_in_all}
use Rattle.sender_meaning.proofs.StreamRows.{ab, two}
use Rattle.publisher.specs.Offers.{frames_in}
use Rattle.publisher.specs.Offers.Taken.{Message}
use Rattle.options.specs.declared.ends.plans.PublishPlan.{PublishPlan}
use Rattle.endpoint.specs.Fans.{Fanned}
use Rattle.endpoint.specs.declared.udp.Route.{Route}
use Rattle.peer.specs.Ties.{Tied}
use Rattle.peer.specs.declared.attendance.Attendance.{Attendance}
use Rattle.peer.specs.declared.attended.ToldEnds.{ToldEnds}
use Rattle.publisher.specs.Destinations.{AreDestinationsAlong}
use Rattle.publisher.specs.Ended.{ArrivesAt, PublishesAll}
use Rattle.publisher.specs.Farewells.{are_told_alone}
use Rattle.publisher.specs.Judging.{stream_end_in}
use Rattle.publisher.specs.Seeing.{ChannelDestination}
use Rattle.publisher.specs.declared.sender_thread.SenderPasses.{SenderPasses}
use Rattle.channel_meaning.proofs.WorldRows.{book, ends_input, first, input, is_of_other, last, log, other, planned, reading, place, shows, taken}

-- ---- what its reader knows: the first frame, or both

abbrev pub first_frame : Placed
first_frame = record { at = 0; frame = Data 192 abc }

abbrev pub second_frame : Placed
second_frame = record { at = 64; frame = Data 192 ab }

abbrev pub one_known : List FrameWords
one_known = frames_in identity (Message 0 abc)

abbrev pub all_known : List FrameWords
all_known = flat_map (frames_in identity) taken

one_placed : map placed one_known ≡ first_frame ∷ []
unfolding frame_words
one_placed = refl

all_placed : map placed all_known ≡ committed two.entries
unfolding frame_words
all_placed = refl

-- the reader stands here, knows these frames, and has looked so often and found none
abbrev pub reads : ℕ → List FrameWords → ℕ → LogFrames
reads at known misses = record {
  log = record { ref_ptr = (0, 0); now = log };
  reader = record {
    held = record { of = place; seat = 2; pass = reader_alone identity 0 (record { number = 0; position = at; known = known; misses = misses }); steps = 0; controls = no_controls; sure = 0; freed = 0 };
    place = 0;
    number = 0;
    position = at;
    read_to = at;
  };
}

-- ---- its states

abbrev pub begins : StreamCore
begins = begun identity 0 (reads 0 [] 0) (One (record { limit = 0; heard = false }))

-- a SETUP goes out, and no frame may
abbrev pub named : Cycle
named = record { setup = true; fresh = []; again = []; beat = false }

abbrev pub has_named : StreamCore
has_named = cycled (at_moment begins 0) (reads 0 one_known 0) begins.flow named

-- receiver 3 stands at 0, with a window of 32768
abbrev pub status : Status
status = record { session = pos 1; stream = pos 1001; term_id = pos 7; term_offset = pos 0; window = pos 32768; receiver = pos 3 }

abbrev pub has_heard : StreamCore
has_heard = told status_after has_heard_of (at_moment has_named 1) status

-- both frames go out in one datagram
abbrev pub sent : Cycle
sent = record { setup = false; fresh = (first_frame ∷ second_frame ∷ []) ∷ []; again = []; beat = false }

abbrev pub has_sent : StreamCore
has_sent = cycled (at_moment has_heard 2) (reads 128 all_known 1) has_heard.flow sent

abbrev pub setup_bytes : List ℕ
setup_bytes = spelling (setup_at identity 0)

abbrev pub status_bytes : List ℕ
status_bytes = spelling (SM 0 status)

abbrev pub data_bytes : List ℕ
data_bytes = bytes_of identity first_frame ++ bytes_of identity second_frame

-- ---- its acts

at_first : GivesNew the_geometry (map placed one_known) 0 0 []
unfolding frame_words
at_first = record { reads = first_frame ∷ []; to = 64; read = record { chain = (refl, refl); among = (inl refl, tt) }; sent_is = refl; ends = inr (first_frame, refl) }

names : TicksThere begins 0 has_named (setup_bytes ∷ [])
unfolding at_first
names = record {
  cycles = record {
    cycle = named;
    is = record { setup = refl; new = at_first; again = refl; beat = refl };
    looked = λ none. no none;
    state = refl;
    sends = refl;
    reads = record { grows = λ f among. absurd among; moved = refl };
  };
  left = (record { log = refl; number = refl; looked = omega arith }, refl);
}
  where
    no : {A : Type 0} → ◌≡◌ {A = List Placed} (first_frame ∷ []) [] → A
    no e = absurd (cc)

pub spells_status : SpellsDatagram (SM 0 status ∷ []) status_bytes
spells_status = (refl, ((inl refl, (record { sfits = omega arith }, record { sfits = omega arith }, record { sfits = omega arith }, record { sfits = omega arith }, record { sfits = omega arith }, record { sfits = omega arith })), tt), refl)

hears : HearsThere has_named 1 status_bytes has_heard []
hears = record {
  hears = record { answer = answers.Status (pos 32768); hears = record { news = Says status; is = (spells_status, (refl, refl)); hears = (refl, refl, refl) }; same = refl };
  left = (record { log = refl; number = refl; looked = omega arith }, refl);
}

at_last : GivesNew the_geometry (map placed all_known) 0 32768 ((first_frame ∷ second_frame ∷ []) ∷ [])
unfolding frame_words
at_last = record { reads = first_frame ∷ second_frame ∷ []; to = 128; read = record { chain = (refl, (refl, refl)); among = (inl refl, (inr (inl refl), tt)) }; sent_is = refl; ends = inl (refl, none) }
  where
    none : (f : Placed) → Among f (first_frame ∷ second_frame ∷ []) → f.at ≡ 128 → ⊥
    none f (inl e) at = let here : f.at ≡ 0 = ap (λ (s : Placed). s.at) e in omega (arith, here, at)
    none f (inr (inl e)) at = let here : f.at ≡ 64 = ap (λ (s : Placed). s.at) e in omega (arith, here, at)
    none f (inr (inr never)) at = never

more : (f : Placed) → Among f (map placed one_known) → Among f (map placed all_known)
unfolding frame_words
more f (inl e) = inl e
more f (inr never) = absurd never

gives : TicksThere has_heard 2 has_sent (data_bytes ∷ [])
gives = record {
  cycles = record {
    cycle = sent;
    is = record { setup = refl; new = at_last; again = refl; beat = refl };
    looked = λ all. record {
      before = reads 0 all_known 0;
      at = tt;
      after = reads 0 all_known 1;
      there = tt;
      until = (record { log = refl; number = refl; looked = omega arith }, refl);
      look = refl;
      since = (record { log = refl; number = refl; looked = omega arith }, refl);
    };
    state = refl;
    sends = refl;
    reads = record { grows = more; moved = refl };
  };
  left = (record { log = refl; number = refl; looked = omega arith }, refl);
}

abbrev pub acts : List StreamAct
acts = Acts (Ticks 0 (setup_bytes ∷ [])) ∷ Acts (Hears 1 status_bytes []) ∷ Acts (Ticks 2 (data_bytes ∷ [])) ∷ []

pub lives : StreamLives 1 begins acts has_sent
lives = (has_named, names, (has_heard, hears, (has_sent, gives, refl)))

given : given_in_all acts ≡ setup_bytes ∷ data_bytes ∷ []
given = refl

pub sends : SendsStream two begins
sends = record { identity = refl; unit = refl; low = omega arith }

pub knows : AllAmong (committed two.entries) (source_in has_sent.reads).frames
unfolding frame_words
knows = (inl refl, (inr (inl refl), tt))

-- ---- the publisher has ended whole, to one destination, where that has received all by what its device has noted

pub record HasArrivedThere (p : PublishPlan) : Type 0 where
  pub route : Route
  pub passes : SenderPasses (Fanned (ChannelDestination Tied))
  pub along : AreDestinationsAlong (planned p) (route ∷ []) passes.duty.device.ways
  pub heard : List Attendance
  pub told : List (Option ToldEnds)
  pub arrived : ArrivesAt log passes route.peer (planned p) (Some reading) heard told
  pub alone : are_told_alone (planned p).geometry (stream_end_in (Some reading)) told ≡ true

abbrev pub ended_whole : (p : PublishPlan) (a : HasArrivedThere p) → PublishesAll (planned p) (a.route ∷ []) (Some input)
ended_whole p a = record {
  log = log;
  log_is = record { identity = refl; start = refl; consumers = refl };
  first = first;
  opened = record { of = record { table = refl; identity = refl; start = refl }; pass = refl; steps = refl };
  new = Some [];
  last = last;
  reading = reading;
  ends = ends_input;
  some = (let one : 0 < 1 = omega arith in one);
  passes = a.passes;
  destinations_are = a.along;
  peer = a.route.peer;
  heard = a.heard;
  told = a.told;
  arrived = a.arrived;
  alone = a.alone;
  others = other ∷ [];
  others_are = record { done = (is_of_other, tt); unclaimed = ((refl, refl), tt); parts = refl };
  book = book;
  shows = shows;
  sends = record {
    first = begins;
    last = has_sent;
    begun = record { made = refl; log_is = refl };
    start = (refl, omega arith);
    lived = record { acts = acts; lives = lives };
    known = (inl refl, (inr (inl refl), tt));
  };
}
