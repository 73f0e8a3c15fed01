-- The publisher of the small world has ended whole: its only destination's receiver was heard from the start to where the messages end.
-- In its first cycle its sender hears a status message and gives out a SETUP and both frames; in the second its device hears that they have
-- arrived; and at its end it tells where the stream ends.
use Rattle.std.specs.Prelude.{◌≡◌, ◌<◌, ◌&&◌, ℕ, zero, suc, pos, true, false, Bool, [], ◌∷◌, ◌++◌, length, map, nat_le, slice_index_or, take, None, Some, Ok}
use Rattle.std.proofs.Common.{arith, ap, inl, inr, refl, subst, sym}
use Rattle.theory.specs.Placed.{Among, Placed}
use Rattle.theory.specs.Wire.{IsFrame, SM, Spells, Status, Wire, spelling}
use Rattle.theory.proofs.Rows.{the_geometry}
use Rattle.theory.proofs.Spelled.{one_spelling}
use Rattle.position.specs.Words.{frame_words}
use Rattle.conductor.specs.Parties.{ClientSeen, TakerSeen}
use Rattle.shared_log.specs.Keepers.{KeeperValue}
use Rattle.shared_log.specs.Sourced.{placed}
use Rattle.sender.specs.Cycling.{Cycle, GivesNew, Says}
use Rattle.sender.specs.Sending.{at_moment, cycled, told}
use Rattle.sender.specs.declared.sender_core.SenderAnswer.TheVariants as answers
use Rattle.flow_control.specs.Stream.{has_heard_of, status_after}
use Rattle.sender_meaning.specs.Moments.{CyclesAt, HearsThere, StreamCore, TicksThere}
use Rattle.endpoint.specs.Fans.{Fanned}
use Rattle.endpoint.specs.declared.udp.Route.{Route}
use Rattle.options.specs.declared.ends.plans.PublishPlan.{PublishPlan}
use Rattle.loss_injector.specs.Losing.{Losing}
use Rattle.peer.specs.Attends.{Attends, WasAsked, attends_still}
use Rattle.peer.specs.Patience.{Patient, patient_device}
use Rattle.peer.specs.Screening.{is_handed}
use Rattle.peer.specs.Ties.{Tied}
use Rattle.peer.specs.Watching.{Screens, Takes, Watched, Watching, after_frame, due_of, found_of, screened_of, with_end}
use Rattle.peer.specs.declared.attendance.Ending.TheVariants.{Whole}
use Rattle.publisher.specs.Beginnings.{device_of}
use Rattle.publisher.specs.Destinations.{IsAlong, socket_along}
use Rattle.publisher.specs.Endings.{heard_along}
use Rattle.publisher.specs.Farewells.{ends_along}
use Rattle.publisher.specs.Numbers.{goes_still}
use Rattle.publisher.specs.Progress.{nothing_seen}
use Rattle.publisher.specs.Seeing.{ChannelDestination, begun, seen_along}
use Rattle.publisher.specs.Turns.{Cycles, Turns, not_yet as nothing_told}
use Rattle.publisher.specs.declared.judging.Judged.{Judged}
use Rattle.publisher.specs.declared.sender_thread.ChannelSender.{ChannelSender}
use Rattle.publisher.specs.declared.sender_thread.SenderPasses.{SenderPasses}
use Rattle.channel_meaning.proofs.SentRows.{HasArrivedThere, all_known, begins, data_bytes, first_frame, reads, second_frame, setup_bytes, spells_status, status, status_bytes}
use Rattle.channel_meaning.proofs.WorldRows.{planned, reading}

-- ---- its sender

abbrev heard_first : StreamCore
heard_first = told status_after has_heard_of (at_moment begins 0) status

abbrev gives_both : Cycle
gives_both = record { setup = true; fresh = (first_frame ∷ second_frame ∷ []) ∷ []; again = []; beat = false }

abbrev sent_both : StreamCore
sent_both = cycled (at_moment heard_first 0) (reads 128 all_known 1) heard_first.flow gives_both

hears_first : HearsThere begins 0 status_bytes heard_first []
hears_first = record {
  hears = record { answer = answers.Status (pos 32768); hears = record { news = Says status; is = (spells_status, (refl, refl)); hears = (refl, refl, refl) }; same = refl };
  left = (record { log = refl; number = refl; looked = omega arith }, refl);
}

none_behind : (f : Placed) → Among f (map placed all_known) → f.at ≡ 128 → ⊥
unfolding frame_words
none_behind f (inl e) at = let here : f.at ≡ 0 = ap (λ (s : Placed). s.at) e in omega (arith, here, at)
none_behind f (inr (inl e)) at = let here : f.at ≡ 64 = ap (λ (s : Placed). s.at) e in omega (arith, here, at)
none_behind f (inr (inr never)) at = never

both_new : GivesNew the_geometry (map placed all_known) 0 32768 ((first_frame ∷ second_frame ∷ []) ∷ [])
unfolding frame_words
both_new = record { reads = first_frame ∷ second_frame ∷ []; to = 128; read = record { chain = (refl, (refl, refl)); among = (inl refl, (inr (inl refl), tt)) }; sent_is = refl; ends = inl (refl, none_behind) }

ticks_first : TicksThere heard_first 0 sent_both (setup_bytes ∷ data_bytes ∷ [])
unfolding frame_words
ticks_first = record {
  cycles = record {
    cycle = gives_both;
    is = record { setup = refl; new = both_new; again = refl; beat = refl };
    looked = λ all. record {
      before = reads 0 all_known 0;
      at = tt;
      after = reads 0 all_known 1;
      there = tt;
      until = (record { log = refl; number = refl; looked = omega arith }, refl);
      look = refl;
      since = (record { log = refl; number = refl; looked = omega arith }, refl);
    };
    state = refl;
    sends = refl;
    reads = record { grows = λ f never. absurd never; moved = refl };
  };
  left = (record { log = refl; number = refl; looked = omega arith }, refl);
}

first_cycle : CyclesAt 0 begins sent_both
first_cycle = record { datagrams = status_bytes ∷ []; answers = []; heard = heard_first; all = (heard_first, [], [], hears_first, (refl, refl), refl); given = setup_bytes ∷ data_bytes ∷ []; told = ticks_first }

-- nothing new goes out
abbrev gives_none : Cycle
gives_none = record { setup = false; fresh = []; again = []; beat = false }

abbrev waits : StreamCore
waits = cycled (at_moment sent_both 1) (reads 128 all_known 2) sent_both.flow gives_none

none_new : GivesNew the_geometry (map placed all_known) 128 32768 []
none_new = record { reads = []; to = 128; read = record { chain = refl; among = tt }; sent_is = refl; ends = inl (refl, none_behind) }

ticks_again : TicksThere sent_both 1 waits []
unfolding frame_words
ticks_again = record {
  cycles = record {
    cycle = gives_none;
    is = record { setup = refl; new = none_new; again = refl; beat = refl };
    looked = λ all. record {
      before = reads 128 all_known 1;
      at = tt;
      after = reads 128 all_known 2;
      there = tt;
      until = (record { log = refl; number = refl; looked = omega arith }, refl);
      look = refl;
      since = (record { log = refl; number = refl; looked = omega arith }, refl);
    };
    state = refl;
    sends = refl;
    reads = record { grows = λ f among. among; moved = refl };
  };
  left = (record { log = refl; number = refl; looked = omega arith }, refl);
}

second_cycle : CyclesAt 1 sent_both waits
second_cycle = record { datagrams = []; answers = []; heard = sent_both; all = (refl, refl); given = []; told = ticks_again }

-- ---- its device

-- receiver 3 stands behind both frames
abbrev arrival : Status
arrival = record { session = pos 1; stream = pos 1001; term_id = pos 7; term_offset = pos 128; window = pos 32768; receiver = pos 3 }

is_status : IsFrame (SM 0 status)
is_status = (inl refl, (record { sfits = omega arith }, record { sfits = omega arith }, record { sfits = omega arith }, record { sfits = omega arith }, record { sfits = omega arith }, record { sfits = omega arith }))

is_arrival : IsFrame (SM 0 arrival)
is_arrival = (inl refl, (record { sfits = omega arith }, record { sfits = omega arith }, record { sfits = omega arith }, record { sfits = omega arith }, record { sfits = omega arith }, record { sfits = omega arith }))

abbrev Inner : Type 0
Inner = Losing (Patient Tied)

abbrev the_device : Watching Inner → Watching Inner → Type 0
the_device = Attends {D = Inner} (λ l. patient_device l.inner.nones) (λ l. ⊥)

abbrev hearing : Watching Inner → Status → Watching Inner
hearing d m = record d { watch = after_frame d.watch (SM 0 m) }

-- a datagram of 36 bytes that is a status message, and so no other frame
only_status : (m : Status) (f : Wire) → IsFrame (SM 0 m) → Spells f (take 36 (spelling (SM 0 m))) → SM 0 m ≡ f
only_status m f is spells = (one_spelling (SM 0 m) f [] [] is spells.0 (ap (λ xs. xs ++ []) spells.1)).0

screens : (w : Watched) (m : Status) → IsFrame (SM 0 m) → is_handed (screened_of w (SM 0 m)) ≡ true → Screens w (take 36 (spelling (SM 0 m))) (Some 36) (after_frame w (SM 0 m))
screens w m is handed = record {
  frame = λ f front. subst (λ (x : Wire). (Some 36 ≡ found_of (is_handed (screened_of w x)) 36) × (after_frame w (SM 0 m) ≡ after_frame w x)) (only_status m f is front.spelled) (ap (λ b. found_of b 36) (sym handed), refl);
  others = λ none. absurd (none (SM 0 m) (record { within = omega arith; spelled = (is, refl) }));
}

was_asked : (d : Watching Inner) (m : Status) → IsFrame (SM 0 m) → due_of d.watch ≡ None → is_handed (screened_of d.watch (SM 0 m)) ≡ true → WasAsked {D = Inner} (λ l. patient_device l.inner.nones) (λ l. ⊥) d (hearing d m)
was_asked d m is idle handed = let long : length (spelling (SM 0 m)) ≡ 36 = refl in record {
  before = spelling (SM 0 m);
  after = spelling (SM 0 m);
  result = Ok (Some 36);
  takes = subst (λ o. Takes {D = Inner} (λ l. patient_device l.inner.nones) (λ l. ⊥) o d (spelling (SM 0 m)) (Ok (Some 36)) (spelling (SM 0 m)) (hearing d m)) (sym idle) (record {
    count = 0;
    middle = d;
    passes = refl;
    ends = inl (record {
      answer = Ok (Some 36);
      counts = record { failures = omega arith; nones = omega arith };
      receives = record { failures = refl; nones = refl; same_sent = refl; filled = record { within = omega (arith, long); rest = refl }; handed_over = λ t. absurd t; unreceived = λ t. absurd t };
      still_tells = λ t. t;
      judged = screens d.watch m is handed;
    });
  });
}

-- ---- it has ended

module _ (p : PublishPlan) (route : Route) (client : ClientSeen) (keeper : KeeperValue) (taker : TakerSeen) where
  abbrev destination : ChannelDestination Tied
  destination = record { device = device_of (planned p) None (socket_along (planned p) route); id = None; peer = route.peer; before = record { nones = 0; lost = 0 }; progress = nothing_seen; silence = None; unheard = 0; quiet = false; behind = None; broken = false }

  abbrev passes_with : ChannelDestination Tied → SenderPasses (Fanned (ChannelDestination Tied))
  passes_with w = record { client = client; duty = record { device = record { ways = w ∷ []; turn = 0; failures = 0; nones = 0 }; mtu = 1408 }; keeper = keeper; taker = taker }

  abbrev sender_with : StreamCore → ChannelDestination Tied → ChannelSender Tied
  sender_with core w = record { agent = record { core = core; asked = false }; passes = passes_with w; peer = route.peer }

  along : (number : ℕ) (d : ChannelDestination Tied) → number < 1 → IsAlong (planned p) (route ∷ []) number (slice_index_or (destination ∷ []) number d)
  along zero d low = record { route = route; stands = refl; is = refl }
  along (suc n) d low = absurd (omega (arith, low))

  -- its first cycle: the device hears nothing
  abbrev once : ChannelDestination Tied
  once = seen_along None p.linger 0 (begun 0 destination)

  cycles_once : Cycles None p.linger 0 (sender_with begins destination) (sender_with sent_both once)
  cycles_once = record { moment = first_cycle; between = begun 0 destination ∷ []; lived = (goes_still the_device (attends_still {D = Inner} (λ l. patient_device l.inner.nones) (λ l. ⊥)) (begun 0 destination), tt); seen = refl }

  not_yet : (b : Bool) → (b && false) ≡ false
  not_yet true = refl
  not_yet false = refl

  -- the reading hasn't ended, so no end is told
  turn : Turns (planned p) nothing_told (sender_with begins destination) nothing_told (sender_with sent_both once)
  turn = record {
    now = 0;
    stays = tt;
    cycled = sender_with sent_both once;
    cycles = cycles_once;
    beginning = sender_with sent_both once;
    begins = record { begins = false; is = sym (not_yet (nat_le p.wait 0)); begun_is = refl; flow = refl; destinations = refl };
    end = None;
    due = refl;
    told = refl;
    ended = refl;
    agent = refl;
  }

  -- its second: the device hears both status messages
  abbrev before : Watching Inner
  before = (begun 128 once).device

  abbrev after : Watching Inner
  after = hearing (hearing before status) arrival

  heard_both : the_device before after
  heard_both = record { states = hearing before status ∷ after ∷ []; goes = (inr (was_asked before status is_status refl refl), (inr (was_asked (hearing before status) arrival is_arrival refl refl), refl)) }

  abbrev twice : ChannelDestination Tied
  twice = seen_along (Some 128) p.linger 1 (record (begun 128 once) { device = after })

  cycles_twice : Cycles (Some 128) p.linger 1 (sender_with sent_both once) (sender_with waits twice)
  cycles_twice = record { moment = second_cycle; between = record (begun 128 once) { device = after } ∷ []; lived = (record { kept = refl; device = heard_both }, tt); seen = refl }

  abbrev judged : Judged
  judged = record { ending = Whole; reading = Some reading; told = None }

  -- five times its end
  abbrev told_once : Watched → Watched
  told_once w = with_end w (record { position = 128; broken = false })

  abbrev ended : ChannelDestination Tied
  ended = record twice { device = record twice.device { watch = told_once (told_once (told_once (told_once (told_once twice.device.watch)))) } }

  pub arrived : HasArrivedThere p
  arrived = record {
    route = route;
    passes = passes_with destination;
    along = record { many = refl; each = along };
    heard = map heard_along (ended ∷ []);
    told = map ends_along (ended ∷ []);
    arrived = (
      sender_with begins destination,
      record { reader = (reads 0 [] 0).reader; begun = record { made = refl; log_is = refl; reader_is = refl }; passes_are = refl; peer_is = refl },
      record {
        noted = record {
          last = sender_with waits twice;
          judged = judged;
          ends = record { count = 1; going = nothing_told; before = sender_with sent_both once; turns = (nothing_told, sender_with begins destination, (refl, refl), turn); now = 1; stays = tt; cycles = cycles_twice; is = refl; why = (0, refl) };
          after = ended ∷ [];
          farewell = refl;
          heard_are = refl;
          told_are = refl;
          many = refl;
        };
        arrived = (record { all = refl; heard = refl }, tt);
      },
    );
    alone = refl;
  }
