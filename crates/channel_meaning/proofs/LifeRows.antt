-- A subscriber in the small world: it opens an image by the SETUP that the sender gave out, hears both frames and the end of the
-- stream, and gives both messages, which it writes.
use Rattle.std.specs.Prelude.{◌≡◌, ℕ, pos, negsuc, true, false, Bool, List, [], ◌∷◌, map, Option, None, Some, Ok}
use Rattle.std.proofs.Common.{arith, ap, inl, inr, refl, sym, subst, ◌∙◌}
use Rattle.peer.specs.Farewells.{ttl_of}
use Rattle.theory.specs.Assembly.{Assembly}
use Rattle.theory.specs.Bytes.{wire_at}
use Rattle.theory.specs.Consumer.{Consumer, moved, passed_by}
use Rattle.theory.specs.Control.{setup_fields}
use Rattle.theory.specs.Placed.{Data, Placed}
use Rattle.theory.specs.Setup.{OpensAt}
use Rattle.theory.specs.Wire.{SETUP, Setup, SpellsDatagram, Wire, spelling}
use Rattle.theory.proofs.Rows.{abc, identity, the_geometry}
use Rattle.theory.proofs.UnitRows.{legal}
use Rattle.image.specs.Rebuilding.{Inserting}
use Rattle.image.specs.declared.answer.Insert.TheVariants as answers
use Rattle.messages.specs.declared.form.Form.TheVariants.{Lines}
use Rattle.options.specs.declared.ends.plans.SubscribePlan.{SubscribePlan}
use Rattle.receiver.specs.Lives.{Act, Gives, Hears, Lives}
use Rattle.receiver.specs.Polling.{Polls}
use Rattle.receiver.specs.Receiving.{Opened, Receiver, TakesDatagram, listening}
use Rattle.receiver.specs.Representing.{Core, RepresentsOpened, with_image}
use Rattle.receiver.specs.Subscribing.{AssemblesFor, RepresentsSubscriber, Subscribing, SubscriberBecomes}
use Rattle.receiver.specs.declared.receiver_core.Outcome.TheVariants as outcomes
use Rattle.sender_meaning.proofs.StreamRows.{ab, spelled, two}
use Rattle.subscriber.specs.Meetings.{HasMet, Opens}
use Rattle.subscriber.specs.Living.{IsLife, Life, WritesLives, WritesPlaces}
use Rattle.subscriber.specs.Places.{Given}
use Rattle.channel_meaning.specs.Streams.{IsFromIt, farewell}
use Rattle.channel_meaning.proofs.SentRows.{data_bytes, first_frame, second_frame, setup_bytes}
use Rattle.channel_meaning.proofs.WorldRows.{input, table}

abbrev pub subscribed : SubscribePlan → SubscribePlan
subscribed plan = record plan { end = record plan.end { stream = pos 1001; form = Lines }; session = None; greatest_term = 65536; receiver = pos 3 }

-- one of two sessions, whose second place has the same ids: its first number is 2^60, and its receiver id that less than 3
abbrev pub subscribed_to_two : SubscribePlan → SubscribePlan
subscribed_to_two plan = record (subscribed plan) { receiver = negsuc 1152921504606846972; sessions = 2 }

-- ---- its states

abbrev pub inserter : List Placed → ℕ → ℕ → Inserting
inserter stored high at = record {
  of = record { table = table; region = record { identity = record { life = 0; names = []; block = 0; first = 0 } }; units = 6144 };
  key = record { identity = identity; join = 0; consumers = 1 };
  window = 32768;
  stored = stored;
  high = high;
  floor = 0;
  seen = at ∷ [];
  looks = 0 ∷ [];
  undealt = 0;
}

-- it has stored these frames, and its consumer stands here
abbrev pub core : List Placed → ℕ → ℕ → ℕ → Core
core stored high at clock = record {
  session = pos 1;
  stream = pos 1001;
  window = 32768;
  id = pos 3;
  consumers = 1;
  image = Some (inserter stored high at);
  unmet = None;
  told = None;
  watch = record { clock = 0; active = None; deadline = 0 };
  clock = clock;
  faults = 0 ∷ 0 ∷ 0 ∷ 0 ∷ 0 ∷ 0 ∷ 0 ∷ 0 ∷ [];
}

abbrev pub state : List Placed → ℕ → ℕ → ℕ → Subscribing
state stored high at clock = record { core = core stored high at clock; assembler = record { greatest = 2097152; begun = None } }

-- ---- which receivers it shows: the image's consumer may have joined and heard what it will

abbrev consumer : ℕ → ℕ → Bool → ℕ → Assembly → Consumer
consumer at join lost heard assembly = record { join = join; at = at; lost = lost; heard_to = heard; assembly = assembly }

abbrev opened : List Placed → ℕ → Consumer → Opened
opened stored high c = record { geometry = the_geometry; image = record { join = 0; window = 32768; stored = stored; high = high; consumers = c ∷ [] } }

abbrev receiver : List Placed → ℕ → ℕ → Consumer → Receiver
receiver stored high clock c = with_image (core stored high 0 clock) 2097152 (Some (opened stored high c))

abbrev IfHeld : ℕ → (Consumer → Type 0) → Type 0
IfHeld at P = (join : ℕ) (lost : Bool) (heard : ℕ) (assembly : Assembly) → (lost ≡ false → assembly.begun ≡ None) → P (consumer at join lost heard assembly)

of_image : (stored : List Placed) (high at clock greatest : ℕ) (P : Receiver → Type 0) → IfHeld at (λ c. P (receiver stored high clock c)) → 2097152 ≡ greatest → (image : Option Opened) → RepresentsOpened (Some (inserter stored high at)) image → AssemblesFor None image
    → P (with_image (core stored high at clock) greatest image)
of_image stored high at clock greatest P each same None shown one = absurd shown
of_image stored high at clock greatest P each same (Some o) shown one =
    let c = one.0 in
    let seen : at ∷ [] ≡ c.at ∷ [] = shown.consumers ∙ ap (map (λ (d : Consumer). d.at)) one.1 in
    let here : at ≡ c.at = cc in
    let held : P (receiver stored high clock (consumer at c.join c.lost c.heard_to c.assembly)) = each c.join c.lost c.heard_to c.assembly (λ kept. sym (one.2 kept)) in
    let it : consumer at c.join c.lost c.heard_to c.assembly ≡ c = λ k. record { join = c.join; at = here k; lost = c.lost; heard_to = c.heard_to; assembly = c.assembly } in
    let same_image : opened stored high (consumer at c.join c.lost c.heard_to c.assembly) ≡ o =
    ap (opened stored high) it ∙ (λ k. record { geometry = shown.geometry k; image = record { join = shown.join k; window = shown.window k; stored = shown.stored k; high = shown.high k; consumers = sym one.1 k } }) in
    subst (λ (n : ℕ). P (with_image (core stored high at clock) n (Some o))) same (subst (λ (x : Opened). P (with_image (core stored high at clock) 2097152 (Some x))) same_image held)

of_each : (stored : List Placed) (high at clock : ℕ) (P : Receiver → Type 0) → IfHeld at (λ c. P (receiver stored high clock c)) → (r : Receiver) → RepresentsSubscriber (state stored high at clock) r → P r
of_each stored high at clock P each r shown = subst P (sym shown.core.numbers) (of_image stored high at clock r.greatest P each shown.greatest r.image shown.core.image shown.begun)

shows : (stored : List Placed) (high at clock join heard : ℕ) (lost : Bool) (assembly : Assembly) → (lost ≡ false → assembly.begun ≡ None) → RepresentsSubscriber (state stored high at clock) (receiver stored high clock (consumer at join lost heard assembly))
shows stored high at clock join heard lost assembly begun = record {
  core = record { numbers = refl; image = record { geometry = refl; join = refl; window = refl; high = refl; stored = refl; consumers = refl } };
  one = refl;
  begun = (consumer at join lost heard assembly, refl, λ kept. sym (begun kept));
  greatest = refl;
}

-- ---- it meets the SETUP

abbrev pub setup : Setup
setup = setup_fields identity 0

opens_at : OpensAt setup 32768 the_geometry 0
opens_at = record {
  geometry = record { term_length = refl; mtu = refl; initial = refl; legal = legal };
  position = record { count = 0; offset = 0; counted = refl; placed = refl; unit = refl; inside = inl (omega arith); here = refl };
  window = record { unit = refl; least = omega arith; greatest = omega arith };
}

spells_setup : SpellsDatagram (SETUP setup ∷ []) (spelling (SETUP setup))
spells_setup = (refl, ((record { sfits = omega arith }, record { sfits = omega arith }, record { sfits = omega arith }, record { sfits = omega arith }, record { sfits = omega arith }, record { sfits = omega arith }, record { sfits = omega arith }, record { sfits = omega arith }), tt), refl)

abbrev pub begins : Subscribing
begins = state [] 0 0 0

abbrev opened_first : Receiver
opened_first = receiver [] 0 0 (consumer 0 0 false 0 (record { begun = None; given = [] }))

takes_setup : TakesDatagram (listening (pos 1) (pos 1001) 32768 (pos 3) 1 2097152) 0 (spelling (SETUP setup)) (outcomes.Opened 0 ∷ []) opened_first
takes_setup = inl (SETUP setup ∷ [], spells_setup, (outcomes.Opened 0, opened_first, [], inl ((refl, refl), inl (the_geometry, 0, opens_at, refl, refl)), refl, (refl, refl)))

shows_first : RepresentsSubscriber begins opened_first
shows_first = shows [] 0 0 0 0 0 false (record { begun = None; given = [] }) (λ kept. refl)

met : (plan : SubscribePlan) → HasMet (subscribed plan) 0 1 setup 0 begins
met plan = record { receiver = opened_first; outcomes = outcomes.Opened 0 ∷ []; takes = takes_setup; shown = shows_first }

met_second : (plan : SubscribePlan) → HasMet (subscribed_to_two plan) 1152921504606846976 1 setup 0 begins
met_second plan = record { receiver = opened_first; outcomes = outcomes.Opened 0 ∷ []; takes = takes_setup; shown = shows_first }

-- ---- it hears both frames

abbrev pub frames : List Wire
frames = wire_at identity 0 (Data 192 abc) ∷ wire_at identity 64 (Data 192 ab) ∷ []

spells_frames : SpellsDatagram frames data_bytes
spells_frames = (tt, (spelled.frames.0, (spelled.frames.1.0, tt)), refl)

abbrev both_stored : List Placed
both_stored = second_frame ∷ first_frame ∷ []

hears_frames : SubscriberBecomes begins (state both_stored 128 0 1) (λ r q. TakesDatagram r 1 data_bytes (outcomes.Inserted answers.Stored ∷ outcomes.Inserted answers.Stored ∷ []) q)
hears_frames = of_each [] 0 0 0 (λ r. (s : Receiver) × TakesDatagram r 1 data_bytes (outcomes.Inserted answers.Stored ∷ outcomes.Inserted answers.Stored ∷ []) s × RepresentsSubscriber (state both_stored 128 0 1) s)
    (λ join lost heard assembly begun.
    let c = consumer 0 join lost heard assembly in (
      receiver both_stored 128 1 c,
      inl (
        frames,
        spells_frames,
        (
          outcomes.Inserted answers.Stored,
          receiver (first_frame ∷ []) 64 1 c,
          outcomes.Inserted answers.Stored ∷ [],
          inl ((refl, refl), (answers.Stored, refl, refl, refl)),
          refl,
          (outcomes.Inserted answers.Stored, receiver both_stored 128 1 c, [], inl ((refl, refl), (answers.Stored, refl, refl, refl)), refl, (refl, refl)),
        ),
      ),
      shows both_stored 128 0 1 join heard lost assembly begun,
    ))

-- ---- it gives both messages: where its consumer had lost something, it gives what it will

gives_first : SubscriberBecomes (state both_stored 128 0 1) (state both_stored 128 64 1) (λ r q. Polls r (Ok (Some abc)) q)
gives_first = of_each both_stored 128 0 1 (λ r. (s : Receiver) × Polls r (Ok (Some abc)) s × RepresentsSubscriber (state both_stored 128 64 1) s) each
  where
    each : IfHeld 0 (λ c. (s : Receiver) × Polls (receiver both_stored 128 1 c) (Ok (Some abc)) s × RepresentsSubscriber (state both_stored 128 64 1) s)
    each join false heard assembly begun =
        let c = consumer 0 join false heard assembly in let d = moved c first_frame in (
          receiver both_stored 128 1 d,
          (c, d, refl, inl (refl, record { earlier = []; last = first_frame; reads = record { chain = (refl, refl); among = (inr (inl refl), tt) }; nothing = refl; message_given = refl; short = ((λ long. omega (arith, long)), tt); after = refl }), refl),
          shows both_stored 128 64 1 join d.heard_to false d.assembly (λ kept. refl),
        )
    each join true heard assembly begun =
        let c = consumer 0 join true heard assembly in let d = passed_by c first_frame in (
          receiver both_stored 128 1 d,
          (c, d, refl, inr (refl, record { frames = first_frame ∷ []; reads = record { chain = (refl, refl); among = (inr (inl refl), tt) }; stops = ([], first_frame, refl, refl); after = refl }), refl),
          shows both_stored 128 64 1 join heard true assembly (λ kept. absurd (cc)),
        )

gives_second : SubscriberBecomes (state both_stored 128 64 1) (state both_stored 128 128 1) (λ r q. Polls r (Ok (Some ab)) q)
gives_second = of_each both_stored 128 64 1 (λ r. (s : Receiver) × Polls r (Ok (Some ab)) s × RepresentsSubscriber (state both_stored 128 128 1) s) each
  where
    each : IfHeld 64 (λ c. (s : Receiver) × Polls (receiver both_stored 128 1 c) (Ok (Some ab)) s × RepresentsSubscriber (state both_stored 128 128 1) s)
    each join false heard assembly begun =
        let c = consumer 64 join false heard assembly in let d = moved c second_frame in (
          receiver both_stored 128 1 d,
          (c, d, refl, inl (refl, record { earlier = []; last = second_frame; reads = record { chain = (refl, refl); among = (inl refl, tt) }; nothing = refl; message_given = refl; short = ((λ long. omega (arith, long)), tt); after = refl }), refl),
          shows both_stored 128 128 1 join d.heard_to false d.assembly (λ kept. refl),
        )
    each join true heard assembly begun =
        let c = consumer 64 join true heard assembly in let d = passed_by c second_frame in (
          receiver both_stored 128 1 d,
          (c, d, refl, inr (refl, record { frames = second_frame ∷ []; reads = record { chain = (refl, refl); among = (inl refl, tt) }; stops = ([], second_frame, refl, refl); after = refl }), refl),
          shows both_stored 128 128 1 join heard true assembly (λ kept. absurd (cc)),
        )

-- ---- and hears where the stream ends

abbrev last_setup : Setup
last_setup = record (setup_fields identity 128) { ttl = negsuc 0 }

spells_farewell : SpellsDatagram (SETUP last_setup ∷ []) (farewell two)
spells_farewell = (refl, ((record { sfits = omega arith }, record { sfits = omega arith }, record { sfits = omega arith }, record { sfits = omega arith }, record { sfits = omega arith }, record { sfits = omega arith }, record { sfits = omega arith }, record { sfits = omega arith }), tt), refl)

hears_end : SubscriberBecomes (state both_stored 128 128 1) (state both_stored 128 128 2) (λ r q. TakesDatagram r 2 (farewell two) (outcomes.Kept ∷ []) q)
hears_end = of_each both_stored 128 128 1 (λ r. (s : Receiver) × TakesDatagram r 2 (farewell two) (outcomes.Kept ∷ []) s × RepresentsSubscriber (state both_stored 128 128 2) s)
    (λ join lost heard assembly begun.
    let c = consumer 128 join lost heard assembly in (
      receiver both_stored 128 2 c,
      inl (SETUP last_setup ∷ [], spells_farewell, (outcomes.Kept, receiver both_stored 128 2 c, [], inl ((refl, refl), (refl, refl)), refl, (refl, refl))),
      shows both_stored 128 128 2 join heard lost assembly begun,
    ))

-- ---- its life

abbrev pub acts : List Act
acts = Hears 1 data_bytes ∷ Gives abc ∷ Gives ab ∷ Hears 2 (farewell two) ∷ []

abbrev pub ended : Subscribing
ended = state both_stored 128 128 2

pub lives : Lives begins acts ended
lives = (
  state both_stored 128 0 1,
  (outcomes.Inserted answers.Stored ∷ outcomes.Inserted answers.Stored ∷ [], hears_frames),
  (state both_stored 128 64 1, gives_first, (state both_stored 128 128 1, gives_second, (ended, (outcomes.Kept ∷ [], hears_end), refl))),
)

abbrev pub life : Life
life = record { setup = setup; opening = record { session = pos 1; geometry = the_geometry; position = 0 }; number = 0; share = 1; moment = 0; acts = acts; loss = None }

pub is_life : (plan : SubscribePlan) → IsLife (subscribed plan) life ended
is_life plan = record {
  opens = record {
    admitted = record { session = tt; stream = refl; short = omega arith; ongoing = λ end told. no end.broken told.farewell.told };
    session = refl;
    at = opens_at;
  };
  first = begins;
  met = met plan;
  lived = lives;
  lacks = tt;
}
  where
    no : (broken : Bool) → pos 0 ≡ ttl_of broken → ⊥
    no false e = absurd (cc)
    no true e = absurd (cc)

abbrev pub writes : (plan : SubscribePlan) → WritesLives (subscribed plan) 0 (Some []) 2 (Some input)
writes plan = record { images = life ∷ []; lives = (ended, is_life plan, refl, tt); counted = refl; written = refl }

-- ---- at the second of two places, at whose first no image was

abbrev pub second_life : Life
second_life = record life { number = 1152921504606846976 }

pub is_second_life : (plan : SubscribePlan) → IsLife (subscribed_to_two plan) second_life ended
is_second_life plan = record { opens = opens plan; first = begins; met = met_second plan; lived = lives; lacks = tt }
  where
    opens : (plan : SubscribePlan) → Opens (subscribed_to_two plan) setup second_life.opening
    opens plan =
        let is = (is_life plan).opens in
        record { admitted = record { session = tt; stream = refl; short = omega arith; ongoing = is.admitted.ongoing }; session = refl; at = opens_at }

abbrev pub given_second : List Given
given_second = record { place = 1; message = abc } ∷ record { place = 1; message = ab } ∷ []

abbrev pub writes_second : (plan : SubscribePlan) → WritesPlaces (subscribed_to_two plan) (Some []) 2 (Some input)
writes_second plan = record {
  lives = [] ∷ (second_life ∷ []) ∷ [];
  given = given_second;
  few = omega arith;
  each = (tt, tt, refl, ((ended, is_second_life plan, refl, tt), (omega arith, omega arith, tt), refl, tt));
  known = (omega arith, (omega arith, tt));
  counted = refl;
  written = refl;
}

-- it was handed nothing but what the sender gave out and the stream's farewell
pub from_it : IsFromIt two (setup_bytes ∷ data_bytes ∷ []) life
from_it = record { session = refl; stream = refl; setup = inl refl; heard = (inr (inr (inl refl)), (inl refl, tt)) }

pub second_from_it : IsFromIt two (setup_bytes ∷ data_bytes ∷ []) second_life
second_from_it = record { session = refl; stream = refl; setup = inl refl; heard = (inr (inr (inl refl)), (inl refl, tt)) }
