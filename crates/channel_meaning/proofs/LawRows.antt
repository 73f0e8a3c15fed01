-- Rows: the small world meets every premise of the laws of both ends, and what each law says of it; and what is no run of its stream,
-- nor of what was handed over.
use Rattle.std.specs.Prelude.{◌≡◌, ℕ, ℤ, pos, negsuc, List, [], ◌∷◌, ◌++◌, Option, None, Some}
use Rattle.std.proofs.Common.{arith, ap, inl, inr, refl}
use Rattle.std.specs.List.{AllByRecursion}
use Rattle.theory.specs.Messages.{messages}
use Rattle.theory.specs.Placed.{Among}
use Rattle.theory.proofs.Rows.{abc}
use Rattle.messages.specs.Forms.{spelling}
use Rattle.messages.specs.declared.form.Form.TheVariants.{Blocks, Lines}
use Rattle.endpoint.specs.declared.udp.Route.{Route}
use Rattle.options.specs.declared.ends.plans.PublishPlan.{PublishPlan}
use Rattle.options.specs.declared.ends.plans.SubscribePlan.{SubscribePlan}
use Rattle.receiver.specs.Lives as meant
use Rattle.receiver.specs.Lives.{IsHonest, IsRunOf, IsStream, Stream}
use Rattle.receiver.specs.Receiving.{Opened, Receiver}
use Rattle.receiver.specs.Subscribing.{RepresentsSubscriber, Subscribing}
use Rattle.sender_meaning.proofs.StreamRows.{ab, is_stream, spelled, two}
use Rattle.publisher.specs.Ended.{PublishesAll}
use Rattle.subscriber.specs.Living.{IsLife, Life, given_through}
use Rattle.subscriber.specs.Places.{Given, of_place}
use Rattle.channel_meaning.specs.Books.{GivesAllHonest, IsAllOfIt, PublishesAllOfIt, WritesAllOfIt, entries_in, stream_in}
use Rattle.channel_meaning.specs.Copies.{CopiesAll, CopiesAllOfIt, IsCopy}
use Rattle.channel_meaning.specs.Several.{CopiesAllAt, CopiesAllAtEachPlace, GoesThroughAt, WritesAllAtEachPlace}
use Rattle.channel_meaning.specs.Streams.{GivesRun, GoesThrough, IsFromIt, IsItsStream, PublishesItsStream, StandsFrom, WritesWhatIsRead, farewell}
use Rattle.channel_meaning.proofs.LifeRows.{from_it, given_second, life, second_from_it, second_life, subscribed, subscribed_to_two, writes, writes_second}
use Rattle.channel_meaning.proofs.SentRows.{HasArrivedThere, acts, begins, data_bytes, ended_whole, has_sent, knows, lives, sends, setup_bytes}
use Rattle.channel_meaning.proofs.WorldRows.{first, input, its, last, planned, publishes}

-- ---- the laws, there

published : PublishesItsStream → messages 0 128 two.entries ≡ abc ∷ ab ∷ []
published law = law first.pass last.pass 0 128 (abc ∷ ab ∷ []) publishes two is_stream its

its_stream : (p : PublishPlan) (a : HasArrivedThere p) → stream_in (ended_whole p a) ≡ two
its_stream p a = refl

all_of_it : (p : PublishPlan) (a : HasArrivedThere p) → PublishesAllOfIt → IsAllOfIt (planned p) (a.route ∷ []) (Some input) (ended_whole p a)
all_of_it p a law = law (planned p) (a.route ∷ []) (Some input) (ended_whole p a)

honest_all : (p : PublishPlan) (a : HasArrivedThere p) → GivesAllHonest → AllByRecursion (IsHonest two) (setup_bytes ∷ data_bytes ∷ [])
honest_all p a law = law (planned p) (a.route ∷ []) (Some input) (ended_whole p a) spelled

goes_through : (plan : SubscribePlan) → WritesWhatIsRead → GoesThrough two (abc ∷ ab ∷ []) (subscribed plan) (life ∷ [])
goes_through plan law = law two is_stream spelled first.pass last.pass 0 128 (abc ∷ ab ∷ []) publishes its 1 begins has_sent acts sends lives knows (subscribed plan) 0 (Some []) (Some input) 2 (writes plan) (from_it, tt)

all_goes_through : (p : PublishPlan) (a : HasArrivedThere p) (plan : SubscribePlan) → WritesAllOfIt → GoesThrough two (abc ∷ ab ∷ []) (subscribed plan) (life ∷ [])
all_goes_through p a plan law = law (planned p) (a.route ∷ []) (Some input) (ended_whole p a) spelled (subscribed plan) 0 (Some []) (Some input) 2 (writes plan) (from_it, tt)

copies : (p : PublishPlan) (a : HasArrivedThere p) (plan : SubscribePlan) → CopiesAllOfIt → CopiesAll (planned p) (a.route ∷ []) input (ended_whole p a) (subscribed plan) life input
copies p a plan law = law (planned p) (a.route ∷ []) input (ended_whole p a) spelled (subscribed plan) 0 input 2 (writes plan) life refl from_it (omega arith)

-- of the second of two places
goes_through_second : (p : PublishPlan) (a : HasArrivedThere p) (plan : SubscribePlan) → WritesAllAtEachPlace → GoesThroughAt two (abc ∷ ab ∷ []) (subscribed_to_two plan) 1 given_second (second_life ∷ [])
goes_through_second p a plan law = law (planned p) (a.route ∷ []) (Some input) (ended_whole p a) spelled (subscribed_to_two plan) (Some []) (Some input) 2 (writes_second plan) 1 (second_life ∷ []) refl (second_from_it, tt)

copies_second : (p : PublishPlan) (a : HasArrivedThere p) (plan : SubscribePlan) → CopiesAllAtEachPlace → CopiesAllAt (planned p) (a.route ∷ []) input (ended_whole p a) (subscribed_to_two plan) 1 given_second second_life
copies_second p a plan law = law (planned p) (a.route ∷ []) input (ended_whole p a) spelled (subscribed_to_two plan) (Some []) (Some input) 2 (writes_second plan) 1 second_life refl second_from_it (omega arith)

-- ---- what they say of any stream

all_in_full : (p : PublishPlan) (routes : List Route) (given : Option (List ℕ)) (all : PublishesAll p routes given) → IsAllOfIt p routes given all
    → IsStream (stream_in all) × IsItsStream all.first.pass all.ends.publishes.publishes.taken (stream_in all) × (messages all.log.start all.book.tail (entries_in all) ≡ all.ends.publishes.messages)
all_in_full p routes given all is = (is.stream, is.its, is.are)

through_in_full : (x : Stream) (read : List (List ℕ)) (plan : SubscribePlan) (images : List Life) → GoesThrough x read plan images → (messages x.start x.tail x.entries ≡ read) × AllByRecursion (GivesRun x read plan) images
through_in_full x read plan images through = (through.published, through.runs)

run_in_full : (x : Stream) (read : List (List ℕ)) (plan : SubscribePlan) (l : Life) → GivesRun x read plan l
    → (t : Subscribing) × IsLife plan l t × (r : Receiver) × RepresentsSubscriber t r × IsRunOf x r.image (meant.given_in l.acts) × StandsFrom x read r.image (meant.given_in l.acts)
run_in_full x read plan l run = (run.end, run.life, run.receiver, run.shown, run.run, run.stands)

copy_in_full : (p : PublishPlan) (routes : List Route) (given : List ℕ) (all : PublishesAll p routes (Some given)) (plan : SubscribePlan) (l : Life) (output : List ℕ) → CopiesAll p routes given all plan l output
    → (messages all.log.start all.book.tail (entries_in all) ≡ all.ends.publishes.messages)
    × ((t : Subscribing) × IsLife plan l t × (r : Receiver) × RepresentsSubscriber t r × IsRunOf (stream_in all) r.image all.ends.publishes.messages)
    × (output ≡ spelling plan.end.form all.ends.publishes.messages)
    × (plan.end.form ≡ p.end.form → IsCopy p.end.form given output)
copy_in_full p routes given all plan l output copy = (copy.published, (copy.end, copy.life, copy.receiver, copy.shown, copy.run), copy.spelled, copy.copy)

place_in_full : (x : Stream) (read : List (List ℕ)) (plan : SubscribePlan) (place : ℕ) (given : List Given) (images : List Life) → GoesThroughAt x read plan place given images
    → (of_place place given ≡ given_through images) × GoesThrough x read plan images
place_in_full x read plan place given images at = (at.gave, at.through)

place_copies_in_full : (p : PublishPlan) (routes : List Route) (read : List ℕ) (all : PublishesAll p routes (Some read)) (plan : SubscribePlan) (place : ℕ) (given : List Given) (l : Life) → CopiesAllAt p routes read all plan place given l
    → (of_place place given ≡ all.ends.publishes.messages) × CopiesAll p routes read all plan l (spelling plan.end.form (of_place place given))
place_copies_in_full p routes read all plan place given l at = (at.gave, at.copies)

-- ---- what an image may have given

nothing : (o : Opened) → StandsFrom two (abc ∷ ab ∷ []) (Some o) []
nothing o = record { before = []; behind = abc ∷ ab ∷ []; parts = refl; first = λ low. refl }

second_alone_later : (o : Opened) → o.image.join ≡ 64 → StandsFrom two (abc ∷ ab ∷ []) (Some o) (ab ∷ [])
second_alone_later o joined = record { before = abc ∷ []; behind = []; parts = refl; first = λ low. absurd (omega (arith, low, joined)) }

-- ---- and what not

not_empty : (before : List (List ℕ)) (m : List ℕ) (behind : List (List ℕ)) → [] ≡ before ++ (m ∷ behind) → ⊥
not_empty [] m behind e = absurd (cc)
not_empty (b ∷ before) m behind e = absurd (cc)

-- both, in another order
turned : (o : Opened) → StandsFrom two (abc ∷ ab ∷ []) (Some o) (ab ∷ abc ∷ []) → ⊥
turned o s = no s.before s.behind s.parts
  where
    no : (before behind : List (List ℕ)) → abc ∷ ab ∷ [] ≡ before ++ (ab ∷ abc ∷ behind) → ⊥
    no [] behind e = absurd (cc)
    no (b ∷ []) behind e = absurd (cc)
    no (b ∷ c ∷ before) behind e = let rest : [] ≡ before ++ (ab ∷ abc ∷ behind) = cc in not_empty before ab (abc ∷ behind) rest

-- the first twice
twice : (o : Opened) → StandsFrom two (abc ∷ ab ∷ []) (Some o) (abc ∷ abc ∷ []) → ⊥
twice o s = no s.before s.behind s.parts
  where
    no : (before behind : List (List ℕ)) → abc ∷ ab ∷ [] ≡ before ++ (abc ∷ abc ∷ behind) → ⊥
    no [] behind e = absurd (cc)
    no (b ∷ []) behind e = absurd (cc)
    no (b ∷ c ∷ before) behind e = let rest : [] ≡ before ++ (abc ∷ abc ∷ behind) = cc in not_empty before abc (abc ∷ behind) rest

-- one that wasn't read
made_up : (o : Opened) → StandsFrom two (abc ∷ ab ∷ []) (Some o) ((97 ∷ []) ∷ []) → ⊥
made_up o s = no s.before s.behind s.parts
  where
    no : (before behind : List (List ℕ)) → abc ∷ ab ∷ [] ≡ before ++ ((97 ∷ []) ∷ behind) → ⊥
    no [] behind e = absurd (cc)
    no (b ∷ []) behind e = absurd (cc)
    no (b ∷ c ∷ before) behind e = let rest : [] ≡ before ++ ((97 ∷ []) ∷ behind) = cc in not_empty before (97 ∷ []) behind rest

-- at the start, the second alone
second_alone : (o : Opened) → o.image.join ≡ 0 → StandsFrom two (abc ∷ ab ∷ []) (Some o) (ab ∷ []) → ⊥
second_alone o joined s = no s.before s.behind (s.first (omega (arith, joined))) s.parts
  where
    no : (before behind : List (List ℕ)) → before ≡ [] → abc ∷ ab ∷ [] ≡ before ++ (ab ∷ behind) → ⊥
    no [] behind none e = absurd (cc)
    no (b ∷ before) behind none e = absurd (cc)

-- without an image any
without_image : StandsFrom two (abc ∷ ab ∷ []) None (abc ∷ []) → ⊥
without_image e = absurd (cc)

-- ---- what it may have been handed: a datagram that the sender didn't give out is none of it

not_given_out : IsFromIt two (setup_bytes ∷ []) life → ⊥
not_given_out f = no f.heard.0
  where
    no : Among data_bytes (farewell two ∷ setup_bytes ∷ []) → ⊥
    no (inl e) = absurd (cc)
    no (inr (inl e)) = absurd (cc)
    no (inr (inr never)) = never

-- nor is one that has met the SETUP of another session or stream
number_in : ℤ → ℕ
number_in (pos n) = n
number_in (negsuc n) = 0

another_session : IsFromIt (record two { identity = record two.identity { session = pos 2 } }) (setup_bytes ∷ data_bytes ∷ []) life → ⊥
unfolding number_in
another_session f = let e : 1 ≡ 2 = ap number_in f.session in omega (arith, e)

another_stream : IsFromIt (record two { identity = record two.identity { stream = pos 1002 } }) (setup_bytes ∷ data_bytes ∷ []) life → ⊥
unfolding number_in
another_stream f = let e : 1001 ≡ 1002 = ap number_in f.stream in omega (arith, e)

its_setup_wasnt_given_out : IsFromIt two (data_bytes ∷ []) life → ⊥
its_setup_wasnt_given_out f = no f.setup
  where
    no : Among setup_bytes (data_bytes ∷ []) → ⊥
    no (inl e) = absurd (cc)
    no (inr never) = never

-- ---- what is no copy: another byte, a line feed more behind a block, or two behind a line

abbrev first_byte : List ℕ → ℕ
first_byte [] = 0
first_byte (b ∷ bytes) = b

other_bytes : ◌≡◌ {A = ℕ} 98 97 → ⊥
other_bytes e = omega (arith, e)

another_byte : IsCopy Lines (97 ∷ 10 ∷ []) (98 ∷ 10 ∷ []) → ⊥
another_byte (inl e) = other_bytes (ap first_byte e)
another_byte (inr e) = other_bytes (ap first_byte e)

longer_block : IsCopy Blocks (0 ∷ 0 ∷ 0 ∷ 0 ∷ []) (0 ∷ 0 ∷ 0 ∷ 0 ∷ 10 ∷ []) → ⊥
longer_block e = absurd (cc)

two_line_feeds : IsCopy Lines (97 ∷ []) (97 ∷ 10 ∷ 10 ∷ []) → ⊥
two_line_feeds (inl e) = absurd (cc)
two_line_feeds (inr e) = absurd (cc)
