-- All that was read was written, in its form.
use Rattle.std.proofs.Common.{◌≡◌, ◌∙◌, ◌⊎◌, ℕ, ◌<◌, ◌≤◌, List, [], ◌∷◌, ◌++◌, Option, None, Some, Result, Ok, append_assoc, append-nil, length, inl, inr, refl, sym, ap, subst, arith}
use Rattle.std.specs.Io.KnownBytes.{Consumes, IsAtEnd}
use Rattle.std.specs.List.{AllByRecursion}
use Rattle.theory.specs.Position.{max_message}
use Rattle.messages.specs.Forms.{block, line, spelling}
use Rattle.messages.specs.declared.form.Form.{Form}
use Rattle.messages.specs.declared.form.Form.TheVariants.{Lines, Blocks}
use Rattle.publisher.specs.Offers.{Reads, Stops}
use Rattle.publisher.specs.declared.offering.reading.ReadingFault.{ReadingFault}
use Rattle.publisher.specs.declared.offering.reading.ReadingEnd.{ReadingEnd}
use Rattle.receiver.specs.Lives as meant
use Rattle.receiver.specs.Receiving.{Opened}
use Rattle.receiver.specs.Lives.{IsRunOf, Stream}
use Rattle.endpoint.specs.Fans.{Fanned}
use Rattle.endpoint.specs.declared.udp.Route.{Route}
use Rattle.options.specs.declared.ends.plans.PublishPlan.{PublishPlan}
use Rattle.options.specs.declared.ends.plans.SubscribePlan.{SubscribePlan}
use Rattle.peer.specs.Ties.{Tied}
use Rattle.peer.specs.declared.attendance.Attendance.{Attendance}
use Rattle.publisher.specs.Ended.{AllArrived, PublishesAll}
use Rattle.publisher.specs.Seeing.{ChannelDestination}
use Rattle.publisher.specs.declared.offering.reading.Reading.{Reading}
use Rattle.publisher.specs.declared.offering.reading.ReadingEnd.TheVariants.{All}
use Rattle.publisher.specs.declared.sender_thread.SenderPasses.{SenderPasses}
use Rattle.subscriber.specs.Living.{Life, given_through}
use Rattle.channel_meaning.specs.Books.{WritesAllOfIt, given_out, stream_in}
use Rattle.channel_meaning.specs.Copies.{CopiesAll, CopiesAllOfIt, IsCopy}
use Rattle.channel_meaning.specs.Streams.{GoesThrough, IsFromIt, StandsFrom}
use Rattle.channel_meaning.proofs.Tallies.{no_message, no_more}

-- ---- what is read to its end is spelled by its messages

-- nothing is left
at_end : (old : List ℕ) (between new : Option (List ℕ)) → between ≡ Some old → Consumes between new [] → IsAtEnd new → old ≡ []
at_end old between new is taken ended = by_new new (subst (λ (x : Option (List ℕ)). Consumes x new []) is taken) ended
  where
    by_new : (new : Option (List ℕ)) → Consumes (Some old) new [] → IsAtEnd new → old ≡ []
    by_new None taken ended = absurd taken
    by_new (Some ys) taken ended = taken ∙ ended

block_more : (greatest : ℕ) (m : List ℕ) (ms : List (List ℕ)) (old : List ℕ) (next between : Option (List ℕ)) → Consumes (Some old) next (block m) → Reads Blocks greatest next ms between
    → ((ys : List ℕ) → Reads Blocks greatest (Some ys) ms between → spelling Blocks ms ≡ ys) → block m ++ spelling Blocks ms ≡ old
block_more greatest m ms old None between first rest is = absurd first
block_more greatest m ms old (Some ys) between first rest is = ap (λ bytes. block m ++ bytes) (is ys rest) ∙ sym first

blocks_read : (greatest : ℕ) (ms : List (List ℕ)) (old : List ℕ) (between new : Option (List ℕ)) → Reads Blocks greatest (Some old) ms between → Consumes between new [] → IsAtEnd new → spelling Blocks ms ≡ old
blocks_read greatest [] old between new read taken ended = sym (at_end old between new read taken ended)
blocks_read greatest (m ∷ ms) old between new read taken ended = block_more greatest m ms old read.0 between read.1.0 read.2 (λ ys rest. blocks_read greatest ms ys between new rest taken ended)

-- behind the input's end no line is read
none_left : (greatest : ℕ) (ms : List (List ℕ)) (old : List ℕ) (between : Option (List ℕ)) → old ≡ [] → Reads Lines greatest (Some old) ms between → ms ≡ []
none_left greatest [] old between none read = refl
none_left greatest (m ∷ ms) old between none read = absurd (by_next read.0 read.1.0.1)
  where
    whole : (n : List ℕ) (ys : List ℕ) → old ≡ (n ++ 10 ∷ []) ++ ys → ⊥
    whole [] ys e = let is : [] ≡ 10 ∷ ys = sym none ∙ e in absurd (cc)
    whole (b ∷ n) ys e = let is : [] ≡ b ∷ ((n ++ 10 ∷ []) ++ ys) = sym none ∙ e in absurd (cc)

    part : (n : List ℕ) (ys : List ℕ) → old ≡ n ++ ys → 0 < length n → ⊥
    part [] ys e some = omega (arith, some)
    part (b ∷ n) ys e some = let is : [] ≡ b ∷ (n ++ ys) = sym none ∙ e in absurd (cc)

    by_next : (next : Option (List ℕ)) → (Consumes (Some old) next (line m) ⊎ (Consumes (Some old) next m × IsAtEnd next × (0 < length m))) → ⊥
    by_next None (inl first) = first
    by_next None (inr first) = first.0
    by_next (Some ys) (inl first) = whole m ys first
    by_next (Some ys) (inr first) = part m ys first.0 first.2

line_more : (greatest : ℕ) (m : List ℕ) (ms : List (List ℕ)) (old : List ℕ) (next between : Option (List ℕ)) → (Consumes (Some old) next (line m) ⊎ (Consumes (Some old) next m × IsAtEnd next × (0 < length m))) → Reads Lines greatest next ms between
    → ((ys : List ℕ) → Reads Lines greatest (Some ys) ms between → IsCopy Lines ys (spelling Lines ms)) → IsCopy Lines old (line m ++ spelling Lines ms)
line_more greatest m ms old None between (inl first) rest is = absurd first
line_more greatest m ms old None between (inr first) rest is = absurd first.0
line_more greatest m ms old (Some ys) between (inl first) rest is = more (is ys rest)
  where
    more : IsCopy Lines ys (spelling Lines ms) → IsCopy Lines old (line m ++ spelling Lines ms)
    more (inl same) = inl (ap (λ bytes. line m ++ bytes) same ∙ sym first)
    more (inr longer) = inr (ap (λ bytes. line m ++ bytes) longer ∙ sym (append_assoc (line m) ys (10 ∷ [])) ∙ ap (λ bytes. bytes ++ 10 ∷ []) (sym first))
line_more greatest m ms old (Some ys) between (inr first) rest is =
    let last : ms ≡ [] = none_left greatest ms ys between first.1 rest in
    let all : old ≡ m = first.0 ∙ ap (λ bytes. m ++ bytes) first.1 ∙ append-nil m in
    inr (ap (λ (ns : List (List ℕ)). line m ++ spelling Lines ns) last ∙ append-nil (line m) ∙ ap (λ bytes. bytes ++ 10 ∷ []) (sym all))

lines_read : (greatest : ℕ) (ms : List (List ℕ)) (old : List ℕ) (between new : Option (List ℕ)) → Reads Lines greatest (Some old) ms between → Consumes between new [] → IsAtEnd new → IsCopy Lines old (spelling Lines ms)
lines_read greatest [] old between new read taken ended = inl (sym (at_end old between new read taken ended))
lines_read greatest (m ∷ ms) old between new read taken ended = line_more greatest m ms old read.0 between read.1.0.1 read.2 (λ ys rest. lines_read greatest ms ys between new rest taken ended)

pub is_copy : (form : Form) (greatest : ℕ) (ms : List (List ℕ)) (old : List ℕ) (between new : Option (List ℕ)) → Reads form greatest (Some old) ms between → Consumes between new [] → IsAtEnd new → IsCopy form old (spelling form ms)
is_copy Lines greatest ms old between new read taken ended = lines_read greatest ms old between new read taken ended
is_copy Blocks greatest ms old between new read taken ended = blocks_read greatest ms old between new read taken ended

-- ---- as many as were read are all of them

pub all_given : (x : Stream) (read : List (List ℕ)) (image : Option Opened) (given : List (List ℕ)) → StandsFrom x read image given → length read ≤ length given → given ≡ read
all_given x read None given none many = none ∙ no_message read (subst (λ (ms : List (List ℕ)). length read ≤ length ms) none many)
all_given x read (Some o) given stands many = sym (stands.parts ∙ no_more stands.before given stands.behind (subst (λ (ms : List (List ℕ)). length ms ≤ length given) stands.parts many))

-- where it has arrived at a destination, the reading has ended at the input's end
ended_all : (r : Reading) (n : ℕ) (heard : List Attendance) → 0 < n → length heard ≡ n → AllByRecursion (AllArrived (Some r)) heard → r.ended ≡ Ok All
ended_all r n [] some many all = absurd (omega (arith, some, many))
ended_all r n (a ∷ rest) some many all = all.0.all

all_ended : (p : PublishPlan) (routes : List Route) (given : Option (List ℕ)) (all : PublishesAll p routes given) → all.reading.ended ≡ Ok All
all_ended p routes given all =
    let arrived = all.arrived.2 in
    let many : length all.heard ≡ length routes = arrived.noted.many ∙ ap (λ (s : SenderPasses (Fanned (ChannelDestination Tied))). length s.duty.device.ways) all.arrived.1.passes_are ∙ all.destinations_are.many in
    ended_all all.reading (length routes) all.heard all.some many arrived.arrived

-- of one image, which has given as many as were read
pub gave_all : (p : PublishPlan) (routes : List Route) (input : List ℕ) (all : PublishesAll p routes (Some input)) (plan : SubscribePlan) (l : Life) → GoesThrough (stream_in all) all.ends.publishes.messages plan (l ∷ [])
    → all.reading.offered.messages ≤ length (meant.given_in l.acts) → meant.given_in l.acts ≡ all.ends.publishes.messages
gave_all p routes input all plan l through many =
    let run = through.runs.0 in
    let all_read : all.reading.offered.messages ≡ length all.ends.publishes.messages = all.ends.publishes.counted in
    all_given (stream_in all) all.ends.publishes.messages run.receiver.image (meant.given_in l.acts) run.stands (omega (arith, many, all_read))

-- and whose messages, spelled, are this
pub copies_of_one : (p : PublishPlan) (routes : List Route) (input : List ℕ) (all : PublishesAll p routes (Some input)) (plan : SubscribePlan) (l : Life) (output : List ℕ) → GoesThrough (stream_in all) all.ends.publishes.messages plan (l ∷ [])
    → all.reading.offered.messages ≤ length (meant.given_in l.acts) → output ≡ spelling plan.end.form (meant.given_in l.acts) → CopiesAll p routes input all plan l output
copies_of_one p routes input all plan l output through many wrote =
    let x = stream_in all in
    let read = all.ends.publishes.messages in
    let run = through.runs.0 in
    let gave : meant.given_in l.acts ≡ read = gave_all p routes input all plan l through many in
    let is : output ≡ spelling plan.end.form read = wrote ∙ ap (spelling plan.end.form) gave in
    let stops = subst (λ (e : Result ReadingEnd ReadingFault). Stops p.end.form (max_message all.log.identity.geometry) (length read) all.ends.publishes.between all.new all.ends.publishes.behind all.last.pass e) (all_ended p routes (Some input) all) all.ends.publishes.stops in
    record {
      published = through.published;
      end = run.end;
      life = run.life;
      receiver = run.receiver;
      shown = run.shown;
      run = subst (λ (ms : List (List ℕ)). IsRunOf x run.receiver.image ms) gave run.run;
      spelled = is;
      copy = λ form. subst (λ (bytes : List ℕ). IsCopy p.end.form input bytes) (sym (is ∙ ap (λ (f : Form). spelling f read) form)) (is_copy p.end.form (max_message all.log.identity.geometry) read input all.ends.publishes.between all.new all.ends.publishes.reads stops.0 stops.1);
    }

pub copies_all_of_it : WritesAllOfIt → CopiesAllOfIt
copies_all_of_it law p routes input all spelled plan place output count w l one from many =
    let x = stream_in all in
    let each : AllByRecursion (IsFromIt x (given_out all)) w.images = subst (AllByRecursion (IsFromIt x (given_out all))) (sym one) (from, tt) in
    let through = law p routes (Some input) all spelled plan place (Some []) (Some output) count w each in
    let alone : GoesThrough x all.ends.publishes.messages plan (l ∷ []) = subst (GoesThrough x all.ends.publishes.messages plan) one through in
    let given : given_through w.images ≡ meant.given_in l.acts = ap given_through one in
    let counted : count ≡ length (meant.given_in l.acts) = w.counted ∙ ap length given in
    copies_of_one p routes input all plan l output alone (omega (arith, many, counted)) (w.written ∙ ap (spelling plan.end.form) given)
