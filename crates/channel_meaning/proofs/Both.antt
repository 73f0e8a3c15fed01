-- What a subscriber writes of what a publisher read.
use Rattle.std.proofs.Common.{◌≡◌, ◌∙◌, ℕ, ℤ, ◌≤◌, List, [], ◌∷◌, ◌++◌, Option, None, Some, sym, ap, subst, arith}
use Rattle.std.specs.Prelude.{negsuc}
use Rattle.std.specs.List.{AllByRecursion}
use Rattle.theory.specs.Messages.{messages}
use Rattle.theory.specs.Placed.{Among}
use Rattle.theory.specs.Wire.{SETUP, spelling}
use Rattle.theory.proofs.Lists.{all_at, all_from}
use Rattle.options.specs.declared.ends.plans.SubscribePlan.{SubscribePlan}
use Rattle.receiver.specs.Receiving.{Opened, TakesDatagram, listening}
use Rattle.receiver.specs.Lives as meant
use Rattle.receiver.specs.Lives.{IsHonest, IsStream, PollsARun, Stream}
use Rattle.sender_meaning.specs.Lives.{IsSpelled, SetupsAreHonest}
use Rattle.sender_meaning.specs.StreamLives.{StreamGivesHonest, given_in_all}
use Rattle.subscriber.specs.Meetings.{id_of, window_in}
use Rattle.subscriber.specs.Living.{AreLives, Life, WritesLives}
use Rattle.channel_meaning.specs.Streams.{GivesRun, IsFromIt, PublishesItsStream, StandsFrom, WritesWhatIsRead, farewell, GoesThrough}
use Rattle.channel_meaning.proofs.Runs.{run_in}

stands : (x : Stream) → IsStream x → (read : List (List ℕ)) → messages x.start x.tail x.entries ≡ read → (image : Option Opened) (given : List (List ℕ)) → meant.IsRunOf x image given → StandsFrom x read image given
stands x is read same None given h = h
stands x is read same (Some o) given h =
    let c = h.0 in
    let run = run_in x.identity.geometry.term_length x.start x.tail x.start c.join c.at x.entries is.tiles is.entries (omega arith) in record {
      before = run.before;
      behind = run.behind;
      parts = sym same ∙ run.parts ∙ ap (λ ms. run.before ++ (ms ++ run.behind)) (sym h.3);
      first = λ start. run.first (subst (λ (p : ℕ). p ≤ x.start) (sym h.2) start);
    }

-- ---- what was handed over is honest

farewell_honest : SetupsAreHonest → (x : Stream) → IsStream x → IsSpelled x → IsHonest x (farewell x)
farewell_honest law x is spelled = law x is spelled x.tail is.tail_low (negsuc 0) (record { sfits = omega arith })

each_runs : PollsARun → (x : Stream) → IsStream x → (read : List (List ℕ)) → messages x.start x.tail x.entries ≡ read → (sent : List (List ℕ)) → IsHonest x (farewell x) → AllByRecursion (IsHonest x) sent
    → (plan : SubscribePlan) (place : ℕ) (images : List Life) → AreLives plan place images → AllByRecursion (IsFromIt x sent) images → AllByRecursion (GivesRun x read plan) images
each_runs law x is read same sent last honest plan place [] all from = tt
each_runs law x is read same sent last honest plan place (l ∷ older) all from =
    let f = l.setup in
    let life = all.1 in
    let met = life.met in
    let takes : TakesDatagram (listening x.identity.session x.identity.stream (window_in l.share f) (id_of plan l.number) 1 2097152) l.moment (spelling (SETUP f)) met.outcomes met.receiver =
    subst (λ (stream : ℤ). TakesDatagram (listening x.identity.session stream (window_in l.share f) (id_of plan l.number) 1 2097152) l.moment (spelling (SETUP f)) met.outcomes met.receiver) from.0.stream
    (subst (λ (session : ℤ). TakesDatagram (listening session f.stream (window_in l.share f) (id_of plan l.number) 1 2097152) l.moment (spelling (SETUP f)) met.outcomes met.receiver) from.0.session met.takes) in
    let heard : AllByRecursion (IsHonest x) (meant.heard_in l.acts) = all_from (IsHonest x) (meant.heard_in l.acts) (λ bytes a. all_at (IsHonest x) bytes (farewell x ∷ sent) (last, honest) (all_at (λ b. Among b (farewell x ∷ sent)) bytes (meant.heard_in l.acts) from.0.heard a)) in
    let polls = law x is (window_in l.share f) 2097152 l.moment (id_of plan l.number) (spelling (SETUP f)) met.outcomes met.receiver takes (all_at (IsHonest x) (spelling (SETUP f)) sent honest from.0.setup) life.first all.0 l.acts met.shown life.lived heard in (
      record {
        end = all.0;
        life = life;
        receiver = polls.0;
        shown = polls.1;
        run = polls.2;
        stands = stands x is read same polls.0.image (meant.given_in l.acts) polls.2;
      },
      each_runs law x is read same sent last honest plan place older all.3 from.1,
    )

-- where what was given out is honest for the stream that was published
pub writes_honest : SetupsAreHonest → PollsARun → (x : Stream) → IsStream x → IsSpelled x → (read : List (List ℕ)) → messages x.start x.tail x.entries ≡ read → (sent : List (List ℕ)) → AllByRecursion (IsHonest x) sent
    → (plan : SubscribePlan) (place : ℕ) (before after : Option (List ℕ)) (count : ℕ) (w : WritesLives plan place before count after) → AllByRecursion (IsFromIt x sent) w.images → GoesThrough x read plan w.images
writes_honest one law x is spelled read same sent honest plan place before after count w from = record {
  published = same;
  runs = each_runs law x is read same sent (farewell_honest one x is spelled) honest plan place w.images w.lives from;
}

pub writes_what_is_read : SetupsAreHonest → PublishesItsStream → StreamGivesHonest → PollsARun → WritesWhatIsRead
writes_what_is_read one published gives law x is spelled p q tail to read h its n s t sent sends lives known plan place before after count w from =
    writes_honest one law x is spelled read (published p q tail to read h x is its) (given_in_all sent) (gives x is spelled n s t sent sends lives known).0 plan place before after count w from
