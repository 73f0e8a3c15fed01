-- A run's subscriber that has tallied as many messages as its stream has.
use Rattle.std.proofs.Common.{◌≡◌, ◌∙◌, ℕ, ◌≤◌, List, [], ◌∷◌, ◌++◌, Option, None, Some, length, length-append, append-nil, refl, sym, subst, arith}
use Rattle.theory.specs.Messages.{messages}
use Rattle.image.specs.Rebuilding.{Inserting, join_of}
use Rattle.receiver.specs.Lives.{IsStream, Stream}
use Rattle.run_parties.specs.Runs.{GivesARun, TalliesARun}
use Rattle.run_parties.specs.Tallies.{Counted, IsTallyOf}
use Rattle.run.specs.Streams.{IsRunStream, RunIsAStream, stream_of}
use Rattle.channel_meaning.specs.Tallies.{TalliesAll, TalliesAllOfARun}
use Rattle.channel_meaning.proofs.Runs.{run_in}

pub no_more : (before given behind : List (List ℕ)) → length (before ++ (given ++ behind)) ≤ length given → before ++ (given ++ behind) ≡ given
no_more [] given [] few = append-nil given
no_more [] given (b ∷ bs) few = absurd (let n = length-append given (b ∷ bs) in omega arith)
no_more (b ∷ bs) given behind few = absurd (let n = length-append bs (given ++ behind) in let m = length-append given behind in omega arith)

pub no_message : (ms : List (List ℕ)) → length ms ≤ 0 → [] ≡ ms
no_message [] few = refl
no_message (m ∷ ms) few = absurd (omega arith)

all_of : (x : Stream) → IsStream x → (image : Option Inserting) (t : Counted) → TalliesARun x image t → length (messages x.start x.tail x.entries) ≤ t.polled → IsTallyOf (messages x.start x.tail x.entries) t
all_of x is None t run few = subst (λ ms. IsTallyOf ms t) (no_message (messages x.start x.tail x.entries) (let m = run.many in omega arith)) run
all_of x is (Some i) t run few =
    let j = join_of i in let given = messages j run.0 x.entries in
    let in_all = run_in x.identity.geometry.term_length x.start x.tail x.start j run.0 x.entries is.tiles is.entries (omega arith) in
    let parts : messages x.start x.tail x.entries ≡ in_all.before ++ (given ++ in_all.behind) = in_all.parts in
    subst (λ ms. IsTallyOf ms t) (sym (parts ∙ no_more in_all.before given in_all.behind (subst (λ ms. length ms ≤ length given) parts (let m = run.1.many in omega arith)))) run.1

pub tallies_all : GivesARun → TalliesAll
tallies_all law x is session stream g id first core acts new lives honest t polled few = all_of x is core.image t (law x is session stream g id first core acts new lives honest t polled) few

pub tallies_all_of_a_run : RunIsAStream → TalliesAllOfARun
tallies_all_of_a_run law plan o p =
    let s : IsRunStream plan o p = law plan o p in
    record {
      is = s;
      all = λ g id first core acts new lives honest t polled few. all_of (stream_of p.log o.book s.closes.entries) s.stream core.image t (s.tallies g id first core acts new lives honest t polled) few;
    }
