-- A subscriber of what a sender gave out.
use Rattle.theory.specs.Placed.{Among}
use Rattle.theory.proofs.Lists.{all_at, all_weaker}
use Rattle.receiver.specs.Lives as meant
use Rattle.receiver.specs.Lives.{IsHonest, PollsARun}
use Rattle.sender_meaning.specs.StreamLives.{PollsWhatIsSent, StreamGivesHonest, given_in_all}

pub polls_what_is_sent : StreamGivesHonest → PollsARun → PollsWhatIsSent
polls_what_is_sent honest run x is spelled n s t sent sends lives known window greatest moment id first outcomes r taken came u v acts shown lived all =
    let given = (honest x is spelled n s t sent sends lives known).0 in
    run x is window greatest moment id first outcomes r taken (all_at (IsHonest x) first (given_in_all sent) given came) u v acts shown lived
    (all_weaker (λ bytes. Among bytes (given_in_all sent)) (IsHonest x) (λ bytes a. all_at (IsHonest x) bytes (given_in_all sent) given a) (meant.heard_in acts) all)
