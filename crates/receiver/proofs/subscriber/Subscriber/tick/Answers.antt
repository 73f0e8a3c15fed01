use Rattle.std.proofs.Common.{subst, sym}
use Rattle.receiver.specs.Receiving.{ticked}
use Rattle.receiver.specs.Representing.{Core, Represents}
use Rattle.receiver.proofs.Alone.{SitsAgain, may_sit, no_move, still_represents}
use Rattle.receiver.proofs.subscriber.Subscriber.tick.Goals as goal

pub sit-requires-clause-may : goal.sit-requires-clause-may
sit-requires-clause-may c = may_sit c.self.inside.core.image c.tick-replies.new.self.image c.self.inside.reader c.self.invariant.1 c.tick-replies.ensures.sees

again : (c : goal.After-sit) → SitsAgain c.self.inside.core c.tick-replies.new.self c.sit.new.self c.self.inside.reader
again c = record { seated = c.self.invariant.1; sees = c.tick-replies.ensures.sees; stays = c.sit.ensures.stays; sits = c.sit.ensures.sits }

pub returns-clause-replies : goal.returns-clause-replies
returns-clause-replies c = rw (← c.self.view_is) (λ r s. c.tick-replies.ensures.replies r (subst (λ (x : Core). Represents x r) (sym (no_move c.self.inside.core c.tick-replies.new.self c.sit.new.self c.self.inside.reader (again c))) s.core))

pub returns-clause-state : goal.returns-clause-state
returns-clause-state c = rw (← c.self.view_is) (λ r s. record {
  core =
      still_represents c.self.inside.core c.tick-replies.new.self c.sit.new.self c.self.inside.reader (again c) (ticked r c.args.now)
      (c.tick-replies.ensures.state r (subst (λ (x : Core). Represents x r) (sym (no_move c.self.inside.core c.tick-replies.new.self c.sit.new.self c.self.inside.reader (again c))) s.core));
  one = s.one;
  begun = s.begun;
  greatest = s.greatest;
})
