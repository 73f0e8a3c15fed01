use Rattle.theory.specs.Position.{max_message}
use Rattle.shared_log.specs.Books.{IsDone}
use Rattle.publisher.proofs.Offers.{PublishesSome}
use Rattle.publisher.proofs.offering.reader.offer_all.Given as goal

abbrev pub invariant-loop-number : goal.invariant-loop-number
invariant-loop-number g l =
    IsDone l.context.state.now.log l.publisher
    × PublishesSome l.form (max_message l.context.state.now.log.identity.geometry) l.fn.offered.tail (g.I.Read.remaining l.fn.input) (g.I.Read.remaining l.input) l.fn.publisher.pass l.publisher.pass l.offered l.number
