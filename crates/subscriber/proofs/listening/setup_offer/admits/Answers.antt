use Rattle.std.proofs.Common.{rules, ◌≤◌, ◌≡◌}
use Rattle.std.proofs.lemmas.Int.{to_z-of_z}
use Rattle.std.specs.Int.{w32}
use Rattle.std.specs.Prelude.{FitsSigned, IsTrue}
use Rattle.subscriber.specs.Meetings.{bytes_of}
use Rattle.subscriber.proofs.listening.setup_offer.admits.Goals as goal

pub returns : goal.returns
returns c =
    let session : FitsSigned w32 c.args.setup.now.session = search rules in
    let length : FitsSigned w32 c.args.setup.now.term_length = search rules in
    let takes = simp to_z-of_z at c.takes_session.ensures in
    let taken : IsTrue c.takes_session.result = search rules in
    let stream : c.args.setup.now.stream ≡ c.args.plan.now.end.stream = search rules in
    let bytes = simp to_z-of_z at c.bytes_of.ensures in
    let short : bytes_of c.args.setup.now.term_length ≤ c.args.plan.now.greatest_term = rw bytes at c.if-bytes_of-plan.false in
    (λ t. record { session = takes.0 taken; stream = stream; short = short; ongoing = c.is_ongoing.ensures.0 t }, λ a. c.is_ongoing.ensures.1 a.ongoing)
