use Rattle.std.proofs.Common.{◌∙◌, ℤ, ap, refl, w64}
use Rattle.std.proofs.lemmas.Int.{to_z-of_z}
use Rattle.frames.specs.Frames.{asks_of, status_of}
use Rattle.peer.specs.Numbering.{numbered}
use Rattle.peer.proofs.Numbered.{by_some, length_of, no_some, renamed}
use Rattle.peer.proofs.numbering.number_status.Goals as goal

pub returns-in_default-clause-numbers : goal.returns-in_default-clause-numbers
returns-in_default-clause-numbers c = record {
  status = λ flags m spells. absurd (no_some c.status_in.result _ c.in_default.is (c.status_in.ensures.only flags m spells));
  others = λ none. refl;
}

pub write_status-requires : goal.write_status-requires
write_status-requires c = length_of (asks_of c.in-Some.asks) (status_of c.in-Some.status) c.args.datagram.now c.in-Some.ensures.found

pub returns-clause-numbers : goal.returns-clause-numbers
returns-clause-numbers c =
    renamed c.args.datagram.now c.write_status.new.datagram c.args.number (asks_of c.in-Some.asks) (status_of c.in-Some.status) (status_of c.numbered-status.result) c.in-Some.ensures.found (c.numbered-status.ensures ∙ ap (λ (n : ℤ). numbered n (status_of c.in-Some.status)) (to_z-of_z w64 c.args.number c.ranges.number)) c.write_status.ensures
    (λ flags m spells. by_some c.status_in.result _ (c.in-Some.asks, c.in-Some.status) c.in-Some.is (c.status_in.ensures.only flags m spells))
