use Rattle.std.proofs.Common.{◌≡◌, ◌∙◌, ap, arith, length, sym, refl, rules, w32, to_z, of_z, FitsSigned}
use Rattle.std.proofs.lemmas.Int.{to_z-of_z}
use Rattle.std.proofs.lemmas.List.{length-replicate}
use Rattle.theory.specs.Bytes.{Identity}
use Rattle.flow_control.specs.declared.stream.StreamFlow.{StreamFlow}
use Rattle.one_hand.specs.Stream.{Stream}
use Rattle.one_hand.specs.declared.hand_reader.HandReader.{HandReader}
use Rattle.sender.specs.Sending.{begun}
use Rattle.simulation.proofs.Identities.{same_identity}
use Rattle.simulation.proofs.SimulationOpens.{opened_shown}
use Rattle.simulation.proofs.whole_script.simulation.Goals as goal

pub invariant_of-result : goal.invariant_of-result
invariant_of-result c = record {
  room =
      let size : length c.in_ok-block.block ≡ c.mtu-2.result = ap length c.in_ok-block.ensures ∙ length-replicate c.mtu-2.result 0 in
      let log = ap (λ (s : Stream). s.identity.geometry.mtu) c.requires.opened in let mtu = c.mtu-2.ensures.value in omega (arith, size, log, mtu);
  size = search rules;
  first = search rules;
  from = search rules;
  there = search rules;
  eight = search rules;
}

pub returns-in-Ok : goal.returns-in-Ok
returns-in-Ok c =
    let line = c.args.line.now in
    let session : FitsSigned w32 c.args.line.now.session = search rules in
    let stream : FitsSigned w32 c.args.line.now.stream = search rules in
    let i : Identity = record { geometry = c.args.geometry; session = line.session; stream = line.stream } in
    let first : HandReader = record { number = 0 } in
    let same = same_identity i c.args.geometry (to_z w32 (of_z w32 line.session)) (to_z w32 (of_z w32 line.stream)) refl (to_z-of_z w32 line.session session) (to_z-of_z w32 line.stream stream) in
    opened_shown i c.args.group line.start line.readers _ c.requires.small
    (record {
      log = c.requires.opened;
      sender = c.in-Ok.ensures.made ∙ ap (λ (j : Identity). begun j line.start first c.new-flow.result) (c.new-identity.ensures ∙ sym same) ∙ ap (λ (f : StreamFlow). begun i line.start first f) c.new-flow.ensures.made;
      packets = c.new-in-Ok.ensures;
    })
    c.in_ok-subscribers.ensures.listening

pub new-requires-3-clause-begins : goal.new-requires-3-clause-begins
new-requires-3-clause-begins c = record { limit = c.new-flow.ensures.limit; most = c.new-flow.ensures.allowed }
