use Rattle.std.proofs.Common.{refl, subst, sym, ap, ◌∙◌}
use Rattle.theory.specs.Bytes.{Identity}
use Rattle.theory.specs.Position.{IsGeometry}
use Rattle.publication.specs.declared.pass.Pass.{Pass}
use Rattle.publication.specs.Steps.{geometry_of}
use Rattle.speed.proofs.Messages.{Kept, claimed, claims, one_frame, refused, refused_idle}
use Rattle.speed.proofs.rounds.claiming.claim_once.Goals as goal

pub returns-in-Ok-clause-accepted : goal.returns-in-Ok-clause-accepted
returns-in-Ok-clause-accepted c =
    let l = c.args.log.now in let p = c.args.claimant in let r = c.commit.result.0 in let s = c.requires.sender in
    let opened = c.in-Ok.ensures.accepted.opened in let ended = c.commit.ensures.committed in
    let legal : IsGeometry (geometry_of p.pass) = subst (λ (i : Identity). IsGeometry i.geometry) (sym s.done.idle.of.identity) c.requires.legal in
    let kept : Kept p.pass 1 r.pass = subst (Kept p.pass 1) (sym ended.pass) (claimed p.pass c.in-Ok.claim.publisher.pass c.in-Ok.claim.start _ (one_frame _ 200 legal refl) s.done.ended opened) in
    claims l l p r 1 s refl ended.of (ap (λ (v : Pass). v.right.armed) ended.pass ∙ opened.claimed.idle) kept

pub returns-in-Err-clause-refused : goal.returns-in-Err-clause-refused
returns-in-Err-clause-refused c =
    let l = c.args.log.now in let p = c.args.claimant in let d = c.in-Err.denied in let s = c.requires.sender in
    let h = c.in-Err.ensures.denied in
    claims l l p d.claimant 0 s refl h.call.of (refused_idle p.pass 200 d.refusal d.claimant.pass h.refused s.done.idle.unarmed) (refused p.pass 200 d.refusal d.claimant.pass h.refused)
