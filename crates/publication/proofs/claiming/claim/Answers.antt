use Rattle.std.proofs.Common.{◌≡◌, ℕ, ◌≤◌, List, ap, arith, length}
use Rattle.std.proofs.lemmas.Result.{IfErr-weaker, IfOk-weaker}
use Rattle.std.specs.Prelude.{IfErr, IfOk, Result, Ok, Err}
use Rattle.publication.specs.declared.looking.Look.TheVariants as looks
use Rattle.publication.specs.declared.pass.Pass.{Pass}
use Rattle.publication.specs.declared.step.WordStep.{WordStep}
use Rattle.publication.specs.declared.refusal.Refusal.{Refusal}
use Rattle.publication.specs.Claims.{Claimed, Justified, exactly, padding_stores}
use Rattle.publication.specs.Looks.{Granted, Looked, Tripping}
use Rattle.publication.proofs.Steppings.{calls_as, calls_further, frames_kept, none_padded, padded_behind}
use Rattle.publication.proofs.Refusing.{claimed, looked_keeps, refused_at_end, refused_looking, refused_tripping}
use Rattle.publication.proofs.Justifying.{few}
use Rattle.publication.proofs.claiming.claim.Goals as goal

-- few word steps, whether it fitted or not
few_added : (p x q : Pass) (size count : ℕ) (answer : Result ℕ Refusal) → Looked p (looks.Open count) x → IfOk answer (λ start. Granted x count size start q) → IfErr answer (λ why. Tripping x count size why q) → length q.call ≤ 7
few_added p x q size count (Ok start) look granted tripped = let n = ap (λ (xs : List WordStep). length xs) (claimed p size x q start count look granted).call in omega (arith, n)
few_added p x q size count (Err why) look granted tripped = few p q size why (refused_tripping p size x q why count look tripped)

pub returns-in-Refused-clause-called : goal.returns-in-Refused-clause-called
returns-in-Refused-clause-called g c =
    calls_as g.W.WordCalls.fits g.W.WordCalls.pass_of g.W.WordCalls.name g.W.WordCalls.id g.W.WordCalls.took _ _ _ _ (exactly 0) padding_stores c.in-Refused.ensures.called
    (let e = frames_kept (g.W.WordCalls.pass_of c.args.words.now c.args.pass.now) (g.W.WordCalls.pass_of c.look_at.new.words c.look_at.new.pass) (looked_keeps (g.W.WordCalls.pass_of c.args.words.now c.args.pass.now) (looks.Refused c.in-Refused.refusal) (g.W.WordCalls.pass_of c.look_at.new.words c.look_at.new.pass) c.in-Refused.ensures.looked) in let z : 0 ≡ padding_stores (g.W.WordCalls.pass_of c.args.words.now c.args.pass.now) (g.W.WordCalls.pass_of c.look_at.new.words c.look_at.new.pass) = omega (arith, e) in z)

pub returns-in-UsedUp-clause-called : goal.returns-in-UsedUp-clause-called
returns-in-UsedUp-clause-called g c =
    calls_further g.W.WordCalls.fits g.W.WordCalls.pass_of g.W.WordCalls.name g.W.WordCalls.id g.W.WordCalls.took g.met.W.WordCalls.more _ _ _ _ _ _ (exactly 0) (exactly 0) padding_stores c.in-UsedUp.ensures.called c.turn_from.ensures.part
    (few (g.W.WordCalls.pass_of c.args.words.now c.args.pass.now) (g.W.WordCalls.pass_of c.turn_from.new.words c.turn_from.new.pass) c.args.size c.turn_from.result (refused_at_end (g.W.WordCalls.pass_of c.args.words.now c.args.pass.now) c.args.size (g.W.WordCalls.pass_of c.look_at.new.words c.look_at.new.pass) (g.W.WordCalls.pass_of c.turn_from.new.words c.turn_from.new.pass) c.turn_from.result c.in-UsedUp.count c.in-UsedUp.ensures.looked c.turn_from.ensures.turns c.turn_from.ensures.why))
    (none_padded (g.W.WordCalls.pass_of c.args.words.now c.args.pass.now) (g.W.WordCalls.pass_of c.look_at.new.words c.look_at.new.pass) (g.W.WordCalls.pass_of c.turn_from.new.words c.turn_from.new.pass) c.in-UsedUp.ensures.looked.after c.turn_from.ensures.turns.after)

pub returns-in-Open-clause-called : goal.returns-in-Open-clause-called
returns-in-Open-clause-called g c =
    calls_further g.W.WordCalls.fits g.W.WordCalls.pass_of g.W.WordCalls.name g.W.WordCalls.id g.W.WordCalls.took g.met.W.WordCalls.more _ _ _ _ _ _ (exactly 0) padding_stores padding_stores c.in-Open.ensures.called c.add_frames.ensures.part
    (few_added (g.W.WordCalls.pass_of c.args.words.now c.args.pass.now) (g.W.WordCalls.pass_of c.look_at.new.words c.look_at.new.pass) (g.W.WordCalls.pass_of c.add_frames.new.words c.add_frames.new.pass) c.args.size c.in-Open.count c.add_frames.result c.in-Open.ensures.looked c.add_frames.ensures.accepted c.add_frames.ensures.refused)
    (padded_behind (g.W.WordCalls.pass_of c.args.words.now c.args.pass.now) (g.W.WordCalls.pass_of c.look_at.new.words c.look_at.new.pass) (g.W.WordCalls.pass_of c.add_frames.new.words c.add_frames.new.pass) c.in-Open.ensures.looked.after)

pub returns-in-Open-clause-refused : goal.returns-in-Open-clause-refused
returns-in-Open-clause-refused g c =
    IfErr-weaker c.add_frames.result (λ (why : Refusal). Tripping (g.W.WordCalls.pass_of c.look_at.new.words c.look_at.new.pass) c.in-Open.count c.args.size why (g.W.WordCalls.pass_of c.add_frames.new.words c.add_frames.new.pass)) (λ (why : Refusal). Justified (g.W.WordCalls.pass_of c.args.words.now c.args.pass.now) c.args.size why (g.W.WordCalls.pass_of c.add_frames.new.words c.add_frames.new.pass))
    (λ why t. refused_tripping (g.W.WordCalls.pass_of c.args.words.now c.args.pass.now) c.args.size (g.W.WordCalls.pass_of c.look_at.new.words c.look_at.new.pass) (g.W.WordCalls.pass_of c.add_frames.new.words c.add_frames.new.pass) why c.in-Open.count c.in-Open.ensures.looked t) c.add_frames.ensures.refused

pub returns-in-Refused-clause-refused : goal.returns-in-Refused-clause-refused
returns-in-Refused-clause-refused g c = refused_looking (g.W.WordCalls.pass_of c.args.words.now c.args.pass.now) c.args.size (g.W.WordCalls.pass_of c.look_at.new.words c.look_at.new.pass) c.in-Refused.refusal c.in-Refused.ensures.looked

pub returns-in-UsedUp-clause-refused : goal.returns-in-UsedUp-clause-refused
returns-in-UsedUp-clause-refused g c = refused_at_end (g.W.WordCalls.pass_of c.args.words.now c.args.pass.now) c.args.size (g.W.WordCalls.pass_of c.look_at.new.words c.look_at.new.pass) (g.W.WordCalls.pass_of c.turn_from.new.words c.turn_from.new.pass) c.turn_from.result c.in-UsedUp.count c.in-UsedUp.ensures.looked c.turn_from.ensures.turns c.turn_from.ensures.why

pub returns-in-Open-clause-accepted : goal.returns-in-Open-clause-accepted
returns-in-Open-clause-accepted g c =
    IfOk-weaker c.add_frames.result (λ (start : ℕ). Granted (g.W.WordCalls.pass_of c.look_at.new.words c.look_at.new.pass) c.in-Open.count c.args.size start (g.W.WordCalls.pass_of c.add_frames.new.words c.add_frames.new.pass)) (λ (start : ℕ). Claimed (g.W.WordCalls.pass_of c.args.words.now c.args.pass.now) c.args.size start (g.W.WordCalls.pass_of c.add_frames.new.words c.add_frames.new.pass))
    (λ start t. claimed (g.W.WordCalls.pass_of c.args.words.now c.args.pass.now) c.args.size (g.W.WordCalls.pass_of c.look_at.new.words c.look_at.new.pass) (g.W.WordCalls.pass_of c.add_frames.new.words c.add_frames.new.pass) start c.in-Open.count c.in-Open.ensures.looked t) c.add_frames.ensures.accepted
