use Rattle.std.proofs.Common.{◌≡◌, sym, ap, ◌∙◌, subst, arith}
use Rattle.log_rule.specs.Meetings.{Steady, meeting, was_shown}
use Rattle.log_memory.specs.Steps.{Mine}
use Rattle.shared_log.specs.Steps.Handles.{PublisherValue}
use Rattle.shared_log.proofs.Together.{meets, shown_is}
use Rattle.shared_log.proofs.steps.meeting.meet_as.Goals as goal

pub returns : goal.returns
returns g c =
    let one : PublisherValue = c.args.one.now in let other : PublisherValue = c.args.other.now in let settled = c.settle.ensures.told.1.told in let settled_too = c.settle-2.ensures.told.1.told in
    let one_is : c.settle.new.seat.me.0.view.pass ≡ one.pass = settled.3.same ∙ ap (λ (p : PublisherValue). p.pass) c.one.view_is in
    let other_is : c.lift-lifted.result.me.0.view.pass ≡ other.pass = ap (λ (m : Mine). m.0.view.pass) c.lift-lifted.ensures.dealt.1 ∙ settled_too.3.same ∙ ap (λ (p : PublisherValue). p.pass) c.other.view_is in
    let together : c.meet.new.seat.me.0.view.pass ≡ meeting one.pass other.pass = ap (λ (m : Mine). m.0.view.pass) c.meet.ensures.seat.2 ∙ (λ i. meeting (one_is i) (other_is i)) in
    let steady_one : Steady one.pass = subst Steady (ap (λ (p : PublisherValue). p.pass) c.one.view_is) settled.3.steady in let steady_other : Steady other.pass = subst Steady (ap (λ (p : PublisherValue). p.pass) c.other.view_is) settled_too.3.steady in
    let same = c.requires.other.identity ∙ sym c.requires.one.identity in let from = c.requires.other.start ∙ sym c.requires.one.start in
    let stays = c.greatest_shown-tail.ensures.stays in let parted = c.part_again-second.ensures.seat in let second = c.part_again-second.ensures.dealt in let back = c.lower.ensures.seat in
    let top = shown_is c.meet.new.seat.me.0.view.pass c.greatest_shown-tail.new.seat.me.0.view.pass c.greatest_shown-tail.result stays.pass c.greatest_shown-tail.ensures.told.shown in
    let table : c.part_again-second.new.seat.table_id ≡ c.one.inside.seat.table_id = parted.0 ∙ stays.of ∙ c.meet.ensures.seat.0 ∙ c.settle.ensures.seat.0 in
    let table_too : c.lower.new.seat.table_id ≡ c.other.inside.seat.table_id = back.0 ∙ c.lift-lifted.ensures.seat.0 ∙ c.settle-2.ensures.seat.0 in
    meets one other _ _ c.meet.new.seat.me.0.view.pass c.meet.new.seat.me.0.view.controls c.greatest_shown-tail.new.seat.me.0.view.controls c.greatest_shown-tail.result together (ap (λ (m : Mine). m.0.view.controls) c.meet.ensures.seat.2) (ap (λ (m : Mine). m.0.view.controls) parted.2) c.greatest_shown-tail.ensures.told steady_one steady_other same from
    record {
      of = (λ j. record { table = table j; region = c.one.inside.key.identity }) ∙ ap (λ (p : PublisherValue). p.of) c.one.view_is;
      pass = ap (λ (m : Mine). m.0.view.pass) parted.2 ∙ (λ i. was_shown (top i) (c.requires.chosen.0 i));
      sure = ap (λ (m : Mine). m.0.view.sure) parted.2;
      freed = ap (λ (m : Mine). m.0.room.freed) parted.2 ∙ ap (λ r. r.freed) stays.room ∙ ap (λ (m : Mine). m.0.room.freed) c.meet.ensures.seat.2 ∙ ap (λ r. r.freed) c.settle.ensures.told.1.room ∙ ap (λ (p : PublisherValue). p.freed) c.one.view_is;
    }
    record {
      of = (λ j. record { table = table_too j; region = c.other.inside.key.identity }) ∙ ap (λ (p : PublisherValue). p.of) c.other.view_is;
      pass = ap (λ (m : Mine). m.0.view.pass) back.2 ∙ ap (λ (m : Mine). m.0.view.pass) second.1 ∙ (λ i. was_shown (top i) (c.requires.chosen.1 i));
      sure = ap (λ (m : Mine). m.0.view.sure) back.2;
      freed = ap (λ (m : Mine). m.0.room.freed) back.2 ∙ ap (λ (m : Mine). m.0.room.freed) c.lift-lifted.ensures.seat.2 ∙ ap (λ r. r.freed) c.settle-2.ensures.told.1.room ∙ ap (λ (p : PublisherValue). p.freed) c.other.view_is;
    }
    (parted.1 ∙ stays.seat ∙ c.meet.ensures.seat.1 ∙ c.settle.ensures.seat.1 ∙ ap (λ (p : PublisherValue). p.seat) c.one.view_is) (
      (let split = ap (λ (m : Mine). m.0.view.steps) parted.2 in let shown = c.greatest_shown-tail.ensures.steps in let joined = ap (λ (m : Mine). m.0.view.steps) c.meet.ensures.seat.2 in let once = settled.1 in let first = ap (λ (p : PublisherValue). p.steps) c.one.view_is in omega (arith, split, shown, joined, once, first)),
      ap (λ (m : Mine). m.0.view.steps) back.2,
    )
