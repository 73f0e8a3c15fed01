use Rattle.std.proofs.Common.{◌≡◌, ℕ, suc, ◌+◌, ◌*◌, ◌/◌, ◌%◌, [], drop, sym, ap, ◌∙◌, subst, arith}
use Rattle.log_memory.specs.declared.view.LogView.{LogView}
use Rattle.log_memory.specs.declared.view.Site.{Site}
use Rattle.log_memory.specs.Places.{slot_of}
use Rattle.log_memory.specs.Rule.{ring}
use Rattle.log_memory.specs.Steps.{Carries, IsRoomAt}
use Rattle.log_memory.proofs.Frees.{carries_drop}
use Rattle.log_memory.proofs.frames.give_frame.Goals as goal

count : (b : ℕ) → b % 32 ≡ 0 → 8 * (b / 32) ≡ b / 4
count b w = omega arith

pub give_room-requires-clause-may : goal.give_room-requires-clause-may
give_room-requires-clause-may c =
    let t : Site = c.args.memory.now.table.shared.key in let o = c.requires.out in let same : c.deal_room.new.seat.me.0 ≡ c.args.seat.now.me.0 = c.deal_room.ensures.seat.2 in
    let out : c.deal_room.new.seat.me.0.room.out ≡ c.args.bytes = ap (λ (v : LogView). v.room.out) same ∙ o.out in let some = o.some in record {
      keeper = ap (λ (v : LogView). v.view.pass.keeping.right) same ∙ o.keeper;
      some = omega arith;
      before = [];
      carries = subst (λ (x : ℕ × ℕ). Carries (IsRoomAt t) x.0 x.1 [] c.deal_room.new.seat.me.1)
          (λ j. ((c.slot.ensures.is ∙ ap (λ (p : ℕ). slot_of (ring t) p 0) (sym (ap (λ (v : LogView). v.room.freed) same ∙ o.freed_is))) j, (count c.args.bytes o.whole ∙ ap (λ (n : ℕ). n / 4) (sym out)) j)) c.deal_room.ensures.row;
    }

pub returns-clause-gives : goal.returns-clause-gives
returns-clause-gives c =
    let t : Site = c.args.memory.now.table.shared.key in let o = c.requires.out in let same : c.deal_room.new.seat.me.0 ≡ c.args.seat.now.me.0 = c.deal_room.ensures.seat.2 in let g = c.give_room.ensures.told in
    let out : c.deal_room.new.seat.me.0.room.out ≡ c.args.bytes = ap (λ (v : LogView). v.room.out) same ∙ o.out in record {
      carried = g.carried ∙ ap (λ (n : ℕ). drop (n / 4) c.deal_room.new.seat.me.1) out ∙ ap (λ (n : ℕ). drop n c.deal_room.new.seat.me.1) (sym (count c.args.bytes o.whole)) ∙ carries_drop (IsRoomAt t) c.slot.result (8 * (c.args.bytes / 32)) [] c.deal_room.new.seat.me.1 c.deal_room.ensures.row;
      part = g.part ∙ ap (λ (v : LogView). v.part) same;
      room = g.room ∙ (λ j. record { freed = (same j).room.freed + out j; out = 0 });
      parked = g.parked ∙ ap (λ (v : LogView). v.parked) same;
      rests = g.rests ∙ ap (λ (v : LogView). record v.view { steps = suc v.view.steps }) same;
    }
