use Rattle.std.proofs.Common.{◌≡◌, ℕ, suc, List, [], ◌++◌, sym, ap, ◌∙◌, subst}
use Rattle.publication.specs.declared.pass.FrameWords.{FrameWords}
use Rattle.region.specs.declared.access.Access.{Access}
use Rattle.log_rule.specs.Claims.Closing.{handing_seats}
use Rattle.log_memory.specs.declared.view.LogView.{LogView}
use Rattle.log_memory.specs.declared.view.Site.{Site}
use Rattle.log_memory.specs.Open.{HoldsRooms, slots_in}
use Rattle.log_memory.specs.Order.{rotated}
use Rattle.log_memory.specs.Steps.{AreApart, Mine}
use Rattle.log_memory.proofs.OpenRooms.{holds_both, holds_turned}
use Rattle.log_memory.proofs.room_moves.take_over_as.Goals as goal

pub returns-clause-takes : goal.returns-clause-takes
returns-clause-takes g c =
    let t : Site = c.args.table.now.key in let m : Mine = c.args.seat.now.me in let o : Mine = c.args.other.me in let p : List FrameWords = m.0.view.pass.work.drafts in let q : List FrameWords = o.0.view.pass.work.drafts in
    let parked = c.park.ensures.told.view in let handed = c.hand_over.ensures.seat.2 in let fetched = c.fetch.ensures.told in let last = c.pass_chosen.ensures.2 in
    let mid : c.hand_over.new.seat.me.0 ≡ record m.0 { view = handing_seats m.0.view o.0.view; parked = q } =
    ap (λ (x : Mine). x.0) handed ∙ ap (λ (x : LogView). record m.0 { view = handing_seats m.0.view x.view; parked = x.parked }) parked in
    let view : c.pass_chosen.new.seat.me.0 ≡ record m.0 { view = record (handing_seats m.0.view o.0.view) { steps = suc m.0.view.steps }; parked = [] } =
    ap (λ (x : Mine). x.0) last ∙ fetched.view ∙ ap (λ (x : LogView). record x { view = record x.view { steps = suc x.view.steps }; parked = [] }) mid in
    let rooms : HoldsRooms t q m.1 c.fetch.new.seat.me.1 = subst (λ (x : List FrameWords × List (ℕ × Access)). HoldsRooms t x.0 x.1 c.fetch.new.seat.me.1) (λ j. ((mid j).parked, (handed j).1)) fetched.rooms in
    let all : HoldsRooms t (p ++ q) [] (rotated (slots_in q) c.fetch.new.seat.me.1) = holds_turned t q p c.fetch.new.seat.me.1 (holds_both t q p [] m.1 c.fetch.new.seat.me.1 rooms c.requires.holds.0) in
    let row : rotated (slots_in q) c.fetch.new.seat.me.1 ≡ c.pass_chosen.new.seat.me.1 = sym (ap (λ (x : Mine). x.1) last ∙ ap (λ (n : ℕ). rotated n c.fetch.new.seat.me.1) c.requires.chosen) in record {
      idle = (ap (λ (x : LogView). x.part.has) view ∙ c.requires.idle.0.0, ap (λ (x : LogView). x.parked) view);
      room = ap (λ (x : LogView). x.room) view;
      view = ap (λ (x : LogView). x.view) view;
      holds = subst (λ (x : List FrameWords × List (ℕ × Access)). HoldsRooms t x.0 [] x.1) (λ j. ((sym view j).view.pass.work.drafts, row j)) all;
      apart = subst (λ (x : LogView). AreApart x.view.pass.work.drafts) (sym view) (subst (λ (x : LogView). AreApart x.view.pass.work.drafts) mid fetched.apart);
    }
