use Rattle.std.proofs.Common.{◌≡◌, None, map, subst, sym, ap, ◌∙◌}
use Rattle.std.specs.Prelude.{option_map}
use Rattle.std.specs.Option.{option_to_list}
use Rattle.frames.specs.Frames.{nak_of, status_of}
use Rattle.theory.specs.Control.{asking_at}
use Rattle.theory.specs.Wire.{NAK, SM}
use Rattle.receiver.specs.Representing.{Core, ImageLooks, ImageSeesOn, Represents, core_seen_as}
use Rattle.receiver.proofs.Meeting.{TicksBy, at_tick, tick_replies, tick_state}
use Rattle.receiver.proofs.receiver_core.ReceiverCore.tick.Goals as goal

ticked_is : (c : goal.After-miss-nak) → c.ask-asking.new.self ≡ at_tick c.args.self.now c.args.now
ticked_is c = c.ask-asking.ensures.state ∙ ap (λ (v : Core). record v { unmet = None }) c.see.ensures

by : (c : goal.After-miss-nak) → TicksBy c.args.self.now c.tell-status.new.self c.miss-nak.new.self c.args.now (map (λ f. SM 0 (status_of f)) (option_to_list c.tell-status.result)) (map (λ f. NAK (nak_of f)) (option_to_list c.miss-nak.result))
by c = record {
  told = λ r s. c.tell-status.ensures.told r (subst (λ (v : Core). Represents (core_seen_as v c.tell-status.new.self) r) (sym (ticked_is c)) s);
  noted = λ r s. c.tell-status.ensures.state r (subst (λ (v : Core). Represents (core_seen_as v c.tell-status.new.self) r) (sym (ticked_is c)) s);
  missed = c.miss-nak.ensures.missed;
  scanned = c.miss-nak.ensures.state;
  image = c.miss-nak.ensures.image;
}

pub returns-clause-replies : goal.returns-clause-replies
returns-clause-replies c =
    tick_replies c.args.self.now c.tell-status.new.self c.miss-nak.new.self c.args.now (record { asking = c.ask-asking.result; nak = c.miss-nak.result; status = c.tell-status.result })
    (c.ask-asking.ensures.asked ∙ ap (λ (v : Core). option_map (λ h. asking_at h v.id) v.unmet) c.see.ensures)
    (by c)

pub returns-clause-state : goal.returns-clause-state
returns-clause-state c = tick_state c.args.self.now c.tell-status.new.self c.miss-nak.new.self c.args.now _ _ (by c)

pub returns-clause-sees : goal.returns-clause-sees
returns-clause-sees c = subst (ImageSeesOn c.args.self.now.image) (sym c.miss-nak.ensures.image) (subst (λ (v : Core). ImageSeesOn v.image c.tell-status.new.self.image) (ticked_is c) c.tell-status.ensures.sees)

pub returns-clause-looks : goal.returns-clause-looks
returns-clause-looks c = subst (ImageLooks c.args.self.now.image) (sym c.miss-nak.ensures.image) (subst (λ (v : Core). ImageLooks v.image c.tell-status.new.self.image) (ticked_is c) c.tell-status.ensures.looks)
