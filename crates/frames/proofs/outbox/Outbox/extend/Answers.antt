use Rattle.std.proofs.Common.{◌∙◌, ℕ, List, ap, arith}
use Rattle.theory.specs.Wire.{spelling}
use Rattle.frames.specs.Frames.{wire}
use Rattle.frames.specs.Outgoing.{Outgoing, with_extended}
use Rattle.frames.proofs.OutgoingLemmas.{last_goes_on, some_slot}
use Rattle.frames.proofs.outbox.Outbox.extend.Goals as goal

pub returns : goal.returns
returns c =
    let o = c.self.inside in
    let bytes = spelling (wire c.args.frame.now) in
    let some = some_slot o.count o.slots.items c.requires.fits.front c.requires.fits.last (ap (λ (x : Outgoing). x.datagrams) c.self.view_is ∙ c.requires.fits.parts) in
    ap (λ (d : List (List ℕ)). record { mtu = o.mtu; datagrams = d }) (last_goes_on o.count o.slots.items c.index_mut-slot.result.now c.append.new.self bytes some (omega (arith, c.self.invariant.within, c.self.invariant.all)) c.index_mut-slot.ensures.value c.append.ensures.bytes)
    ∙ ap (λ (x : Outgoing). with_extended x bytes) c.self.view_is
