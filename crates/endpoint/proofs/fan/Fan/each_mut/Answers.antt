use Rattle.std.proofs.Common.{refl}
use Rattle.endpoint.proofs.FanLemmas.{refilled}
use Rattle.endpoint.proofs.fan.Fan.each_mut.Goals as goal

pub returns : goal.returns
returns g c =
    let f = c.self.inside in
    rw (← c.self.view_is) ((refl, λ w. refilled f.ways.items f.turn f.failures f.nones f.ways.len w f.ways.ok.0), record { value = c.as_mut_slice.ensures.value; writes_back = tt })
