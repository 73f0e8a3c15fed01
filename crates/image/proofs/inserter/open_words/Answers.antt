use Rattle.std.proofs.Common.{rules, ◌≡◌, ◌*◌, ◌/◌, ℕ, length, sym, ap, ◌∙◌}
use Rattle.image_rule.specs.declared.view.Key.{Key}
use Rattle.region.specs.declared.region.Region.{Region}
use Rattle.region.specs.Pooled.{all_of}
use Rattle.image.proofs.Opening.{first_rests}
use Rattle.image.proofs.inserter.open_words.Goals as goal

pub invariant_of-store : goal.invariant_of-store
invariant_of-store c =
    let key : Key = record { identity = c.args.identity; join = c.args.join / 32; consumers = c.args.consumers } in
    first_rests key c.key-place.result c.in_ok-table.seat.me c.in_ok-region.room c.in_ok-heads.heads.items c.units_of-units.ensures.key c.requires.some c.in_ok-table.ensures.seat.1
    (c.in_ok-region.ensures.1 ∙ sym (ap (λ (r : Region). r.identity) c.deref-2.ensures) ∙ sym c.key-place.ensures)
    (c.in_ok-region.ensures.2 ∙ ap (λ (u : ℕ). all_of (32 * u)) c.units_of-units.ensures.is)
    (let l : length c.in_ok-heads.heads.items ≡ c.units_of-units.result = search rules in l ∙ c.units_of-units.ensures.is)
