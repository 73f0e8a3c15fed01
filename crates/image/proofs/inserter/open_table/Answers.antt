use Rattle.std.proofs.Common.{◌*◌, ℕ, sym, ap, ◌∙◌, subst}
use Rattle.image_rule.specs.Rule.{Begun}
use Rattle.image_rule.proofs.Opening.{opens}
use Rattle.image.proofs.inserter.open_table.Goals as goal

pub new-opened-requires : goal.new-opened-requires
new-opened-requires c =
    opens (record { key = c.args.key.now; region = c.key.result }) c.as_slice.result.now c.in_ok-slots.slots.items c.requires.key (subst (Begun c.args.key.now) (sym c.as_slice.ensures.value) c.in_ok-words.ensures)
    (c.in_ok-slots.ensures ∙ ap (λ (u : ℕ). 8 * u) c.requires.units)
