-- What a handle holds, and what it owns for that: a box with the pass, and the right to free its block.
use Rattle.std.specs.Prelude.{Bool, true, false}
use Rattle.std.specs.Borrow.{Fml}
use Rattle.std.specs.Ptr.{Ptr}
use base.Fml.{feq, fsep}
use Rattle.std.specs.declared.alloc.Global.{Global}
use Rattle.std.specs.declared.option.Option.{Option}
use Rattle.std.specs.declared.option.Option.TheVariants.{None, Some}
use Rattle.std.specs.contracts.impls.GlobalAllocator.TheImpl.{ghosts}
use Rattle.std.specs.Box.Ownership.{box_owns}
use Rattle.pechvang.specs.contracts.held.Pass.{the_row}

abbrev pub Held : Type 0
Held = Option (the_row).Denot

abbrev pub handle_owns : Bool → Held → Ptr → Global → Fml
handle_owns y (Some x) p heap = fsep (feq Bool y true) (box_owns (ghosts.dealloc_token heap) the_row p x)
handle_owns y None p heap = feq Bool y false
