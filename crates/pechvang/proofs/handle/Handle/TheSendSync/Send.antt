-- A handle may go to another thread: its pass may, and the heap frees a block from any.
use Rattle.std.proofs.Common.{Bool}
use base.Fraction.{full_share}
use base.Shift.{Keyless}
use mir.Raw.{raw}
use denote.Memory.{lone}
use denote.RawPtr.{Ptr, block_ptr, null_ptr}
use denote.Param.Send.{IsSend, part_keyless, sendable, struct_send}
use denote.Struct.Owning.{shape}
use Rattle.std.proofs.Crossing.{frees}
use Rattle.std.proofs.alloc.Global.TheSendSync as heap
use Rattle.std.specs.contracts.alloc.Global as global
use Rattle.std.specs.declared.alloc.Global.{Global}
use Rattle.std.specs.declared.option.Option.TheVariants.{None, Some}
use Rattle.pechvang.specs.contracts.held.Pass as pass
use Rattle.pechvang.proofs.held.Pass.TheSendSync as sent
use Rattle.pechvang.specs.Owned.{Held, handle_owns}
use Rattle.pechvang.specs.contracts.handle.Handle.{the_row, the_type}

owned_keyless : (y : Bool) (x : Held) (p : Ptr) (a : Global) → Keyless (handle_owns y x p a)
owned_keyless y None p a = tt
owned_keyless y (Some x) null_ptr a = (tt, (tt, frees.frees a (raw (lone pass.the_row.mir)) null_ptr))
owned_keyless y (Some x) (block_ptr b o) a = (tt, (part_keyless pass.the_row sent.the_send full_share x b o, frees.frees a (raw (lone pass.the_row.mir)) (block_ptr b o)))

pub send : IsSend the_row
send = record { owned = λ d vs. ((struct_send (shape the_type) (search sendable, (heap.the_field_send, (search sendable, tt)))).owned (d.at, ((global.the_field).into d.heap, (d.is_open, tt))) vs, owned_keyless d.is_open d.held d.at d.heap); leaving = λ k d w. tt }
