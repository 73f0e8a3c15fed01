use Rattle.std.proofs.Common.{inl, inr, refl, sym, ap, ◌∙◌, subst, pos}
use Rattle.std.specs.Prelude.{negsuc}
use Rattle.std.specs.declared.option.Option.TheVariants.{Some}
use Rattle.pechvang.specs.declared.held.Pass.{Pass}
use Rattle.pechvang.specs.declared.held.Pass.TheVariants.{Reader}
use Rattle.pechvang.specs.Reading.{ReadsNext}
use Rattle.publication.specs.Contents.{frame_in}
use Rattle.pechvang.specs.declared.reading.Frame.{Frame}
use Rattle.shared_log.specs.declared.reader.whole.Unread.{Unread}
use Rattle.claims.specs.Passes.Reading.{Unreads}
use Rattle.pechvang.proofs.Told.{told_long}
use Rattle.pechvang.proofs.reading.next_by.Goals as goal

pub returns-in-Ok : goal.returns-in-Ok
returns-in-Ok c = subst (λ (x : Pass). ReadsNext (Some x) c.args.room.now c.args.frame.now (pos 1) c.next.new.room c.told.result (Some (Reader c.next.new.self))) (sym (c.in-Reader.is)) (inl record { after = c.next.new.self; held = refl; code_is = refl; did = record { head = c.in-Ok.head; reads = c.in-Ok.ensures.read; told_is = c.told.ensures; long = ap (λ (t : Frame). t.length) c.told.ensures ∙ told_long c.in-Ok.head c.in-Reader.reader.reader.position (frame_in c.in-Ok.ensures.read.reads.finds.frame) c.in-Ok.ensures.read.reads.finds.shown } })

pub returns-in-Err-None : goal.returns-in-Err-None
returns-in-Err-None c = subst (λ (x : Pass). ReadsNext (Some x) c.args.room.now c.args.frame.now (pos 0) c.next.new.room c.args.frame.now (Some (Reader c.next.new.self))) (sym (c.in-Reader.is)) (inr (inl (record { after = c.next.new.self; held = refl; code_is = refl; did = subst (λ (why : Unread). Unreads c.in-Reader.reader why c.args.room.now c.next.new.self c.next.new.room) c.in-Err-None.field-0-is c.in-Err-None.ensures.unread }, refl)))

pub returns-in-Err-Longer : goal.returns-in-Err-Longer
returns-in-Err-Longer c = subst (λ (x : Pass). ReadsNext (Some x) c.args.room.now c.args.frame.now (negsuc 6) c.next.new.room c.told-in-Err-Longer.result (Some (Reader c.next.new.self))) (sym (c.in-Reader.is)) (inr (inr record { after = c.next.new.self; held = refl; code_is = refl; did = record { head = c.in-Err-Longer.head; unreads = subst (λ (why : Unread). Unreads c.in-Reader.reader why c.args.room.now c.next.new.self c.next.new.room) c.in-Err-Longer.field-0-is c.in-Err-Longer.ensures.unread; told_is = c.told-in-Err-Longer.ensures } }))
