use Rattle.std.proofs.Common.{◌≡◌, ℕ, List, subst, sym, refl}
use Rattle.std.specs.Prelude.{IfSome, Option, None, Some}
use Rattle.position.specs.declared.head.FrameHead.{FrameHead}
use Rattle.shared_log.specs.Steps.Handles.{LogValue, PublisherValue}
use Rattle.shared_log.specs.Readers.{ReaderValue, ReadsFrame}
use Rattle.one_hand.specs.Readers.{Found, reader_of}
use Rattle.one_hand.specs.declared.log_hand.consumer.Consumer.{Consumer}
use Rattle.one_hand.proofs.log_hand.reading.next_as.Goals as goal

finds : (l : LogValue) (p : PublisherValue) (c : Consumer) (v r : ReaderValue) (o : Option FrameHead) (before after : List ℕ) → reader_of p c ≡ v → IfSome o (λ head. ReadsFrame l v head before r after) → IfSome o (λ head. Found l p c head before r.held after)
finds l p c v r None before after e h = tt
finds l p c v r (Some head) before after e h = record { reader = r; reads = subst (λ (x : ReaderValue). ReadsFrame l x head before r after) (sym e) h; seat = refl }

pub returns-clause-found : goal.returns-clause-found
returns-clause-found c = subst (λ (q : PublisherValue). IfSome c.next-head.result (λ head. Found c.args.log.now c.args.all c.args.consumer head c.args.block.now q c.next-head.new.block)) (sym c.into_publisher.ensures) (finds c.args.log.now c.args.all c.args.consumer c.into_reader-reader.result c.next-head.new.reader c.next-head.result c.args.block.now c.next-head.new.block (sym c.into_reader-reader.ensures) c.next-head.ensures.found)
