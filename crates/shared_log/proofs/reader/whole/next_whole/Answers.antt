use Rattle.std.proofs.Common.{◌+◌, ◌<◌, length, sym, ap, ◌∙◌, subst, arith}
use Rattle.shared_log.specs.Readers.{Finds, IsAlone, ReaderValue}
use Rattle.shared_log.proofs.Finding.{not_data, read_part}
use Rattle.shared_log.proofs.Joined.{still_alone}
use Rattle.shared_log.proofs.Whole.{finds_longer, unread_reading}
use Rattle.shared_log.proofs.reader.whole.next_whole.Goals as goal

pub invariant_of-reader : goal.invariant_of-reader
invariant_of-reader c =
    let found = subst (λ (x : ReaderValue × ReaderValue). Finds c.args.log.now x.0 c.in-Some.head x.1) (λ j. (sym c.reader.view_is j, sym c.reader-2.view_is j)) c.in-Some.ensures.found.finds in
    let f = c.reader-2.invariant in
    record { reading = unread_reading c.args.log.now _ _ c.in-Some.head found c.reader.invariant.reading f.reading; home_is = f.home_is; freed_is = f.freed_is; identity_is = f.identity_is; start_is = f.start_is }

pub returns-then-head-bytes-clause-unread : goal.returns-then-head-bytes-clause-unread
returns-then-head-bytes-clause-unread c =
    let over = c.if-head-bytes.true in let long : 32 + length c.args.bytes.now < c.in-Some.head.frame_length = omega (arith, over) in
    finds_longer c.args.log.now c.args.reader.now c.in-Some.head c.args.bytes.now c.look.new.reader _ c.look.new.bytes c.in-Some.ensures.found c.in-Data.is long
    (ap (λ (x : ReaderValue). record x { read_to = c.reader.inside.read_to }) c.reader-2.view_is ∙ ap (λ (x : ReaderValue). record c.look.new.reader { read_to = x.read_to }) c.reader.view_is) c.in-Some.ensures.end

pub returns-then-head-bytes-clause-alone : goal.returns-then-head-bytes-clause-alone
returns-then-head-bytes-clause-alone c alone =
    let f = c.in-Some.ensures.found.finds.stays in
    subst (IsAlone c.args.log.now) (sym (ap (λ (x : ReaderValue). record x { read_to = c.reader.inside.read_to }) c.reader-2.view_is))
    (still_alone c.args.log.now c.args.reader.now (record c.look.new.reader { read_to = c.reader.inside.read_to }) alone f.pass (ap (λ (x : ReaderValue). x.place) f.same))

pub returns-else-head-bytes-clause-found : goal.returns-else-head-bytes-clause-found
returns-else-head-bytes-clause-found c =
    read_part c.args.log.now c.args.reader.now c.in-Some.head c.args.bytes.now c.look.new.reader c.look.new.bytes c.in-Some.ensures.found (λ _. (let under = c.if-head-bytes.false in omega (arith, under)))

pub returns-else-head-bytes-clause-alone : goal.returns-else-head-bytes-clause-alone
returns-else-head-bytes-clause-alone c alone = let f = c.in-Some.ensures.found.finds.stays in still_alone c.args.log.now c.args.reader.now c.look.new.reader alone f.pass (ap (λ (x : ReaderValue). x.place) f.same)

pub returns-in-Pad-clause-found : goal.returns-in-Pad-clause-found
returns-in-Pad-clause-found c = read_part c.args.log.now c.args.reader.now c.in-Some.head c.args.bytes.now c.look.new.reader c.look.new.bytes c.in-Some.ensures.found (not_data c.in-Some.head c.in-Pad.is)

pub returns-in-Pad-clause-alone : goal.returns-in-Pad-clause-alone
returns-in-Pad-clause-alone c alone = let f = c.in-Some.ensures.found.finds.stays in still_alone c.args.log.now c.args.reader.now c.look.new.reader alone f.pass (ap (λ (x : ReaderValue). x.place) f.same)
