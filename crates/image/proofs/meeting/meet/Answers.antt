use Rattle.std.proofs.Common.{rules, ◌≡◌, length, length-set, sym, ap, subst, arith, ◌∙◌}
use Rattle.image_rule.specs.declared.view.View.{View}
use Rattle.image_rule.specs.Bits.{IsExact}
use Rattle.image_rule.specs.Reads.{Meets}
use Rattle.image_rule.specs.Rule.{attending_seat, news_seat, told_seat}
use Rattle.image_rule.specs.Steps.{Mine}
use Rattle.image_rule.proofs.Dealing.{attends, confirm, findings, meets, news, settle, tells}
use Rattle.image_rule.specs.declared.view.Held.{Held}
use Rattle.image_rule.proofs.Found.{read_on}
use Rattle.image.proofs.Resting.{rests_on}
use Rattle.image.proofs.SeatSteps.{carries_on}
use Rattle.image_rule.specs.Frames.{ring}
use Rattle.image.specs.Handles.{InserterSeat, ReaderSeat}
use Rattle.image.specs.Meeting as seats
use Rattle.image.specs.Rebuilding.{Inserting, inserting}
use Rattle.image.proofs.Meetings.{kept_met, meets_now}
use Rattle.image.proofs.meeting.meet.Goals as goal
use Rattle.image.proofs.meeting.meet.Goals.{After-load-2}

pub split_seat-news-requires : goal.split_seat-news-requires
split_seat-news-requires c = let i = c.image.inside.words in let n = c.store.inside.hand in let wide = i.wide in (search rules, omega arith, news i.table.shared.key _ n.seat.me.0 n.inserts)

pub join_seat-requires : goal.join_seat-requires
join_seat-requires c = let i = c.image.inside.words in let r = c.reader.inside.standing in let wide = i.wide in (search rules, search rules, ap (λ (m : Mine). m.1) c.split_seat-news.ensures.4, omega arith, tells i.table.shared.key _ r.seat.me.0 _ _ (λ e. let z = r.plain in omega arith) (ap (λ (m : Mine). m.0.reading.reads) c.split_seat-news.ensures.4))

pub load-requires : goal.load-requires
load-requires c = let i = c.image.inside.words in let r = c.reader.inside.standing in let wide = i.wide in (search rules, omega arith, settle i.table.shared.key _ _ _ _ (ap (λ (m : Mine). m.0.reading.reads) c.join_seat.ensures.2 ∙ r.reads))

pub split_seat-findings-requires : goal.split_seat-findings-requires
split_seat-findings-requires c =
    let i = c.image.inside.words in let r = c.reader.inside.standing in let wide = i.wide in
    (search rules, omega arith, findings i.table.shared.key _ _ (ap (λ (v : View). v.reading.reads) c.load.ensures.2.1.after ∙ ap (λ (m : Mine). m.0.reading.reads) c.join_seat.ensures.2 ∙ r.reads))

pub join_seat-requires-2 : goal.join_seat-requires-2
join_seat-requires-2 c = let i = c.image.inside.words in let wide = i.wide in (search rules, search rules, ap (λ (m : Mine). m.1) c.split_seat-findings.ensures.4, omega arith, attends i.table.shared.key _ _ _ _ (ap (λ (m : Mine). m.0.reading.reads) c.split_seat-findings.ensures.4))

pub load-requires-2 : goal.load-requires-2
load-requires-2 c = let i = c.image.inside.words in let n = c.store.inside.hand in let wide = i.wide in (search rules, omega arith, confirm i.table.shared.key _ _ _ _ (ap (λ (m : Mine). m.0.inserting) c.join_seat-2.ensures.2 ∙ ap (λ (m : Mine). m.0.inserting) c.split_seat-news.ensures.2 ∙ n.inserts))

met_views : (c : After-load-2) → Meets c.store.inside.hand.seat.me.0 c.reader.inside.standing.seat.me.0 c.load-2.new.seat.me.0 c.split_seat-findings.new.seat.me.0
met_views c =
    let v : View = c.store.inside.hand.seat.me.0 in let r : View = c.reader.inside.standing.seat.me.0 in
    meets v r c.join_seat.new.seat.me.0 c.load.new.seat.me.0 c.split_seat-findings.new.seat.me.0 c.join_seat-2.new.seat.me.0 c.load-2.new.seat.me.0
    (ap (λ (m : Mine). m.0) c.join_seat.ensures.2 ∙ ap (λ (m : Mine). told_seat r m.0) c.split_seat-news.ensures.4)
    c.load.ensures.2.1
    (ap (λ (m : Mine). m.0) c.split_seat-findings.ensures.2)
    (ap (λ (m : Mine). m.0) c.join_seat-2.ensures.2 ∙ (λ j. attending_seat (c.split_seat-news.ensures.2 j).0 (c.split_seat-findings.ensures.4 j).0))
    c.load-2.ensures.2.1

pub invariant_of-store : goal.invariant_of-store
invariant_of-store c =
    let v : View = c.store.inside.hand.seat.me.0 in let r : View = c.reader.inside.standing.seat.me.0 in
    let met : Meets v r c.load-2.new.seat.me.0 c.split_seat-findings.new.seat.me.0 = met_views c.before in
    let rests = c.store.invariant in let is = rests.inserting in let w : View = c.load-2.new.seat.me.0 in
    let held : w.held ≡ v.held = ap (λ (x : View). x.held) met.inserter in
    rests_on c.store.inside.key c.store.inside.region c.store.inside.hand.seat.me c.load-2.new.seat.me c.store.inside.room c.store.inside.heads.items
    (record {
      is_key = is.is_key;
      some = is.some;
      inserts = ap (λ (x : View). x.inserting) met.inserter ∙ is.inserts;
      seen = ap length met.seen ∙ length-set v.seen r.reading.number r.reading.unit ∙ is.seen;
      looks = ap (λ (x : View). length x.looks) met.inserter ∙ is.looks;
      exact = subst (IsExact c.store.inside.key) (sym held) is.exact;
      idle = ap (λ (x : Held). x.out) held ∙ is.idle;
    })
    (c.load-2.ensures.2.0 ∙ ap (λ (m : Mine). m.1) c.join_seat-2.ensures.2 ∙ ap (λ (m : Mine). m.1) c.split_seat-news.ensures.2)
    held rests

pub invariant_of-standing-clause-read : goal.invariant_of-standing-clause-read
invariant_of-standing-clause-read c lt =
    let v : View = c.store.inside.hand.seat.me.0 in let s = c.reader.inside.standing in let r : View = s.seat.me.0 in let now : View = c.split_seat-findings.new.seat.me.0 in
    let e : now ≡ told_seat r (news_seat v.held.got v.seen) =
    ap (λ (m : Mine). m.0) c.split_seat-findings.ensures.2 ∙ c.load.ensures.2.1.after ∙ ap (λ (m : Mine). m.0) c.join_seat.ensures.2 ∙ ap (λ (m : Mine). told_seat r m.0) c.split_seat-news.ensures.4 in
    let old = s.read lt in
    (read_on r now s.read_to v.held.got (ap (λ (x : View). x.reading.known) e) (ap (λ (x : View). x.reading.unit) e) old.0, ap (λ (x : View). x.reading.holds) e ∙ old.1)

pub invariant_of-standing-clause-carries : goal.invariant_of-standing-clause-carries
invariant_of-standing-clause-carries c =
    let v : View = c.store.inside.hand.seat.me.0 in let s = c.reader.inside.standing in let r : View = s.seat.me.0 in let now : View = c.split_seat-findings.new.seat.me.0 in
    let e : now ≡ told_seat r (news_seat v.held.got v.seen) =
    ap (λ (m : Mine). m.0) c.split_seat-findings.ensures.2 ∙ c.load.ensures.2.1.after ∙ ap (λ (m : Mine). m.0) c.join_seat.ensures.2 ∙ ap (λ (m : Mine). told_seat r m.0) c.split_seat-news.ensures.4 in
    carries_on s.units s.region s.seat.me c.split_seat-findings.new.seat.me v.held.got (e ∙ (λ j. record r { seen = (sym e j).seen; reading = record r.reading { known = (sym e j).reading.known } })) (ap (λ (x : View). x.reading.known) e)
    (ap (λ (m : Mine). m.1) c.split_seat-findings.ensures.2 ∙ c.load.ensures.2.0 ∙ ap (λ (m : Mine). m.1) c.join_seat.ensures.2) s.carries

-- what its seat and the reader's are then
abbrev store_now : (c : After-load-2) → InserterSeat
store_now c = record { of = record { table = c.load-2.new.seat.table_id; region = c.store.inside.region; units = ring c.store.inside.key }; key = c.store.inside.key; view = c.load-2.new.seat.me.0 }

abbrev reader_now : (c : After-load-2) → ReaderSeat
reader_now c = let s = c.reader.inside.standing in record { of = record { table = c.split_seat-findings.new.seat.table_id; region = s.region; units = s.units }; view = c.split_seat-findings.new.seat.me.0; read_to = s.read_to }

store_is : (c : After-load-2) → store_now c ≡ record c.inserter.inside.words { view = c.load-2.new.seat.me.0 }
store_is c =
    let table = c.load-2.ensures.0 ∙ c.join_seat-2.ensures.0 ∙ c.split_seat-news.ensures.0 in
    (λ j. record { of = record { table = table j; region = c.store.inside.region; units = ring c.store.inside.key }; key = c.store.inside.key; view = c.load-2.new.seat.me.0 })
    ∙ (λ j. record (c.store.view_is j) { view = c.load-2.new.seat.me.0 })

reader_is : (c : After-load-2) → reader_now c ≡ record c.args.reader.now { view = c.split_seat-findings.new.seat.me.0 }
reader_is c =
    let s = c.reader.inside.standing in
    let table = c.split_seat-findings.ensures.0 ∙ c.load.ensures.0 ∙ c.join_seat.ensures.0 in
    (λ j. record { of = record { table = table j; region = s.region; units = s.units }; view = c.split_seat-findings.new.seat.me.0; read_to = s.read_to })
    ∙ (λ j. record (c.reader.view_is j) { view = c.split_seat-findings.new.seat.me.0 })

met : (c : After-load-2) → Meets c.inserter.inside.words.view c.args.reader.now.view c.load-2.new.seat.me.0 c.split_seat-findings.new.seat.me.0
met c = subst (λ (x : View × View). Meets x.0 x.1 c.load-2.new.seat.me.0 c.split_seat-findings.new.seat.me.0) (λ j. ((c.store.view_is j).view, (c.reader.view_is j).view)) (met_views c)

pub invariant_of-inserter : goal.invariant_of-inserter
invariant_of-inserter c = let n = c.inserter.inside in let d : After-load-2 = c.before in kept_met n.words (store_now d) c.args.reader.now (reader_now d) n.window n.high_water n.rebuilt c.floor.ensures.rests c.inserter.invariant (met d) (store_is d) (reader_is d)

pub returns-clause-met : goal.returns-clause-met
returns-clause-met c =
    let n = c.inserter.inside in let d : After-load-2 = c.before in
    subst (λ (i : Inserting). seats.Meets i c.args.reader.now (inserting (store_now d) n.window n.high_water) (reader_now d)) c.inserter.view_is
    (meets_now n.words (store_now d) c.args.reader.now (reader_now d) n.window n.high_water n.rebuilt c.floor.ensures.rests c.inserter.invariant (met d) (store_is d) (reader_is d))
