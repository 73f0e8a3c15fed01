use Rattle.std.proofs.Common.{rules, ◌≡◌, true, ◌∙◌, ap, sym, List, Some, slice_get}
use Rattle.crossbeam_utils.specs.Seq.{cell_view}
use Rattle.counters.specs.declared.readings.Readings.{Readings}
use Rattle.counters.specs.declared.hand.Hand.{Hand}
use Rattle.counters.specs.Parties.{WriterSeen, ReaderSeen}
use Rattle.counters.proofs.Moves.{tells, hears}
use Rattle.counters.proofs.table.Counters.confirm.Goals as goal

pub split_pass-report-requires : goal.split_pass-report-requires
split_pass-report-requires g c = (search rules, (search rules, (search rules, tells _ _)))

pub join_pass-requires : goal.join_pass-requires
join_pass-requires g c = (search rules, (search rules, (search rules, hears _ _ _ _)))

pub returns-clause-published : goal.returns-clause-published
returns-clause-published g c =
    let heard = c.join_pass.ensures.1 in
    let may : (cell_view c.join_pass.new.pass).publishes ≡ true = ap (λ (v : Hand). v.publishes) heard ∙ c.writer.invariant in
    let among = (c.see.ensures.seen.published may).1 in
    let told : (cell_view c.join_pass.new.pass).told ≡ c.args.reader.now.last = ap (λ (v : Hand). v.told) heard ∙ ap (λ (v : Hand). v.known) c.split_pass-report.ensures.given.1 ∙ ap (λ (r : ReaderSeen). r.last) c.reader.view_is in
    let past : (cell_view c.join_pass.new.pass).past ≡ c.args.writer.now.published = ap (λ (v : Hand). v.past) heard ∙ ap (λ (w : WriterSeen). w.published) c.writer.view_is in (
      among.0,
      ap (λ (l : List Readings). slice_get l among.0) (sym past) ∙ among.1 ∙ ap (λ (r : Readings). Some r) told,
    )
