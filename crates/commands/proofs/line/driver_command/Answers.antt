use Rattle.std.proofs.Common.{ap, Err}
use Rattle.commands.proofs.Ended.{none_held, none_short}
use Rattle.commands.proofs.LineStatuses.{refused_line, taken, told_fault, untaken}
use Rattle.commands.proofs.line.driver_command.Goals as goal

pub returns-in-Ok : goal.returns-in-Ok
returns-in-Ok g c = record {
  status = taken _ c.driver_status.result c.in-Ok.ensures.passed c.driver_status.ensures.most;
  refused = λ two. absurd (c.driver_status.ensures.accepted two);
  done = λ none is. (c.in-Ok.options, c.in-Ok.ensures.only, c.driver_status.ensures.done is);
  short = λ is. (c.in-Ok.options, c.in-Ok.ensures.only, c.driver_status.ensures.short is);
}

pub returns-in-Err : goal.returns-in-Err
returns-in-Err g c =
    let is = told_fault _ c.in-Err.fault (λ e same. c.in-Err.ensures.kind e (ap Err same)) (λ e same. c.in-Err.ensures.shown e (ap Err same)) in
    record {
      status = untaken _ c.in-Err.fault c.line_status.result is c.line_status.ensures;
      refused = refused_line _ c.in-Err.fault c.line_status.result is c.line_status.ensures;
      done = λ none zero. absurd (none_held _ c.in-Err.fault c.line_status.result is c.line_status.ensures none zero);
      short = λ three. absurd (none_short c.in-Err.fault c.line_status.result c.line_status.ensures three);
    }
