use Rattle.std.proofs.Common.{ap}
use Rattle.mg_line.specs.Line.{LineState}
use Rattle.mg_line.proofs.fields.LineFields.end_timer.Goals as goal

pub returns-in-Err-clause-err : goal.returns-in-Err-clause-err
returns-in-Err-clause-err c = ap (λ (line : LineState). record line { timer = c.args.self.now.timer }) c.in-Err.ensures.err
