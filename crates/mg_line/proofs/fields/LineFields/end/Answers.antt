use Rattle.std.proofs.Common.{ap}
use Rattle.mg_line.specs.Line.{LineState}
use Rattle.mg_line.proofs.fields.LineFields.end.Goals as goal

pub returns-in-Err-clause-err : goal.returns-in-Err-clause-err
returns-in-Err-clause-err c = ap (λ (line : LineState). record line { signals = c.args.self.now.signals }) c.in-Err.ensures.err
