use Rattle.std.proofs.Common.{◌<◌, ◌≤◌, length, arith}
use Rattle.call_processing.specs.Line.{landed}
use Rattle.call_processing.proofs.ElementLemmas.{changed_read, changed_past}
use Rattle.call_processing.proofs.exchange.land_on.Goals as goal

pub returns-then-line-len : goal.returns-then-line-len
returns-then-line-len c =
    let many = c.len.ensures in
    let behind = c.if-line-len.true in
    let past : length c.args.lines.now.items ≤ c.args.line = omega (arith, many, behind) in
    changed_past (landed c.args.fate c.args.outcome) c.args.lines.now.items c.args.line past

pub returns : goal.returns
returns c =
    let many = c.len.ensures in
    let before = c.if-line-len.false in
    let within : c.args.line < length c.args.lines.now.items = omega (arith, many, before) in
    changed_read (landed c.args.fate c.args.outcome) c.args.lines.now.items c.args.line c.index_mut.result.now _ within c.index_mut.ensures.value c.land.ensures
