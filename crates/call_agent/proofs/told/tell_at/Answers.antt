use Rattle.std.proofs.Common.{◌<◌, length, arith}
use Rattle.call_agent.proofs.TellingLemmas.{one_told}
use Rattle.call_agent.proofs.told.tell_at.Goals as goal

pub returns-clause-ok : goal.returns-clause-ok
returns-clause-ok c =
    let many = c.len.ensures in
    let before = c.if-place-len.false in
    let within : c.args.place < length c.args.lines.now.items = omega (arith, many, before) in
    one_told c.args.lines.now.items c.args.place c.index_mut.result.now _ c.args.observed within c.index_mut.ensures.value (rw c.into_items.ensures at c.in_ok-append.ensures.ok)
