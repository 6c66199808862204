use Rattle.std.proofs.Common.{rules, ◌≡◌, false, length, []}
use Rattle.std.specs.Prelude.{◌==◌}
use Rattle.gateway_core.proofs.WorkLemmas.{puts_nothing, tells_nothing, puts_out, tells_labels, ends_refused}
use Rattle.gateway_core.proofs.working.carry_out.Goals as goal

pub returns-then-is_empty-clause-ok : goal.returns-then-is_empty-clause-ok
returns-then-is_empty-clause-ok c =
    let none : c.in_ok-sent.sent.items ≡ [] = search rules in
    puts_nothing _ _ _ _ _ none c.in_ok-sent.ensures.happens

pub returns-then-is_empty-clause-labels : goal.returns-then-is_empty-clause-labels
returns-then-is_empty-clause-labels c =
    let none : c.in_ok-sent.sent.items ≡ [] = search rules in
    tells_nothing _ _ _ _ _ none c.clear.ensures.items c.in_ok-sent.ensures.happens

pub returns-clause-ok : goal.returns-clause-ok
returns-clause-ok c = puts_out _ _ _ _ c.in_ok-datagrams.datagrams.items _ _ c.in_ok-sent.ensures.happens c.in_ok-datagrams.ensures.datagrams (search rules)

pub returns-clause-labels : goal.returns-clause-labels
returns-clause-labels c = tells_labels _ _ _ _ _ c.in_ok-sent.ensures.happens c.in_ok-datagrams.ensures.told

pub returns-in_err-datagrams-clause-ends : goal.returns-in_err-datagrams-clause-ends
returns-in_err-datagrams-clause-ends c =
    let some : (length c.in_ok-sent.sent.items == 0) ≡ false = search rules in
    ends_refused c.args.context.setup.now _ c.args.state.now _ _ _ some (search rules) c.in_ok-sent.ensures.ends c.in_ok-sent.ensures.happens

pub returns-in_err-packed-clause-ends : goal.returns-in_err-packed-clause-ends
returns-in_err-packed-clause-ends c =
    let some : (length c.in_ok-sent.sent.items == 0) ≡ false = search rules in
    ends_refused c.args.context.setup.now _ c.args.state.now _ _ _ some (search rules) c.in_ok-sent.ensures.ends c.in_ok-sent.ensures.happens

pub returns-in_err-append-clause-ends : goal.returns-in_err-append-clause-ends
returns-in_err-append-clause-ends c =
    let some : (length c.in_ok-sent.sent.items == 0) ≡ false = search rules in
    ends_refused c.args.context.setup.now _ c.args.state.now _ _ _ some (search rules) c.in_ok-sent.ensures.ends c.in_ok-sent.ensures.happens
