use Rattle.std.proofs.Common.{rules, ◌≡◌, true, false, length, []}
use Rattle.std.specs.Prelude.{◌==◌}
use Rattle.std.proofs.lemmas.Bool.{eqb-true}
use Rattle.std.proofs.lemmas.List.{nil_from_length}
use Rattle.call_agent.proofs.WorkLemmas.{puts_nothing, ends_for_memory}
use Rattle.call_agent.proofs.working.carry_out.Goals as goal

pub returns-then-is_empty-clause-ok : goal.returns-then-is_empty-clause-ok
returns-then-is_empty-clause-ok c =
    let empty : (length c.in_ok-sent.sent.items == 0) ≡ true = search rules in
    let none : c.in_ok-sent.sent.items ≡ [] = nil_from_length _ (eqb-true _ _ empty) in
    puts_nothing _ _ _ _ _ none c.new.ensures c.in_ok-sent.ensures.happens

pub returns-in_err-packed-clause-ends : goal.returns-in_err-packed-clause-ends
returns-in_err-packed-clause-ends c =
    let some : (length c.in_ok-sent.sent.items == 0) ≡ false = search rules in
    ends_for_memory c.args.context.setup.now _ c.args.state.now _ _ _ some (search rules) c.in_ok-sent.ensures.ends c.in_ok-sent.ensures.happens
