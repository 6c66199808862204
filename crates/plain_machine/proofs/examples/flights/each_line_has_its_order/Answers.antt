use Rattle.std.proofs.Common.{None, Some, [], refl}
use Rattle.plain_machine.specs.Example.{example, ready_endpoint, ending}
use Rattle.plain_machine.proofs.Computing.{on_examples}
use Rattle.plain_machine.proofs.examples.flights.each_line_has_its_order.Goals as goal

pub returns-clause-own : goal.returns-clause-own
unfolding on_examples
returns-clause-own c order =
    let none = order.own in
    cc

pub returns-clause-line : goal.returns-clause-line
unfolding on_examples
returns-clause-line c order =
    let state = (order.lines 2 (ending None [] (Some 1500)) refl).0 in
    cc

pub returns-clause-open : goal.returns-clause-open
unfolding on_examples
returns-clause-open c order =
    let state = (order.lines 1 (ready_endpoint example 1) refl).state in
    cc
