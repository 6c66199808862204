use Rattle.std.proofs.Common.{Some, None, true, false, ◌∙◌}
use Rattle.std.specs.Prelude.{Ok, Err}
use Rattle.live_laws.specs.Example.{at_port}
use Rattle.live_laws.proofs.WayExampleLemmas.{counted_between, found_there, none_there, heard_alone}
use Rattle.live_laws.proofs.way_examples.what_is_looked_for_is_counted_and_found.Goals as goal

pub returns-clause-nothing : goal.returns-clause-nothing
returns-clause-nothing c = counted_between (Ok None)

pub returns-clause-one : goal.returns-clause-one
returns-clause-one c = counted_between (Ok (Some (at_port 9 2727, 5)))

pub returns-clause-failed : goal.returns-clause-failed
returns-clause-failed c = λ fault. counted_between (Err fault)

pub returns-clause-unasked : goal.returns-clause-unasked
returns-clause-unasked c = λ was is look. look.4.looked

pub returns-clause-came : goal.returns-clause-came
returns-clause-came c = λ admission was is found room nobody none first then may since.
    found_there admission was is found room nobody none first then since ∙ heard_alone admission true may

pub returns-clause-strange : goal.returns-clause-strange
returns-clause-strange c = λ admission was is found room nobody none first then may since.
    found_there admission was is found room nobody none first then since ∙ heard_alone admission false may

pub returns-clause-silent : goal.returns-clause-silent
returns-clause-silent c = none_there
