use Rattle.plain_machine.proofs.FallingLaws.{pass_none, pass_some, nothing_left}
use Rattle.machine_laws.proofs.laws.what_is_due_happens_in_its_order.Goals as goal

pub returns-clause-first : goal.returns-clause-first
returns-clause-first c = pass_some

pub returns-clause-nothing : goal.returns-clause-nothing
returns-clause-nothing c = pass_none

pub returns-clause-after : goal.returns-clause-after
returns-clause-after c = nothing_left
