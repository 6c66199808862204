use Rattle.machine_laws.proofs.LineDeeds.{least_decides, none_decides}
use Rattle.machine_laws.proofs.connection_laws.the_least_line_that_refuses_decides.Goals as goal

pub returns-clause-refuses : goal.returns-clause-refuses
returns-clause-refuses c = least_decides

pub returns-clause-fine : goal.returns-clause-fine
returns-clause-fine c = none_decides
