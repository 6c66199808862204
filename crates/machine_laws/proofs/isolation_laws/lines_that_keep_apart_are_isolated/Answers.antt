use Rattle.machine_laws.proofs.FitLemmas.{lines_that_keep_apart}
use Rattle.machine_laws.proofs.isolation_laws.lines_that_keep_apart_are_isolated.Goals as goal

pub returns : goal.returns
returns c = lines_that_keep_apart
