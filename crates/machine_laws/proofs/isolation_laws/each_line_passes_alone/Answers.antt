use Rattle.plain_machine.specs.Falling.{post_due}
use Rattle.machine_laws.specs.Passing.{line_due, line_happens, own_happens}
use Rattle.machine_laws.proofs.PassLemmas.{line_passes, own_passes, passes_once}
use Rattle.machine_laws.proofs.isolation_laws.each_line_passes_alone.Goals as goal

pub returns-clause-line : goal.returns-clause-line
returns-clause-line c = λ setup endpoints line moment some. line_passes setup line moment some endpoints

pub returns-clause-own : goal.returns-clause-own
returns-clause-own c = λ setup endpoints moment. own_passes setup moment endpoints

pub returns-clause-line_once : goal.returns-clause-line_once
returns-clause-line_once c = λ setup line moment was one other. passes_once (line_due line) (line_happens setup line) moment was one other

pub returns-clause-own_once : goal.returns-clause-own_once
returns-clause-own_once c = λ setup moment was one other. passes_once (post_due 0) (own_happens setup) moment was one other
