use Rattle.std.proofs.Common.{[]}
use Rattle.telephone_control.proofs.Computing.{on_examples}
use Rattle.telephone_control.proofs.watch_examples.a_picture_is_of_its_gateway.Goals as goal

pub returns-clause-lines : goal.returns-clause-lines
unfolding on_examples
returns-clause-lines c = λ gateway journal faults picture setup stands of. let lines = of.lines [] stands in rw setup at lines

pub returns-clause-files : goal.returns-clause-files
unfolding on_examples
returns-clause-files c = λ gateway journal faults picture name of. rw name at of.files
