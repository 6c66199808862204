use Rattle.std.proofs.Common.{◌∙◌}
use Rattle.telephone_control.proofs.watch_examples.what_is_told_has_examples.Goals as goal

pub returns-clause-nothing : goal.returns-clause-nothing
returns-clause-nothing c = λ after told. told

pub returns-clause-something : goal.returns-clause-something
returns-clause-something c = λ after told. told.2 ∙ told.1

pub returns-clause-over : goal.returns-clause-over
returns-clause-over c = λ after told. told.2 ∙ told.1
