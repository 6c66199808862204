use Rattle.std.proofs.Common.{◌∙◌}
use Rattle.live_laws.proofs.telephone_examples.what_who_watches_is_told_has_examples.Goals as goal

pub returns-clause-nobody : goal.returns-clause-nobody
returns-clause-nobody c = λ after tells. tells

pub returns-clause-no_place : goal.returns-clause-no_place
returns-clause-no_place c = λ after tells. tells.2.2 ∙ tells.2.1 ∙ tells.1
