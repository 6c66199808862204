use Rattle.std.proofs.Common.{◌∙◌}
use Rattle.log_format.proofs.note.number_of.Goals as goal

pub returns : goal.returns
returns c = c.from.ensures ∙ c.number.ensures.value
