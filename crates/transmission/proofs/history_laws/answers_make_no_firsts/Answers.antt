use Rattle.transmission.proofs.BareLaws.{firsts_bare}
use Rattle.transmission.proofs.history_laws.answers_make_no_firsts.Goals as goal

pub returns : goal.returns
returns c = firsts_bare
