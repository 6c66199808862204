use Rattle.transmission.proofs.KindLaws.{firsts_apart}
use Rattle.transmission.proofs.history_laws.no_two_firsts_have_one_id.Goals as goal

pub returns : goal.returns
returns c = firsts_apart
