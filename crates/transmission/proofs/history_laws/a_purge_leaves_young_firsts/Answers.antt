use Rattle.transmission.proofs.PurgeLaws.{purge_leaves_young}
use Rattle.transmission.proofs.history_laws.a_purge_leaves_young_firsts.Goals as goal

pub returns : goal.returns
returns c = purge_leaves_young
