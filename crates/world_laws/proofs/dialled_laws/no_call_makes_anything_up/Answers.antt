use Rattle.world_laws.proofs.KeepingLemmas.{nothing_is_made_up}
use Rattle.world_laws.proofs.dialled_laws.no_call_makes_anything_up.Goals as goal

pub returns : goal.returns
returns c = nothing_is_made_up
