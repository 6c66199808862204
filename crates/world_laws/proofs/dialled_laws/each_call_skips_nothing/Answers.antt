use Rattle.world_laws.proofs.KeepingLemmas.{nothing_is_skipped}
use Rattle.world_laws.proofs.dialled_laws.each_call_skips_nothing.Goals as goal

pub returns : goal.returns
returns c = nothing_is_skipped
