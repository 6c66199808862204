use Rattle.rgw_scripts.proofs.MoveLemmas.{went_more}
use Rattle.rgw_scripts.proofs.laws.moves_go_on.Goals as goal

pub returns : goal.returns
returns c = λ setup before first rest. went_more setup before first rest
