use Rattle.live_play.proofs.RunLemmas.{ran_on}
use Rattle.live_laws.proofs.play_laws.runs_go_on.Goals as goal

pub returns : goal.returns
returns c = λ was mid is first second a b. ran_on was mid is first second a b
