use Rattle.told_laws.proofs.SentAnyway.{served_anyway}
use Rattle.told_laws.proofs.laws.what_was_answered_is_served.Goals as goal

pub returns : goal.returns
returns c = λ setup before first b set_up issued answer. served_anyway setup before first b set_up issued answer
