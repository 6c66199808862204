use Rattle.rgwd_words.proofs.EndingLemmas.{unbound_fails}
use Rattle.rgwd_words.proofs.ending.Ending.unbound.Goals as goal

pub returns-clause-failed : goal.returns-clause-failed
returns-clause-failed c = unbound_fails c.unbound.ensures.memory c.unbound.ensures.other
