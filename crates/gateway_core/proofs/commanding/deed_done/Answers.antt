use Rattle.plain_machine.proofs.CodeLemmas.{refusal_small}
use Rattle.gateway_core.proofs.DeedLemmas.{deed_refused, deed_goes}
use Rattle.gateway_core.proofs.commanding.deed_done.Goals as goal

pub plain-requires : goal.plain-requires
plain-requires c = refusal_small _ _ _ _ c.in-Some.ensures

pub returns-in-Some-clause-told : goal.returns-in-Some-clause-told
returns-in-Some-clause-told c = deed_refused _ _ _ _ _ _ _ _ c.in-Some.ensures

pub returns-clause-told : goal.returns-clause-told
returns-clause-told c = deed_goes _ _ _ _ _ _ _ _ _ _ c.in_default.ensures c.in_ok-news.ensures.told
