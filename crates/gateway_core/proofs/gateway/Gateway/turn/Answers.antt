use Rattle.gateway_core.proofs.ServeLemmas.{failed_turn}
use Rattle.gateway_core.proofs.gateway.Gateway.turn.Goals as goal

pub returns-in_default-clause-turn : goal.returns-in_default-clause-turn
returns-in_default-clause-turn g c = failed_turn _ _ _ c.in_default.ensures.log
