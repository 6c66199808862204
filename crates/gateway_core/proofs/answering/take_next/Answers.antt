use Rattle.gateway_core.proofs.answering.take_next.Goals as goal

pub returns-clause-does : goal.returns-clause-does
returns-clause-does c = c.in_ok-outcome.ensures.does
