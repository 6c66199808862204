use Rattle.std.proofs.Common.{refl}
use Rattle.call_agent.proofs.StandLemmas.{stands_for_none}
use Rattle.call_agent.proofs.agent.Agent.new.Goals as goal

pub returns-clause-stands : goal.returns-clause-stands
returns-clause-stands c = stands_for_none _ (rw (c.none.ensures, c.new.ensures, c.in_ok-told.ensures, c.new-2.ensures) refl)
