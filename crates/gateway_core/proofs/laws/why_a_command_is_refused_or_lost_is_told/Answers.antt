use Rattle.gateway_core.proofs.TextLemmas.{refused_told, done_told, lost_told}
use Rattle.gateway_core.proofs.laws.why_a_command_is_refused_or_lost_is_told.Goals as goal

pub returns-clause-refused : goal.returns-clause-refused
returns-clause-refused c = refused_told

pub returns-clause-done : goal.returns-clause-done
returns-clause-done c = done_told

pub returns-clause-lost : goal.returns-clause-lost
returns-clause-lost c = lost_told
