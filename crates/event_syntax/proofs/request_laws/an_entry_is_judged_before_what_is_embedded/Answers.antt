use Rattle.event_syntax.proofs.FaultLaws.{entry_itself, entry_embedded, entry_with_a}
use Rattle.event_syntax.proofs.request_laws.an_entry_is_judged_before_what_is_embedded.Goals as goal

pub returns-clause-itself : goal.returns-clause-itself
returns-clause-itself c = entry_itself

pub returns-clause-embedded : goal.returns-clause-embedded
returns-clause-embedded c = entry_embedded

pub returns-clause-with_a : goal.returns-clause-with_a
returns-clause-with_a c = entry_with_a
