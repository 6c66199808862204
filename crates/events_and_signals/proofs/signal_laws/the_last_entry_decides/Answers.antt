use Rattle.events_and_signals.proofs.RequestLaws.{among-only, among-last}
use Rattle.events_and_signals.proofs.signal_laws.the_last_entry_decides.Goals as goal

pub returns-clause-only : goal.returns-clause-only
returns-clause-only c = among-only

pub returns-clause-last : goal.returns-clause-last
returns-clause-last c = among-last
