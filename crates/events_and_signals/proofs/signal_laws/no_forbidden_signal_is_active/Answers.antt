use Rattle.events_and_signals.proofs.RequestLaws.{none_forbidden, among-allowed}
use Rattle.events_and_signals.proofs.signal_laws.no_forbidden_signal_is_active.Goals as goal

pub returns-clause-none : goal.returns-clause-none
returns-clause-none c = none_forbidden

pub returns-clause-others : goal.returns-clause-others
returns-clause-others c = among-allowed
