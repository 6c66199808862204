use Rattle.events_and_signals.proofs.RequestLaws.{among-without, among-without_other}
use Rattle.events_and_signals.proofs.signal_laws.one_signal_stops.Goals as goal

pub returns-clause-itself : goal.returns-clause-itself
returns-clause-itself c = among-without

pub returns-clause-others : goal.returns-clause-others
returns-clause-others c = among-without_other
