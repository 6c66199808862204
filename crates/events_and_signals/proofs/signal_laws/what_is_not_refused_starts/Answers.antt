use Rattle.events_and_signals.proofs.RequestLaws.{among-starts, among-forbidden}
use Rattle.events_and_signals.proofs.signal_laws.what_is_not_refused_starts.Goals as goal

pub returns-clause-starts : goal.returns-clause-starts
returns-clause-starts c = among-starts

pub returns-clause-forbidden : goal.returns-clause-forbidden
returns-clause-forbidden c = among-forbidden
