use Rattle.events_and_signals.proofs.RequestLaws.{among-applied}
use Rattle.events_and_signals.proofs.signal_laws.each_signal_is_by_itself.Goals as goal

pub returns : goal.returns
returns c = among-applied
