use Rattle.events_and_signals.proofs.RequestLaws.{among-goes_on}
use Rattle.events_and_signals.proofs.signal_laws.a_named_time_out_signal_goes_on.Goals as goal

pub returns : goal.returns
returns c = among-goes_on
