use Rattle.events_and_signals.proofs.RequestLaws.{among-unnamed}
use Rattle.events_and_signals.proofs.signal_laws.what_is_not_named_stops_if_it_is_a_time_out_signal.Goals as goal

pub returns : goal.returns
returns c = among-unnamed
