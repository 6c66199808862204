use Rattle.events_and_signals.proofs.RequestLaws.{among-without_time_outs, among-no_entries}
use Rattle.events_and_signals.proofs.signal_laws.time_out_signals_alone_stop.Goals as goal

pub returns-clause-at_once : goal.returns-clause-at_once
returns-clause-at_once c = among-without_time_outs

pub returns-clause-by_no_entries : goal.returns-clause-by_no_entries
returns-clause-by_no_entries c = among-no_entries
