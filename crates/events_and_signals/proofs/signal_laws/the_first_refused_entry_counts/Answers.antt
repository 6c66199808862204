use Rattle.events_and_signals.proofs.RequestLaws.{first_refused, none_refused}
use Rattle.events_and_signals.proofs.signal_laws.the_first_refused_entry_counts.Goals as goal

pub returns-clause-some : goal.returns-clause-some
returns-clause-some c = first_refused

pub returns-clause-none : goal.returns-clause-none
returns-clause-none c = none_refused
