use Rattle.events_and_signals.proofs.GivenLaws.{counted_out, whole_of}
use Rattle.events_and_signals.proofs.quarantine_laws.in_order_but_so_many.Goals as goal

pub returns-clause-count : goal.returns-clause-count
returns-clause-count c = counted_out

pub returns-clause-whole : goal.returns-clause-whole
returns-clause-whole c = whole_of
