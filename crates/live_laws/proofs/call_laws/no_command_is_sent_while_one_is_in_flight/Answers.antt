use Rattle.live_laws.proofs.RowLaws.{none_due, sent_as_answered}
use Rattle.live_laws.proofs.call_laws.no_command_is_sent_while_one_is_in_flight.Goals as goal

pub returns-clause-none : goal.returns-clause-none
returns-clause-none c = none_due

pub returns-clause-count : goal.returns-clause-count
returns-clause-count c = sent_as_answered
