use Rattle.events_and_signals.proofs.DueLaws.{due_first_is, is_due_first, none_is_due}
use Rattle.events_and_signals.proofs.signal_laws.the_earliest_end_is_due_first.Goals as goal

pub returns-clause-first : goal.returns-clause-first
returns-clause-first c = due_first_is

pub returns-clause-only : goal.returns-clause-only
returns-clause-only c = is_due_first

pub returns-clause-none : goal.returns-clause-none
returns-clause-none c = none_is_due
