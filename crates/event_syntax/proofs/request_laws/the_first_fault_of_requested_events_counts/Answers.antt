use Rattle.event_syntax.proofs.FaultLaws.{requested_misspelled, requested_many, requested_fault, requested_all}
use Rattle.event_syntax.proofs.request_laws.the_first_fault_of_requested_events_counts.Goals as goal

pub returns-clause-spelling : goal.returns-clause-spelling
returns-clause-spelling c = requested_misspelled

pub returns-clause-number : goal.returns-clause-number
returns-clause-number c = requested_many

pub returns-clause-entry : goal.returns-clause-entry
returns-clause-entry c = requested_fault

pub returns-clause-all : goal.returns-clause-all
returns-clause-all c = requested_all
