use Rattle.event_syntax.proofs.FaultLaws.{detected_misspelled, detected_many, detected_fault, detected_all}
use Rattle.event_syntax.proofs.event_laws.the_first_fault_of_detected_events_counts.Goals as goal

pub returns-clause-spelling : goal.returns-clause-spelling
returns-clause-spelling c = detected_misspelled

pub returns-clause-number : goal.returns-clause-number
returns-clause-number c = detected_many

pub returns-clause-entry : goal.returns-clause-entry
returns-clause-entry c = detected_fault

pub returns-clause-all : goal.returns-clause-all
returns-clause-all c = detected_all
