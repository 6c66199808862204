use Rattle.audits.proofs.ShownExamples.{opening_is, lifted_is, after_request_is, calling_is}
use Rattle.audits.proofs.showing_examples.endpoints_can_be_shown.Goals as goal

pub returns-clause-opening : goal.returns-clause-opening
returns-clause-opening c = opening_is

pub returns-clause-asked : goal.returns-clause-asked
returns-clause-asked c = lifted_is

pub returns-clause-embedded : goal.returns-clause-embedded
returns-clause-embedded c = after_request_is

pub returns-clause-connected : goal.returns-clause-connected
returns-clause-connected c = calling_is
