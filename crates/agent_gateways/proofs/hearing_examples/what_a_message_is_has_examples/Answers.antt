use Rattle.std.proofs.Common.{inl, inr, refl}
use Rattle.agent_gateways.proofs.hearing_examples.what_a_message_is_has_examples.Goals as goal

pub returns-clause-response : goal.returns-clause-response
returns-clause-response c = λ params body text was is hears. hears

pub returns-clause-command : goal.returns-clause-command
returns-clause-command c = λ name body text params was is hears. hears

pub returns-clause-no_header : goal.returns-clause-no_header
returns-clause-no_header c = λ text was is hears. hears

pub returns-clause-bad_version : goal.returns-clause-bad_version
returns-clause-bad_version c = λ text was is hears. hears

pub returns-clause-bad_body : goal.returns-clause-bad_body
returns-clause-bad_body c = λ text was is hears. hears

pub returns-clause-graceful : goal.returns-clause-graceful
returns-clause-graceful c = λ name gateway was is announces. announces

pub returns-clause-nothing_held : goal.returns-clause-nothing_held
returns-clause-nothing_held c = λ cares kept wakes held holds. holds

pub returns-clause-holds : goal.returns-clause-holds
returns-clause-holds c = λ cares. inl (refl, refl)

pub returns-clause-at_once : goal.returns-clause-at_once
returns-clause-at_once c = λ cares wakes. inr (refl, refl)
