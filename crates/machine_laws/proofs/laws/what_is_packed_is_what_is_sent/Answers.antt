use Rattle.machine_laws.proofs.MessageLaws.{sent_as_messages, sent_within}
use Rattle.machine_laws.proofs.laws.what_is_packed_is_what_is_sent.Goals as goal

pub returns-clause-messages : goal.returns-clause-messages
returns-clause-messages c = sent_as_messages

pub returns-clause-within : goal.returns-clause-within
returns-clause-within c = sent_within
