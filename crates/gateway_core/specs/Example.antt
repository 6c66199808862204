-- What is told in the worked examples.
use Rattle.std.specs.Prelude.{ℕ, List, [], map, Some}
use Rattle.mgcp_text.specs.declared.message.Verb.TheVariants.{Auep}
use Rattle.plain_machine.specs.Event.{GatewayEvent}
use Rattle.plain_machine.specs.Example.{example, agent, machine_at}
use Rattle.gateway_core.specs.declared.outcome.Reply.{Reply}
use Rattle.gateway_core.specs.declared.outcome.TextOutcome.{TextOutcome}
use Rattle.gateway_core.specs.declared.outcome.TextOutcome.TheVariants.{Command}
use Rattle.gateway_core.specs.Outcomes.{outcomes_after}
use Rattle.plain_machine.specs.declared.label.Whose.{Whose}
use Rattle.plain_machine.specs.declared.label.Whose.TheVariants.{Nobody}
use Rattle.plain_machine.specs.declared.label.What.{What}
use Rattle.plain_machine.specs.declared.label.What.TheVariants.{Acknowledgement}
use Rattle.transmission.specs.declared.output.OutDatagram.{OutDatagram}
use Rattle.gateway_core.specs.declared.sent.SentMessage.{SentMessage}
use Rattle.gateway_core.specs.Accounts.{Account, no_account, account_after}

-- what the texts of the last of these events were, which begin at 1,000
abbrev pub told : List GatewayEvent → List TextOutcome
told events = outcomes_after example (machine_at 1000) [] events

-- an audit with this id, which gets this
abbrev pub audited : ℕ → Reply → TextOutcome
audited id reply = Command (Some Auep) id reply

-- what is told of the last of these events beside, which begin at 1,000
abbrev pub accounted : List GatewayEvent → Account
accounted events = account_after example (machine_at 1000) no_account events

-- the messages that the last of them sent, but for how many bytes each has; and how many those are
abbrev pub labels : List GatewayEvent → List SentMessage
labels events =
    map (λ (message : SentMessage). let sizeless : SentMessage = record message { size = 0 } in sizeless) (accounted events).sent

abbrev pub sizes : List GatewayEvent → List ℕ
sizes events = map (λ (message : SentMessage). message.size) (accounted events).sent

-- a message to the agent at 1,000
abbrev pub labelled : Whose → What → ℕ → SentMessage
labelled whose what id = record { to = agent; moment = 1000; label = record { whose = whose; what = what; id = id }; size = 0 }

-- one of so many bytes, and a datagram there
abbrev pub sized : ℕ → SentMessage
sized bytes = record (labelled Nobody Acknowledgement 9) { size = bytes }

abbrev pub datagram_of : List ℕ → OutDatagram
datagram_of bytes = record { to = agent; moment = 1000; bytes = bytes }
