-- Since when the agent owes an answer.
use Rattle.std.specs.Prelude.{ℕ, Bool, true, false, if◌then◌else◌, List, [], ◌∷◌, find, Option, Some, None, option_map}
use Rattle.std.specs.List.{list_any}
use Rattle.gateway_core.specs.declared.outcome.TextOutcome.{TextOutcome}
use Rattle.gateway_core.specs.Outcomes.{outcomes_of}
use Rattle.gateway_core.specs.declared.sent.SentMessage.{SentMessage}
use Rattle.plain_machine.specs.declared.label.What.{What}
use Rattle.plain_machine.specs.declared.label.What.TheVariants as whats
use Rattle.plain_machine.specs.declared.setup.Setup.{Setup}
use Rattle.plain_machine.specs.Event.{GatewayEvent}
use Rattle.gateway_core.specs.Labelling.{labels_of}
use Rattle.plain_machine.specs.Machine.{Machine}
use Rattle.plain_machine.specs.Happening.{effect}
use Rattle.message_counts.specs.Counting.{is_response}

-- a command of the gateway's own, sent or sent again: whoever it goes to is to answer
abbrev pub is_own : What → Bool
is_own (whats.Answer code) = false
is_own (whats.Again code) = false
is_own (whats.Command verb) = true
is_own (whats.Resent verb send) = true
is_own whats.Acknowledgement = false

-- the message is a command of the gateway's own, sent or sent again
abbrev pub is_command : SentMessage → Bool
is_command message = is_own message.label.what

-- the moment of the first of these that is, if there is one
abbrev pub first_asked : List SentMessage → Option ℕ
first_asked sent = option_map (λ message. message.moment) (find is_command sent)

-- who owes an answer already goes on owing it
abbrev pub owed_behind : Option ℕ → List SentMessage → Option ℕ
owed_behind None sent = first_asked sent
owed_behind (Some since) sent = Some since

-- An event came whose texts were these, and these messages were sent at it. A response shows that the agent is there: whatever it was
-- asked before, from then on it owes an answer to what the gateway asks behind it.
abbrev pub unanswered_after : Option ℕ → List TextOutcome → List SentMessage → Option ℕ
unanswered_after since outcomes sent = owed_behind (if list_any is_response outcomes then None else since) sent

-- events came, one after the other
unfoldable pub owed_after : Setup → Machine → Option ℕ → List GatewayEvent → Option ℕ
owed_after setup m since [] = since
owed_after setup m since (event ∷ events) =
    owed_after setup (effect setup m event).value
    (unanswered_after since (outcomes_of setup m event) (labels_of (effect setup m event).sent)) events
