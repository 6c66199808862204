-- What each text of a datagram was to the machine that it came to (RFC 3435, 3.2, 3.3 and 3.5).
use Rattle.std.specs.Prelude.{ℕ, List, [], ◌∷◌, Option, Some, None}
use Rattle.std.specs.declared.net.socket_addr.SocketAddrV4.{SocketAddrV4}
use Rattle.mgcp_text.specs.declared.message.Verb.{Verb}
use Rattle.mgcp_text.specs.declared.confirmation.KValue.{KValue}
use Rattle.mgcp_text.specs.Confirmation.{k_of}
use Rattle.command_forms.specs.declared.refused.FaultyPart.{FaultyPart}
use Rattle.command_forms.specs.Command.{Command}
use Rattle.command_forms.specs.Explaining.{fault_by}
use Rattle.command_forms.specs.Order.{judged_while}
use Rattle.mgcp_text.specs.declared.message.Message.TheVariants as messages
use Rattle.mgcp_text.specs.Reading.{Outcome, message, no_header, bad_version, bad_body, read_text}
use Rattle.transmission.specs.Memory.{most_firsts}
use Rattle.transmission.specs.Looking.{Looked, new, repeat, confirmed, full, look_of}
use Rattle.transmission.specs.Acknowledging.{asks_for_acknowledgement}
use Rattle.transmission.specs.Hearing.{response_as}
use Rattle.transmission.specs.Texts.{texts_of}
use Rattle.plain_machine.specs.declared.setup.Setup.{Setup}
use Rattle.plain_machine.specs.Event.{GatewayEvent, datagram, phone, tick}
use Rattle.plain_machine.specs.Labelling.{front_code}
use Rattle.plain_machine.specs.Machine.{Machine, opening, serves}
use Rattle.plain_machine.specs.Answering.{Transaction, transaction_of, handled}
use Rattle.plain_machine.specs.Happening.{effect}
use Rattle.gateway_core.specs.declared.outcome.Reply.{Reply}
use Rattle.gateway_core.specs.declared.outcome.Reply.TheVariants.{First, Again, Silence, NoRoom}
use Rattle.gateway_core.specs.declared.outcome.TextOutcome.{TextOutcome}
use Rattle.gateway_core.specs.declared.outcome.TextOutcome.TheVariants as outcomes
use Rattle.gateway_core.specs.declared.outcome.TextOutcome.TheVariants.{NoMessage, Response}

-- what a command gets, by what is told of its id: an answer with this code, and this fault, if it is new (RFC 3435, 3.5.1)
abbrev pub reply_by : Looked → ℕ → Option FaultyPart → Reply
reply_by new code fault = First code fault
reply_by (repeat text) code fault = Again (front_code text)
reply_by confirmed code fault = Silence
reply_by full code fault = NoRoom

-- what of a command is at fault that this machine refuses for its form
abbrev pub command_fault : Setup → Machine → Command → KValue → Option FaultyPart
command_fault setup m command confirms = fault_by (judged_while (serves m.endpoints) command confirms setup.names)

-- of one that can't be read past its id that isn't told
abbrev pub fault_in : Setup → Machine → Outcome → Option FaultyPart
fault_in setup m no_header = None
fault_in setup m (bad_version id) = None
fault_in setup m (bad_body id) = None
fault_in setup m (message (messages.Command verb id name params body)) =
    command_fault setup m (record { verb = verb; name = name; params = params; body = body }) (k_of params)
fault_in setup m (message (messages.Response code id params body)) = None

-- the verb of a command that can be read past its id
abbrev pub verb_read : Outcome → Option Verb
verb_read no_header = None
verb_read (bad_version id) = None
verb_read (bad_body id) = None
verb_read (message (messages.Command verb id name params body)) = Some verb
verb_read (message (messages.Response code id params body)) = None

-- what is no command is a response, which is acknowledged where it asks for that, or no message
abbrev pub uncommanded : Outcome → TextOutcome
uncommanded outcome = response_as NoMessage (λ code id params body. Response id (asks_for_acknowledgement code params)) outcome

-- a command is answered as it would be now, if it is new
abbrev pub outcome_as : Option Transaction → Option FaultyPart → Machine → Outcome → TextOutcome
outcome_as None fault m outcome = uncommanded outcome
outcome_as (Some t) fault m outcome =
    outcomes.Command (verb_read outcome) t.id (reply_by (look_of most_firsts m.history t.id m.now) t.done.answer.code fault)

-- what a text is to the machine, by what it is read as
unfoldable pub text_outcome : Setup → Machine → Outcome → TextOutcome
text_outcome setup m outcome = outcome_as (transaction_of setup m outcome) (fault_in setup m outcome) m outcome

-- the texts of a datagram in order, each to the machine after those before it
unfoldable pub text_outcomes : Setup → Machine → SocketAddrV4 → List (List ℕ) → List TextOutcome
text_outcomes setup m source [] = []
text_outcomes setup m source (text ∷ texts) =
    text_outcome setup m (read_text text) ∷ text_outcomes setup (handled setup m source (read_text text)).value source texts

-- those of an event: an act and a tick have no text
unfoldable pub outcomes_of : Setup → Machine → GatewayEvent → List TextOutcome
outcomes_of setup m (datagram source bytes) = text_outcomes setup m source (texts_of bytes)
outcomes_of setup m (phone line act) = []
outcomes_of setup m (tick moment) = []

-- those of the last of these events, or these where there is none
unfoldable pub outcomes_after : Setup → Machine → List TextOutcome → List GatewayEvent → List TextOutcome
outcomes_after setup m were [] = were
outcomes_after setup m were (event ∷ events) =
    outcomes_after setup (effect setup m event).value (outcomes_of setup m event) events

-- from the opening on
abbrev pub last_outcomes : Setup → List GatewayEvent → List TextOutcome
last_outcomes setup events = outcomes_after setup (opening setup) [] events
