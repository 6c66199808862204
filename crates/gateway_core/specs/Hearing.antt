-- What is left to the gateway at a text that is heard, and what the text was.
use Rattle.std.specs.Prelude.{ℕ, Bool, List, [], ◌∷◌, Option, Some, None}
use Rattle.std.specs.declared.net.socket_addr.SocketAddrV4.{SocketAddrV4}
use Rattle.mgcp_text.specs.declared.message.Message.{Message}
use Rattle.mgcp_text.specs.declared.message.Message.TheVariants as messages
use Rattle.mgcp_text.specs.Confirmation.{k_of}
use Rattle.mgcp_text.specs.Reading.{Outcome, message, no_header, bad_version, bad_body}
use Rattle.transmission.specs.declared.entry.Entry.{Entry}
use Rattle.transmission.specs.Memory.{most_firsts}
use Rattle.transmission.specs.Looking.{look_of}
use Rattle.plain_machine.specs.declared.setup.Setup.{Setup}
use Rattle.plain_machine.specs.Effect.{Effect, silently}
use Rattle.plain_machine.specs.Machine.{Machine, told_in}
use Rattle.plain_machine.specs.Responding.{response_with, responded}
use Rattle.plain_machine.specs.Answering.{executed, command_with, line_of_name}
use Rattle.transmission.specs.declared.output.OutDatagram.{OutDatagram}
use Rattle.plain_machine.specs.declared.label.Label.{Label}
use Rattle.plain_machine.specs.declared.label.OutMessage.{OutMessage}
use Rattle.plain_machine.specs.declared.label.Whose.TheVariants.{AnswerOf, Nobody}
use Rattle.plain_machine.specs.declared.label.What.TheVariants as whats
use Rattle.plain_machine.specs.Labelling.{front_code}
use Rattle.gateway_core.specs.declared.outcome.Reply.{Reply}
use Rattle.gateway_core.specs.declared.outcome.Reply.TheVariants.{First, Again, Silence, NoRoom}
use Rattle.gateway_core.specs.declared.outcome.TextOutcome.{TextOutcome}
use Rattle.gateway_core.specs.declared.outcome.TextOutcome.TheVariants.{NoMessage, Command, Response}
use Rattle.gateway_core.specs.Outcomes.{reply_by, command_fault}

-- it executes a new command, and a response is heard by whom its id names
abbrev pub left_done : Setup → Option Message → Machine → SocketAddrV4 → Effect Machine
left_done setup None m source = silently m
left_done setup (Some (messages.Command verb id name params body)) m source =
    executed m source (command_with setup m id (record { verb = verb; name = name; params = params; body = body }) (k_of params))
left_done setup (Some (messages.Response code id params body)) m source =
    told_in m (responded setup m.endpoints m.now (response_with setup id code params))

-- what a text was of which this is left: a command is new; of which nothing is, it was passed over as this
abbrev pub left_outcome : Setup → Option Message → Machine → TextOutcome → Bool → TextOutcome
left_outcome setup None m passed is_acknowledged = passed
left_outcome setup (Some (messages.Command verb id name params body)) m passed is_acknowledged =
    Command (Some verb) id
    (First (command_with setup m id (record { verb = verb; name = name; params = params; body = body }) (k_of params)).done.answer.code
    (command_fault setup m (record { verb = verb; name = name; params = params; body = body }) (k_of params)))
left_outcome setup (Some (messages.Response code id params body)) m passed is_acknowledged = Response id is_acknowledged

-- what a text was of which nothing is left, so that a command that can be read isn't new
abbrev pub passed_over : List Entry → ℕ → Outcome → TextOutcome
passed_over kept now no_header = NoMessage
passed_over kept now (bad_version id) = Command None id (reply_by (look_of most_firsts kept id now) 528 None)
passed_over kept now (bad_body id) = Command None id (reply_by (look_of most_firsts kept id now) 510 None)
passed_over kept now (message (messages.Command verb id name params body)) =
    Command (Some verb) id (reply_by (look_of most_firsts kept id now) 0 None)
passed_over kept now (message (messages.Response code id params body)) = NoMessage

-- The label of what is sent as a text is heard

-- a stored answer that goes out once more
abbrev pub again_label : Option ℕ → ℕ → List ℕ → Label
again_label line id text = record { whose = AnswerOf line; what = whats.Again (front_code text); id = id }

abbrev pub first_label : Option ℕ → ℕ → ℕ → Label
first_label line id code = record { whose = AnswerOf line; what = whats.Answer code; id = id }

abbrev pub acknowledged_label : ℕ → Label
acknowledged_label id = record { whose = Nobody; what = whats.Acknowledgement; id = id }

-- the answer to a command that can't be read past its id, by what that gets
abbrev pub reply_label : Reply → ℕ → List ℕ → Label
reply_label (First code fault) id text = first_label None id code
reply_label (Again code) id text = again_label None id text
reply_label Silence id text = again_label None id text
reply_label NoRoom id text = again_label None id text

abbrev pub faulty_label : TextOutcome → ℕ → List ℕ → Label
faulty_label NoMessage id text = again_label None id text
faulty_label (Command verb of reply) id text = reply_label reply id text
faulty_label (Response of is_acknowledged) id text = again_label None id text

-- the label of this text, which is sent where such a text is heard that is passed over as this: at what has no header nothing is
abbrev pub heard_label : Setup → Outcome → TextOutcome → List ℕ → Option Label
heard_label setup no_header passed text = None
heard_label setup (bad_version id) passed text = Some (faulty_label passed id text)
heard_label setup (bad_body id) passed text = Some (faulty_label passed id text)
heard_label setup (message (messages.Command verb id name params body)) passed text =
    Some (again_label (line_of_name setup name) id text)
heard_label setup (message (messages.Response code id params body)) passed text =
    Some (acknowledged_label id)

-- no more than one message is sent then
abbrev pub labelled_as : Option Label → OutDatagram → List OutMessage
labelled_as None datagram = []
labelled_as (Some label) datagram = record { datagram = datagram; label = label } ∷ []

abbrev pub labelled : (List ℕ → Option Label) → List OutDatagram → List OutMessage
labelled label [] = []
labelled label (datagram ∷ more) = labelled_as (label datagram.bytes) datagram
