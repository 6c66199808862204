-- What is told of a message that is sent: whose it is, what, under which id, and which send of it (RFC 3435, 3.3 and 3.5).
use Rattle.std.specs.Prelude.{ℕ, ◌+◌, ◌==◌, if◌then◌else◌, List, [], ◌∷◌, map, take}
use Rattle.std.specs.Option.{unwrap_or}
use Rattle.mgcp_text.specs.declared.message.Verb.{Verb}
use Rattle.mgcp_text.specs.declared.message.Verb.TheVariants.{Ntfy, Rsip, Other}
use Rattle.mgcp_text.specs.declared.message.Message.{Message}
use Rattle.mgcp_text.specs.declared.message.Message.TheVariants as messages
use Rattle.mgcp_text.specs.Header.{return_code}
use Rattle.command_forms.specs.Refusing.{letter_r}
use Rattle.plain_machine.specs.declared.label.Whose.{Whose}
use Rattle.plain_machine.specs.declared.label.Whose.TheVariants.{AnswerOf, OwnOf, Nobody}
use Rattle.plain_machine.specs.declared.label.What.{What}
use Rattle.plain_machine.specs.declared.label.What.TheVariants as whats
use Rattle.plain_machine.specs.declared.label.Label.{Label}
use Rattle.plain_machine.specs.declared.label.OutMessage.{OutMessage}
use Rattle.plain_machine.specs.Message.{Owner, answer_of, own_of, of_none, Said, answer, again, command, resent, acknowledgement, Sent, datagram_of}

abbrev pub whose_of : Owner → Whose
whose_of (answer_of line) = AnswerOf line
whose_of (own_of line) = OwnOf line
whose_of of_none = Nobody

-- the return code of a response, the verb of a command, and the id of both
abbrev pub code_of : Message → ℕ
code_of (messages.Command verb id name params body) = 0
code_of (messages.Response code id params body) = code

abbrev pub verb_of : Message → Verb
verb_of (messages.Command verb id name params body) = verb
verb_of (messages.Response code id params body) = Other

abbrev pub id_of : Message → ℕ
id_of (messages.Command verb id name params body) = id
id_of (messages.Response code id params body) = id

-- the return code at the front of a stored answer (RFC 3435, 3.3)
abbrev pub front_code : List ℕ → ℕ
front_code text = unwrap_or (return_code (take 3 text)) 0

-- the verb of a command of the gateway's own: its announcements and its notifications differ in their first letters
abbrev pub own_verb : List ℕ → Verb
own_verb [] = Ntfy
own_verb (letter ∷ letters) = if letter == letter_r then Rsip else Ntfy

-- a command that was repeated so often before is sent for the second time where that is never
abbrev pub what_of : Said → What
what_of (answer response) = whats.Answer (code_of response)
what_of (again id text) = whats.Again (front_code text)
what_of (command said) = whats.Command (verb_of said)
what_of (resent message) = whats.Resent (own_verb message.text) (message.repeats + 2)
what_of (acknowledgement response) = whats.Acknowledgement

abbrev pub id_said : Said → ℕ
id_said (answer response) = id_of response
id_said (again id text) = id
id_said (command said) = id_of said
id_said (resent message) = message.id
id_said (acknowledgement response) = id_of response

abbrev pub label_of : Sent → Label
label_of sent = record { whose = whose_of sent.owner; what = what_of sent.said; id = id_said sent.said }

-- which send of a message it is
abbrev pub send_of : What → ℕ
send_of (whats.Answer code) = 1
send_of (whats.Again code) = 1
send_of (whats.Command verb) = 1
send_of (whats.Resent verb send) = send
send_of whats.Acknowledgement = 1

-- a message in a datagram of its own, with its label
abbrev pub message_of : Sent → OutMessage
message_of sent = record { datagram = datagram_of sent; label = label_of sent }

abbrev pub messages_of : List Sent → List OutMessage
messages_of sent = map message_of sent
