-- What the log says of what is sent, a line a message, by its label; and what it keeps of the gateway's own commands for that.
use Rattle.std.specs.Prelude.{ℕ, ◌-◌, ◌/◌, List, [], ◌∷◌, ◌++◌, Option, Some, None}
use Rattle.std.specs.Ordering.{nat_cmp}
use Rattle.std.specs.BTreeMap.{insert_entry}
use Rattle.log_format.specs.declared.note.Note.TheVariants as notes
use Rattle.log_format.specs.declared.stamp.Stamp.{Stamp}
use Rattle.log_format.specs.declared.stamp.Way.TheVariants as ways
use Rattle.log_format.specs.Lines.{message_line, note_line}
use Rattle.plain_machine.specs.declared.label.Label.{Label}
use Rattle.gateway_core.specs.declared.sent.SentMessage.{SentMessage}
use Rattle.plain_machine.specs.declared.label.What.{What}
use Rattle.plain_machine.specs.declared.label.What.TheVariants as whats
use Rattle.plain_machine.specs.declared.label.Whose.{Whose}
use Rattle.plain_machine.specs.declared.label.Whose.TheVariants as owners
use Rattle.told_messages.specs.declared.log.OwnCommand.{OwnCommand}

-- how long it was from one moment to another, in ms, where both are in microseconds
abbrev pub ms_between : ℕ → ℕ → ℕ
ms_between since until = (until - since) / 1000

-- of a message from a gateway of this domain, under this id: an answer is shown with how long its command waited for it, since a datagram
-- came last; of what was sent before that is said alone
abbrev pub text_of_what : List ℕ → ℕ → Stamp → List ℕ → ℕ → What → List ℕ
text_of_what domain came to text id (whats.Answer code) = message_line domain to ways.Sent text (Some (ms_between came to.moment))
text_of_what domain came to text id (whats.Again code) = note_line to (notes.AnsweredAgain id)
text_of_what domain came to text id (whats.Command verb) = message_line domain to ways.Sent text None
text_of_what domain came to text id (whats.Resent verb send) = note_line to (notes.SentAgain id)
text_of_what domain came to text id whats.Acknowledgement = message_line domain to ways.Sent text None

unfoldable pub sent_text : List ℕ → ℕ → Stamp → List ℕ → Label → List ℕ
sent_text domain came to text label = text_of_what domain came to text label.id label.what

-- of a datagram with these texts, each the text of one of these messages
unfoldable pub datagram_text : List ℕ → ℕ → Stamp → List (List ℕ) → List SentMessage → List ℕ
datagram_text domain came to [] messages = []
datagram_text domain came to (text ∷ texts) [] = []
datagram_text domain came to (text ∷ texts) (message ∷ messages) =
    sent_text domain came to text message.label ++ datagram_text domain came to texts messages

-- What each line sent last

-- the line whose own command a message is, where it is one
abbrev pub own_line : Whose → Option ℕ
own_line (owners.AnswerOf line) = None
own_line (owners.OwnOf line) = Some line
own_line owners.Nobody = None

-- the line whose own command is sent for the first time
abbrev pub begun_by : Whose → What → Option ℕ
begun_by whose (whats.Answer code) = None
begun_by whose (whats.Again code) = None
begun_by whose (whats.Command verb) = own_line whose
begun_by whose (whats.Resent verb send) = None
begun_by whose whats.Acknowledgement = None

-- by line, with this command of a line's, if it is one
abbrev pub last_put : OwnCommand → Option ℕ → List (ℕ × OwnCommand) → List (ℕ × OwnCommand)
last_put command None last = last
last_put command (Some line) last = insert_entry nat_cmp last line command

-- once a message is sent
unfoldable pub last_with : Stamp → List ℕ → Label → List (ℕ × OwnCommand) → List (ℕ × OwnCommand)
last_with to text label last =
    last_put (record { id = label.id; first = to; text = text }) (begun_by label.whose label.what) last

-- once a datagram is sent with these texts, each the text of one of these messages
unfoldable pub last_behind : Stamp → List (List ℕ) → List SentMessage → List (ℕ × OwnCommand) → List (ℕ × OwnCommand)
last_behind to [] messages last = last
last_behind to (text ∷ texts) [] last = last
last_behind to (text ∷ texts) (message ∷ messages) last = last_behind to texts messages (last_with to text message.label last)
