-- What the log says of what comes, by what each text was to the gateway, of what isn't taken, and of what the gateway gives up.
use Rattle.std.specs.Prelude.{ℕ, ◌==◌, nat_lt, if◌then◌else◌, List, [], ◌∷◌, ◌++◌, length, Option, Some, None}
use Rattle.std.specs.List.{flat_map}
use Rattle.std.specs.Ordering.{nat_cmp}
use Rattle.std.specs.BTreeMap.{is_at}
use Rattle.std.specs.Map.{lookup}
use Rattle.log_format.specs.declared.note.Note.{Note}
use Rattle.log_format.specs.declared.note.Note.TheVariants as notes
use Rattle.log_format.specs.declared.stamp.Stamp.{Stamp}
use Rattle.log_format.specs.declared.stamp.Way.TheVariants as ways
use Rattle.log_format.specs.Lines.{message_line, note_line, given_up_line}
use Rattle.gateway_core.specs.declared.outcome.TextOutcome.{TextOutcome}
use Rattle.gateway_core.specs.declared.outcome.TextOutcome.TheVariants.{NoMessage, Command, Response}
use Rattle.mgcp_text.specs.Parts.{parts_of}
use Rattle.plain_machine.specs.declared.given_up.GivenUpCommand.{GivenUpCommand}
use Rattle.plain_machine.specs.Posting.{line_of_id}
use Rattle.transmission.specs.Texts.{largest_datagram, texts_of}
use Rattle.told_messages.specs.declared.log.Arrival.{Arrival}
use Rattle.told_messages.specs.declared.log.OwnCommand.{OwnCommand}
use Rattle.told_messages.specs.Sending.{ms_between}

-- what this line sent last
abbrev pub last_of : List (ℕ × OwnCommand) → ℕ → Option OwnCommand
last_of last line = lookup (is_at (nat_cmp line)) last

abbrev pub waited_by : ℕ → ℕ → Option OwnCommand → Option ℕ
waited_by moment id None = None
waited_by moment id (Some command) = if command.id == id then Some (ms_between command.first.moment moment) else None

-- a response came at a moment to the command with this id: how long that waited, in ms, where it is what its line sent last
unfoldable pub waited_for : List (ℕ × OwnCommand) → ℕ → ℕ → Option ℕ
waited_for last moment id = waited_by moment id (last_of last (line_of_id id))

-- of a text for a gateway of this domain: that it is no message, or the text, with how long a response took
unfoldable pub came_text : List ℕ → List (ℕ × OwnCommand) → Stamp → List ℕ → TextOutcome → List ℕ
came_text domain last came text NoMessage = note_line came notes.Unreadable
came_text domain last came text (Command verb id reply) = message_line domain came ways.Came text None
came_text domain last came text (Response id asked) = message_line domain came ways.Came text (waited_for last came.moment id)

-- of these texts, each of which was one of these to the gateway
unfoldable pub texts_came : List ℕ → List (ℕ × OwnCommand) → Stamp → List (List ℕ) → List TextOutcome → List ℕ
texts_came domain last came [] outcomes = []
texts_came domain last came (text ∷ texts) [] = []
texts_came domain last came (text ∷ texts) (outcome ∷ outcomes) =
    came_text domain last came text outcome ++ texts_came domain last came texts outcomes

-- of a datagram: that it is too long, or its texts
unfoldable pub datagram_came : List ℕ → List (ℕ × OwnCommand) → Stamp → List ℕ → List TextOutcome → List ℕ
datagram_came domain last came bytes outcomes =
    if nat_lt largest_datagram (length bytes) then note_line came (notes.TooLong (length bytes))
    else texts_came domain last came (texts_of bytes) outcomes

-- and by how many ms it came late, if it did
abbrev pub late_text : Stamp → ℕ → List ℕ
late_text came late = if late == 0 then [] else note_line came (notes.Late late)

-- of the datagram that came and isn't told yet, if there is one
abbrev pub arrival_text : List ℕ → List (ℕ × OwnCommand) → Stamp → Option Arrival → List TextOutcome → List ℕ
arrival_text domain last came None outcomes = []
arrival_text domain last came (Some arrival) outcomes =
    datagram_came domain last came arrival.bytes outcomes ++ late_text came arrival.late

abbrev pub text_of_last : List ℕ → ℕ → Option OwnCommand → List ℕ
text_of_last domain time None = []
text_of_last domain time (Some command) =
    given_up_line domain (record { moment = time; peer = command.first.peer }) command.text

-- of a command that is given up at a time: what its line sent last, with whom it was sent to first
unfoldable pub given_up_text : List ℕ → List (ℕ × OwnCommand) → ℕ → GivenUpCommand → List ℕ
given_up_text domain last time given_up = text_of_last domain time (last_of last given_up.line)

-- of a datagram that isn't taken: each of its texts, and why
abbrev pub untaken_text : List ℕ → Stamp → List ℕ → Note → List ℕ
untaken_text domain from bytes why =
    flat_map (λ text. message_line domain from ways.Came text None) (parts_of bytes) ++ note_line from why
