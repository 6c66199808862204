-- What the log notes of a text in its place.
use Rattle.std.specs.Prelude.{ℕ, Bool, if◌then◌else◌, List, [], ◌∷◌, Option, Some, None}
use Rattle.mg_bytes.specs.Lines.{cut}
use Rattle.mgcp_text.specs.declared.message.Message.TheVariants.{Command, Response}
use Rattle.mgcp_text.specs.Reading.{Outcome, message, no_header, bad_version, bad_body, skip_empty, read_text}
use Rattle.log_format.specs.declared.note.Note.{Note}
use Rattle.log_format.specs.declared.note.Note.TheVariants.{Unreadable, SentAgain}

abbrev pub first_piece : List (List ℕ) → List ℕ
first_piece [] = []
first_piece (piece ∷ pieces) = piece

-- the header of a text is its first line that isn't empty, with its end (RFC 3435, 3.2 and 3.3)
abbrev pub header_in : List ℕ → List ℕ
header_in text = first_piece (skip_empty (cut text))

-- a command that is sent again is noted in its place, with its id
abbrev pub command_note : Bool → ℕ → Option Note
command_note is_repeat id = if is_repeat then Some (SentAgain id) else None

-- and so is what has no header
abbrev pub note_as : Bool → Outcome → Option Note
note_as is_repeat no_header = Some Unreadable
note_as is_repeat (bad_version id) = command_note is_repeat id
note_as is_repeat (bad_body id) = command_note is_repeat id
note_as is_repeat (message (Command verb id name params body)) = command_note is_repeat id
note_as is_repeat (message (Response code id params body)) = None

-- what is noted of a text that came or is sent, for the first time or again
abbrev pub text_note : Bool → List ℕ → Option Note
text_note is_repeat text = note_as is_repeat (read_text text)
