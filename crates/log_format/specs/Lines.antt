-- The lines of the log: each begins with the date, the time of day and the other end's address, and then says what happened: `>`
-- it sent, `<` it was sent, and `!` what is noted. What is noted of the program itself has no other end.
use Rattle.std.specs.Prelude.{ℕ, codes, decimal, List, [], ◌∷◌, ◌++◌, Option, Some, None}
use Rattle.std.specs.Net.Text.{socket_v4_text}
use Rattle.log_format.specs.declared.stamp.Stamp.{Stamp}
use Rattle.log_format.specs.declared.stamp.Way.{Way}
use Rattle.log_format.specs.declared.stamp.Way.TheVariants.{Came, Sent}
use Rattle.log_format.specs.declared.note.Note.{Note}
use Rattle.log_format.specs.Escaping.{escaped}
use Rattle.log_format.specs.TimeOfDay.{date_and_time}
use Rattle.log_format.specs.Messages.{message_shown, header_of}
use Rattle.log_format.specs.declared.note.Notice.{Notice}
use Rattle.log_format.specs.Notes.{note_text, notice_text}

-- what each line begins with, as `2026-11-27T12:03:07.123Z 10.0.0.7:2727`
unfoldable pub stamp_text : Stamp → List ℕ
stamp_text stamp = date_and_time stamp.moment ++ codes " " ++ socket_v4_text stamp.peer

abbrev pub mark_of : Way → List ℕ
mark_of Came = codes " >"
mark_of Sent = codes " <"

-- how long the command had been waiting for this answer, in ms
abbrev pub waited_text : Option ℕ → List ℕ
waited_text None = []
waited_text (Some ms) = codes " +" ++ decimal ms ++ codes " ms"

-- a message that comes to or leaves a gateway of this domain, or of none where that is empty
unfoldable pub message_line : List ℕ → Stamp → Way → List ℕ → Option ℕ → List ℕ
message_line own stamp way text waited =
    stamp_text stamp ++ mark_of way ++ message_shown own text ++ waited_text waited ++ 10 ∷ []

-- a note
unfoldable pub note_line : Stamp → Note → List ℕ
note_line stamp note = stamp_text stamp ++ codes " ! " ++ note_text note ++ 10 ∷ []

-- what is noted of the program itself
unfoldable pub notice_line : ℕ → Notice → List ℕ
notice_line moment notice = date_and_time moment ++ codes " ! " ++ notice_text notice ++ 10 ∷ []

-- a command of the gateway's own is given up
unfoldable pub given_up_line : List ℕ → Stamp → List ℕ → List ℕ
given_up_line own stamp text = stamp_text stamp ++ codes " ! given up:" ++ header_of own text ++ 10 ∷ []

-- a command is refused, with what is at fault
unfoldable pub refused_line : Stamp → ℕ → List ℕ → List ℕ
refused_line stamp id why =
    stamp_text stamp ++ codes " ! refused " ++ decimal id ++ codes ": " ++ escaped why ++ 10 ∷ []
