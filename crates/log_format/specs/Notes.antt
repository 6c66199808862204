-- What is noted beside messages, and of the program itself (this gateway's profile).
use Rattle.std.specs.Prelude.{ℕ, ◌==◌, codes, decimal, if◌then◌else◌, List, [], ◌++◌, Option, Some, None}
use Rattle.std.specs.Net.Addr.{ipv4_octets}
use Rattle.std.specs.Net.Text.{ipv4_text}
use Rattle.mg_bytes.specs.declared.return_code.ReturnCode.{ReturnCode}
use Rattle.mg_bytes.specs.ReturnCode.{words_of, code_with}
use Rattle.log_format.specs.Grouping.{number_shown}
use Rattle.log_format.specs.declared.note.Note.{Note}
use Rattle.log_format.specs.declared.note.Note.TheVariants.{AnsweredAgain, Unanswered, SentAgain, Refused, Unreadable, TooLong, Unsent, OutOfMemory, Lost, Late, Copied, Stranger, Unheard, NoRoom}
use Rattle.log_format.specs.declared.note.Notice.{Notice}
use Rattle.log_format.specs.declared.note.Notice.TheVariants.{Dropped, SetOn, SetBack}

-- what the standard says of a return code, if it is one of this gateway's
abbrev pub words_from : Option ReturnCode → List ℕ
words_from None = []
words_from (Some code) = codes " " ++ words_of code

-- how many strangers aren't told of, where there are any
abbrev pub untold_text : ℕ → List ℕ
untold_text untold = if untold == 0 then [] else codes ", as " ++ decimal untold ++ codes " before it"

-- what a note says
unfoldable pub note_text : Note → List ℕ
note_text (AnsweredAgain id) = codes "repeat of " ++ decimal id ++ codes ", answered again"
note_text (Unanswered id) = codes "repeat of " ++ decimal id ++ codes ", confirmed, not answered"
note_text (SentAgain id) = codes "repeat of " ++ decimal id ++ codes ", no answer yet"
note_text (Refused id code) =
    codes "refused " ++ decimal id ++ codes ": " ++ decimal code ++ words_from (code_with code)
note_text Unreadable = codes "no message"
note_text (TooLong length) = codes "too long: " ++ decimal length ++ codes " bytes or more"
note_text Unsent = codes "not sent"
note_text OutOfMemory = codes "out of memory, nothing was done"
note_text Lost = codes "lost on its way"
note_text (Late ms) = codes "late by " ++ decimal ms ++ codes " ms"
note_text (Copied first second) =
    codes "copied, late by " ++ decimal first ++ codes " and " ++ decimal second ++ codes " ms"
note_text (Stranger untold) = codes "a stranger's, not heard" ++ untold_text untold
note_text (Unheard host) = codes "no answer is heard from there, but with --agents " ++ ipv4_text (ipv4_octets host)
note_text (NoRoom young) = codes "lost: " ++ number_shown young ++ codes " commands are young"

-- what a notice says: lines of the log weren't kept, since what was written before them wasn't taken; or the machine's time of day was set
unfoldable pub notice_text : Notice → List ℕ
notice_text (Dropped lines) = codes "dropped " ++ decimal lines ++ codes " lines, which nobody took"
notice_text (SetOn ms) = codes "the time of day was set on by " ++ decimal ms ++ codes " ms"
notice_text (SetBack ms) = codes "the time of day was set back by " ++ decimal ms ++ codes " ms"
