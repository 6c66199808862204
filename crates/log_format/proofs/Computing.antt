-- The definitions opened, so that worked examples compute.
use Rattle.std.specs.Prelude.{⊤}
use Rattle.mg_bytes.proofs.Computing.{on_examples as byte_examples}
use Rattle.log_format.specs.Escaping.{shown}
use Rattle.log_format.specs.Grouping.{grouped}
use Rattle.log_format.specs.Calendar.{year_in, month_in}
use Rattle.log_format.specs.TimeOfDay.{two_digits, three_digits, date_of, time_of_day, date_and_time}
use Rattle.log_format.specs.Messages.{name_shown, header_shown, message_shown, header_of}
use Rattle.log_format.specs.Notes.{note_text, notice_text}
use Rattle.log_format.specs.Lines.{stamp_text, message_line, note_line, notice_line, given_up_line, refused_line}
use Rattle.log_format.specs.Pausing.{waiting_text, pause_line}

unfoldable pub on_examples : ⊤
unfolding byte_examples shown grouped year_in month_in two_digits three_digits date_of time_of_day date_and_time name_shown header_shown message_shown header_of note_text notice_text stamp_text message_line note_line notice_line given_up_line refused_line waiting_text pause_line
on_examples = tt
