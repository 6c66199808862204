-- What is noted of what a bad network makes of a datagram.
use Rattle.std.specs.Prelude.{◌≡◌, ℕ, ◌==◌, if◌then◌else◌, Option, Some, None}
use Rattle.std.specs.declared.net.socket_addr.SocketAddrV4.{SocketAddrV4}
use Rattle.impairment.specs.declared.fate.Fate.{Fate}
use Rattle.impairment.specs.declared.fate.Fate.TheVariants as fates
use Rattle.log_format.specs.declared.note.Note.{Note}
use Rattle.log_format.specs.declared.note.Note.TheVariants as notes
use Rattle.log_format.specs.Lines.{note_line}
use Rattle.output_queues.specs.declared.record.Record.{Record}
use Rattle.told_messages.specs.Recording.{Records}

-- nothing, where it comes at once
abbrev pub fate_note : Fate → Option Note
fate_note fates.Lost = Some notes.Lost
fate_note (fates.Once late) = if late == 0 then None else Some (notes.Late late)
fate_note (fates.Twice first second) = Some (notes.Copied first second)

-- this is noted in a record at this time, of who is there
abbrev pub Notes : Record → ℕ → SocketAddrV4 → Option Note → Record → Type 0
Notes was time peer None is = is ≡ was
Notes was time peer (Some note) is = Records was (note_line (record { moment = time; peer = peer }) note) is
