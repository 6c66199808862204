-- What is put into a record.
use Rattle.std.specs.Prelude.{◌≡◌, ◌⊎◌, ℕ, List, [], ◌++◌}
use Rattle.std.specs.declared.net.socket_addr.SocketAddrV4.{SocketAddrV4}
use Rattle.log_format.specs.declared.note.Note.TheVariants as notes
use Rattle.log_format.specs.Lines.{note_line}
use Rattle.output_queues.specs.declared.record.Record.{Record}
use Rattle.output_queues.specs.declared.record.RecordState.{RecordState}
use Rattle.output_queues.specs.declared.record.RecordState.TheVariants.{Off, On, OutOfMemory}

-- a record that is told all has this text behind what it had, or nothing from then on, where memory was refused; any other has what it had
abbrev pub Puts : RecordState → List ℕ → List ℕ → RecordState → List ℕ → Type 0
Puts Off were text state are = (state ≡ Off) × (are ≡ were)
Puts On were text state are = ((state ≡ On) × (are ≡ were ++ text)) ⊎ ((state ≡ OutOfMemory) × (are ≡ []))
Puts OutOfMemory were text state are = (state ≡ OutOfMemory) × (are ≡ were)

abbrev pub Records : Record → List ℕ → Record → Type 0
Records was text is = Puts was.state was.out.items text is.state is.out.items

-- what the log says of a datagram that couldn't be sent at this time
abbrev pub unsent_text : ℕ → SocketAddrV4 → List ℕ
unsent_text time to = note_line (record { moment = time; peer = to }) notes.Unsent
