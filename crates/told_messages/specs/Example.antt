-- What is told in the worked examples.
use Rattle.std.specs.Prelude.{ℕ, List, Option}
use Rattle.log_format.specs.declared.stamp.Stamp.{Stamp}
use Rattle.page_state.specs.declared.label.MessageKind.{MessageKind}
use Rattle.page_state.specs.declared.label.MessageLabel.{MessageLabel}
use Rattle.message_counts.specs.Example.{host}
use Rattle.told_messages.specs.declared.log.OwnCommand.{OwnCommand}
use Rattle.told_messages.specs.declared.strangers.Quiet.{Quiet}

-- what the page is told of a message of this line, with this id and code, that is sent so often
abbrev pub shown : MessageKind → Option ℕ → Option ℕ → Option ℕ → Option ℕ → MessageLabel
shown kind line id code send = record { kind = kind; line = line; id = id; code = code; send = send }

-- strangers are told of again from this moment on, and so many weren't
abbrev pub quiet_until : ℕ → ℕ → Quiet
quiet_until next untold = record { next = next; untold = untold }

-- with 10.0.0.9 at this moment, in microseconds
abbrev pub with_peer : ℕ → Stamp
with_peer moment = record { moment = moment; peer = host 9 }

-- a command under this id, of this text, that was sent there first at this moment
abbrev pub begun : ℕ → ℕ → List ℕ → OwnCommand
begun id moment text = record { id = id; first = with_peer moment; text = text }
