-- What the log says of who may not speak.
use Rattle.std.specs.Prelude.{ℕ, Bool, not, ◌&&◌, ◌||◌, nat_le, nat_lt, if◌then◌else◌, List, [], Option, Some, None}
use Rattle.std.specs.declared.net.socket_addr.SocketAddrV4.{SocketAddrV4}
use Rattle.log_format.specs.declared.note.Note.TheVariants as notes
use Rattle.log_format.specs.Lines.{note_line}
use Rattle.gateway_core.specs.Wire.{counted}
use Rattle.output_queues.specs.Backlog.{sum_within}
use Rattle.gateway_core.specs.declared.sent.SentMessage.{SentMessage}
use Rattle.live_io.specs.Speaking.{Admitted, may_speak}
use Rattle.message_counts.specs.Waiting.{is_own}
use Rattle.told_messages.specs.declared.strangers.Quiet.{Quiet}

-- Strangers

-- so long no other stranger is told of, in microseconds: a second
abbrev pub between : ℕ
between = 1000000

-- nobody is told of yet at a time; where the time of day was set back that lasts no longer than it would have
abbrev pub lasts : Quiet → ℕ → Bool
lasts quiet time = nat_lt time quiet.next && nat_le quiet.next (sum_within time between)

-- one who comes at a time is told of, where that is past, and then of how many before it isn't
abbrev pub told_at : Quiet → ℕ → Option ℕ
told_at quiet time = if lasts quiet time then None else Some quiet.untold

-- and one who isn't is counted until then
abbrev pub quiet_after : Quiet → ℕ → Quiet
quiet_after quiet time =
    if lasts quiet time then record quiet { untold = counted quiet.untold 1 }
    else record { next = sum_within time between; untold = 0 }

abbrev pub text_of_stranger : ℕ → SocketAddrV4 → Option ℕ → List ℕ
text_of_stranger time source None = []
text_of_stranger time source (Some untold) = note_line (record { moment = time; peer = source }) (notes.Stranger untold)

-- what the log says of a stranger's datagram
abbrev pub stranger_text : Quiet → ℕ → SocketAddrV4 → List ℕ
stranger_text quiet time source = text_of_stranger time source (told_at quiet time)

-- What is sent to them

-- what the log says of a message that was sent at this time: where it is such a command, and goes to who may not speak, no answer is heard
abbrev pub unheard_text : Admitted → ℕ → SentMessage → List ℕ
unheard_text admitted time message =
    if not (is_own message.label.what) || may_speak admitted message.to.ip then []
    else note_line (record { moment = time; peer = message.to }) (notes.Unheard message.to.ip)
