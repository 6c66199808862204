-- What is told of what a handle holds.
use Rattle.std.specs.Prelude.{ℕ, ◌&&◌, nat_le, nat_lt, if◌then◌else◌, List, length, Option, Some, None, slice_get}
use Rattle.std.specs.Net.Addr.{ipv4_bits}
use Rattle.std.specs.Net.Socket.{v4_ip, v4_port}
use Rattle.transmission.specs.declared.output.OutDatagram.{OutDatagram}
use Rattle.plain_machine.specs.declared.setup.Setup.{Setup}
use Rattle.rgw_c.specs.declared.instance.Instance.{Instance}
use Rattle.rgw_c.specs.declared.structs.Output.{Output}
use Rattle.rgw_c.specs.declared.numbers.TheConstants.{OK, NOT_OPEN, NO_SUCH_LINE, NO_SUCH_PLACE, SMALL_BUFFER, NOTHING_DUE}

-- by whether there is anything to ask
abbrev pub open_number : Option Instance → ℕ
open_number None = NOT_OPEN
open_number (Some is) = OK

-- what is asked of a line, from 1
abbrev pub line_number_in : Setup → ℕ → ℕ
line_number_in setup line = if nat_le 1 line && nat_le line setup.names.lines then OK else NO_SUCH_LINE

abbrev pub line_number : Option Instance → ℕ → ℕ
line_number None line = NOT_OPEN
line_number (Some is) line = line_number_in is.gateway.setup line

-- by whether anything is there
abbrev pub found_number : {A : Type 0} → Option A → ℕ
found_number None = NO_SUCH_PLACE
found_number (Some x) = OK

-- a text goes into so much room
abbrev pub room_number : List ℕ → ℕ → ℕ
room_number text room = if nat_lt room (length text) then SMALL_BUFFER else OK

-- whether something is due
abbrev pub due_number : Option ℕ → ℕ
due_number None = NOTHING_DUE
due_number (Some moment) = OK

-- a datagram is told so
abbrev pub output_of : OutDatagram → Output
output_of datagram =
    record { moment = datagram.moment; host = ipv4_bits (v4_ip datagram.to); port = v4_port datagram.to }

-- an index of what an open handle holds, and room for its text
abbrev pub output_number_by : Option OutDatagram → ℕ → ℕ
output_number_by None room = NO_SUCH_PLACE
output_number_by (Some datagram) room = room_number datagram.bytes room

abbrev pub output_number : Option Instance → ℕ → ℕ → ℕ
output_number None index room = NOT_OPEN
output_number (Some is) index room = output_number_by (slice_get is.outputs index) room

-- the output at an index
abbrev pub output_at : Option Instance → ℕ → Option OutDatagram
output_at None index = None
output_at (Some is) index = slice_get is.outputs index
