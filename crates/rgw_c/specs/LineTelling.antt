-- What is told of a line, in numbers.
use Rattle.std.specs.Prelude.{ℕ, ◌+◌, ◌*◌, ◌%◌, List, length, Option, Some, None, slice_get, ⊤}
use Rattle.std.specs.Net.Addr.{ipv4_bits}
use Rattle.packages.specs.declared.hook.Hook.{Hook}
use Rattle.packages.specs.declared.hook.Hook.TheVariants.{OnHook, OffHook}
use Rattle.packages.specs.declared.signal.Signal.{Signal}
use Rattle.packages.specs.declared.signal.Signal.TheVariants.{DialTone, Busy, Reorder, Ringing, RingSplash, MessageWaiting, Ringback, Congestion, Confirm}
use Rattle.events_and_signals.specs.declared.active.ActiveSignal.{ActiveSignal}
use Rattle.sdp_subset.specs.declared.session.Session.{Session}
use Rattle.connections.specs.declared.codec.Codecs.{Codecs}
use Rattle.connections.specs.declared.codec.Codecs.TheVariants.{Only, Both}
use Rattle.connections.specs.declared.mode.Mode.{Mode}
use Rattle.connections.specs.declared.mode.Mode.TheVariants.{SendOnly, ReceiveOnly, SendReceive, Conference, Inactive}
use Rattle.connections.specs.declared.connection.Connection.{Connection}
use Rattle.connections.specs.Codecs.{payload_type, other_than, listed}
use Rattle.plain_machine.specs.declared.setup.Setup.{Setup}
use Rattle.plain_machine.specs.Machine.{Machine, port_of}
use Rattle.plain_machine.specs.Event.{GatewayEvent}
use Rattle.plain_machine.specs.Lists.{plain}
use Rattle.gateway_core.specs.GatewayState.{GatewayState}
use Rattle.gateway_core.specs.Stands.{Stands}
use Rattle.rgw_c.specs.declared.instance.Instance.{Instance}
use Rattle.rgw_c.specs.declared.structs.SignalTold.{SignalTold}
use Rattle.rgw_c.specs.declared.structs.ConnectionTold.{ConnectionTold}
use Rattle.rgw_c.specs.declared.numbers.TheConstants.{OK, NO_SUCH_PLACE, NO_CONNECTION}

-- it holds of the plain machine of a gateway, whatever events that stands for
abbrev pub TellsOf : GatewayState → (Setup → Machine → Type 0) → Type 0
TellsOf g P = (events : List GatewayEvent) → Stands g events → P g.setup (plain g.setup events)

-- of that of the gateway that a handle holds, if it holds one
abbrev pub Tells : Option Instance → (Setup → Machine → Type 0) → Type 0
Tells None P = ⊤
Tells (Some is) P = TellsOf is.gateway P

abbrev pub hook_number : Hook → ℕ
hook_number OnHook = 0
hook_number OffHook = 1

-- the signals, in the order of the table, from 1
abbrev pub signal_number : Signal → ℕ
signal_number DialTone = 1
signal_number Busy = 2
signal_number Reorder = 3
signal_number Ringing = 4
signal_number RingSplash = 5
signal_number MessageWaiting = 6
signal_number Ringback = 7
signal_number Congestion = 8
signal_number Confirm = 9

abbrev pub signal_with : Signal → Option ℕ → SignalTold
signal_with signal None = record { end = 0; signal = signal_number signal; ends = 0 }
signal_with signal (Some end) = record { end = end; signal = signal_number signal; ends = 1 }

abbrev pub signal_of : ActiveSignal → SignalTold
signal_of active = signal_with active.signal active.end

abbrev pub mode_number : Mode → ℕ
mode_number SendOnly = 1
mode_number ReceiveOnly = 2
mode_number SendReceive = 3
mode_number Conference = 4
mode_number Inactive = 5

abbrev pub first_payload : Codecs → ℕ
first_payload (Only codec) = payload_type codec
first_payload (Both first) = payload_type first

abbrev pub last_payload : Codecs → ℕ
last_payload (Only codec) = payload_type codec
last_payload (Both first) = payload_type (other_than first)

abbrev pub remote_host : Option Session → ℕ
remote_host None = 0
remote_host (Some session) = ipv4_bits session.address

abbrev pub remote_port : Option Session → ℕ
remote_port None = 0
remote_port (Some session) = session.port

abbrev pub remote_known : Option Session → ℕ
remote_known None = 0
remote_known (Some session) = 1

-- the port at which a place of a line receives, as 16 bits have it: a gateway's are all ports (`port` of rgw_connection)
abbrev pub local_port : Setup → ℕ → ℕ → ℕ
local_port setup line place = (port_of setup line + 2 * place) % 65536

-- the connection at a place of a line
abbrev pub connection_of : Setup → ℕ → ℕ → Connection → ConnectionTold
connection_of setup line place connection = record {
  number = connection.number;
  local_host = ipv4_bits setup.media_address;
  remote_host = remote_host connection.remote;
  local_port = local_port setup line place;
  remote_port = remote_port connection.remote;
  is_remote_known = remote_known connection.remote;
  mode = mode_number connection.mode;
  packet_time = connection.options.packet_time;
  payloads = length (listed connection.codecs.in_force);
  first_payload = first_payload connection.codecs.in_force;
  last_payload = last_payload connection.codecs.in_force;
}

-- what is at an index of a list, if there is a list
abbrev pub at_index : {A : Type 0} → Option (List A) → ℕ → Option A
at_index None index = None
at_index (Some xs) index = slice_get xs index

-- what is asked of a place: it holds a connection, it is empty, or there is none
abbrev pub place_number : Option (Option Connection) → ℕ
place_number None = NO_SUCH_PLACE
place_number (Some None) = NO_CONNECTION
place_number (Some (Some connection)) = OK
