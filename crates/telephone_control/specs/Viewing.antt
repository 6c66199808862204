-- What the page is shown of the lines of a gateway: of each its hook, what is heard, its connections, and how many of its events were lost.
use Rattle.std.specs.Prelude.{ℕ, ◌+◌, ◌++◌, ◌==◌, if◌then◌else◌, zero, suc, Bool, true, false, List, [], ◌∷◌, map, Option, Some, None}
use Rattle.std.specs.Net.Text.{socket_v4_text}
use Rattle.std.specs.declared.net.socket_addr.SocketAddrV4.{SocketAddrV4}
use Rattle.packages.specs.declared.hook.Hook.{Hook}
use Rattle.packages.specs.declared.hook.Hook.TheVariants.{OnHook, OffHook}
use Rattle.packages.specs.Looking.{signal_name}
use Rattle.events_and_signals.specs.declared.active.ActiveSignal.{ActiveSignal}
use Rattle.connections.specs.declared.connection.Connection.{Connection}
use Rattle.connections.specs.Modes.{mode_text}
use Rattle.plain_machine.specs.declared.setup.Setup.{Setup}
use Rattle.plain_machine.specs.Machine.{Machine}
use Rattle.plain_machine.specs.Lists.{connections_of, lost_of}
use Rattle.line_changes.specs.declared.seen.SeenConnection.{SeenConnection}
use Rattle.line_changes.specs.Changes.{codec_text}
use Rattle.line_changes.specs.Seen.{SeenLine}
use Rattle.page_state.specs.declared.picture.SignalView.{SignalView}
use Rattle.page_state.specs.declared.picture.ConnectionView.{ConnectionView}
use Rattle.page_state.specs.declared.picture.LineView.{LineView}
use Rattle.page_state.specs.MetricsShowing.{SignalShown, ConnectionShown, LineShown, signal_shown, connection_shown, line_shown}
use Rattle.telephone_control.specs.Seeing.{seen_of}

-- the handset is lifted
abbrev pub is_off : Hook → Bool
is_off OnHook = false
is_off OffHook = true

-- a signal by its name, with its end
abbrev pub signal_viewed : ActiveSignal → SignalShown
signal_viewed active = record { name = signal_name active.signal; over = active.end }

unfoldable pub signals_viewed : List ActiveSignal → List SignalShown
signals_viewed [] = []
signals_viewed (active ∷ more) = signal_viewed active ∷ signals_viewed more

-- where media go, once that is known
abbrev pub remote_text : Option SocketAddrV4 → List ℕ
remote_text None = []
remote_text (Some address) = socket_v4_text address

-- the call of the connection with this number among those of a line, as that was spelled when it was created
unfoldable pub call_of : ℕ → List (Option Connection) → List ℕ
call_of number [] = []
call_of number (None ∷ more) = call_of number more
call_of number (Some connection ∷ more) = if connection.number == number then connection.call else call_of number more

-- a connection by its number, mode, codec and packet time, both ends of its media, and its call
abbrev pub connection_viewed : List (Option Connection) → SeenConnection → ConnectionShown
connection_viewed places seen = record {
  number = seen.number;
  mode = mode_text seen.mode;
  codec = codec_text seen.codec;
  packet_time = seen.packet_time;
  local = socket_v4_text seen.local;
  remote = remote_text seen.remote;
  call = call_of seen.number places;
}

unfoldable pub connections_viewed : List (Option Connection) → List SeenConnection → List ConnectionShown
connections_viewed places [] = []
connections_viewed places (seen ∷ more) = connection_viewed places seen ∷ connections_viewed places more

-- a line of which this is seen, with these places, and so many events lost
abbrev pub viewed : SeenLine → List (Option Connection) → ℕ → LineShown
viewed seen places lost = record {
  is_off_hook = is_off seen.hook;
  signals = signals_viewed seen.signals;
  connections = connections_viewed places seen.connections;
  lost = lost;
}

abbrev pub viewed_with : Option SeenLine → Option (List (Option Connection)) → Option ℕ → Option LineShown
viewed_with (Some seen) (Some places) (Some lost) = Some (viewed seen places lost)
viewed_with seen places lost = None

-- a line of the machine, if there is one
abbrev pub line_viewed : Setup → Machine → ℕ → Option LineShown
line_viewed setup m line = viewed_with (seen_of setup m line) (connections_of m line) (lost_of m line)

-- its first so many lines, from line 1
unfoldable pub lines_viewed : Setup → Machine → ℕ → List (Option LineShown)
lines_viewed setup m zero = []
lines_viewed setup m (suc line) = lines_viewed setup m line ++ (line_viewed setup m (suc line) ∷ [])

-- what lists of views show
abbrev pub signals_in : List SignalView → List SignalShown
signals_in views = map signal_shown views

abbrev pub connections_in : List ConnectionView → List ConnectionShown
connections_in views = map connection_shown views

abbrev pub lines_in : List LineView → List (Option LineShown)
lines_in views = map (λ view. Some (line_shown view)) views
