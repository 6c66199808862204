-- What is printed of a datagram that goes out, of a step that is refused, and of a line. Each line ends in LF.
use Rattle.std.specs.Prelude.{ℕ, codes, decimal, List, [], ◌∷◌, ◌++◌, Option, Some, None}
use Rattle.std.specs.List.{flat_map, filter_map}
use Rattle.std.specs.Net.Text.{socket_v4_text}
use Rattle.mg_bytes.specs.Lines.{lines_of}
use Rattle.packages.specs.declared.hook.Hook.{Hook}
use Rattle.packages.specs.declared.hook.Hook.TheVariants.{OffHook, OnHook}
use Rattle.packages.specs.Looking.{signal_name}
use Rattle.events_and_signals.specs.declared.active.ActiveSignal.{ActiveSignal}
use Rattle.connections.specs.declared.connection.Connection.{Connection}
use Rattle.connections.specs.Modes.{mode_text}
use Rattle.connections.specs.Numbers.{number_text}
use Rattle.transmission.specs.declared.output.OutDatagram.{OutDatagram}
use Rattle.machine_rules.specs.declared.refusal.Refusal.{Refusal}
use Rattle.plain_machine.specs.Refusal.{refusal_number, refusal_name}
use Rattle.rgw_scripts.specs.Status.{LineStatus}

abbrev pub printed_line : List ℕ → List ℕ
printed_line line = line ++ 10 ∷ []

-- `> moment address`
abbrev pub datagram_line : OutDatagram → List ℕ
datagram_line datagram =
    codes "> " ++ decimal datagram.moment ++ codes " " ++ socket_v4_text datagram.to

-- then the datagram's lines, and `--`
unfoldable pub printed_datagram : OutDatagram → List ℕ
printed_datagram datagram =
    printed_line (datagram_line datagram) ++ flat_map printed_line (lines_of datagram.bytes)
    ++ printed_line (codes "--")

-- `! number Name`
abbrev pub refusal_line : Refusal → List ℕ
refusal_line refusal =
    codes "! " ++ decimal (refusal_number refusal) ++ codes " " ++ refusal_name refusal

abbrev pub hook_word : Hook → List ℕ
hook_word OffHook = codes "off"
hook_word OnHook = codes "on"

-- `-` where no time ends a signal
abbrev pub end_shown : Option ℕ → List ℕ
end_shown None = codes "-"
end_shown (Some end) = decimal end

-- a signal and its end, as `L/dl:17000`; `-` where no time ends it
abbrev pub signal_shown : ActiveSignal → List ℕ
signal_shown active = signal_name active.signal ++ codes ":" ++ end_shown active.end

-- a connection's identifier and its mode, as `1:recvonly`
abbrev pub connection_shown : Connection → List ℕ
connection_shown connection = number_text connection.number ++ codes ":" ++ mode_text connection.mode

-- items with commas between them; `-` where there are none
unfoldable pub listed : {X : Type 0} → (X → List ℕ) → List X → List ℕ
listed shown [] = codes "-"
listed shown (first ∷ more) = shown first ++ flat_map (λ next. codes "," ++ shown next) more

-- the connections that places hold, in the order of the places
abbrev pub held_in : List (Option Connection) → List Connection
held_in places = filter_map (λ held. held) places

-- which line it is, and its hook state
unfoldable pub line_head : ℕ → Hook → List ℕ
line_head line hook = codes "line " ++ decimal line ++ codes " " ++ hook_word hook

unfoldable pub signals_shown : List ActiveSignal → List ℕ
signals_shown signals = codes " signals " ++ listed signal_shown signals

unfoldable pub connections_shown : List (Option Connection) → List ℕ
connections_shown places = codes " connections " ++ listed connection_shown (held_in places)

-- how many events found no room
unfoldable pub lost_shown : ℕ → List ℕ
lost_shown lost = codes " lost " ++ decimal lost

-- what a line is, as `line 1 off signals L/dl:17000 connections 1:recvonly lost 0`
abbrev pub shown_line : LineStatus → List ℕ
shown_line status =
    line_head status.line status.hook ++ signals_shown status.signals ++ connections_shown status.connections
    ++ lost_shown status.lost
