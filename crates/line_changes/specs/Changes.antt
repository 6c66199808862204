-- What changed at a line, by what was seen of it before an event and what is seen of it behind that. Of what happened in between nothing
-- is told: a signal that begins and ends at one event, as where a clock catches up, changes nothing.
use Rattle.std.specs.Prelude.{ℕ, Bool, true, false, ◌&&◌, ◌==◌, bytes_eq, codes, if◌then◌else◌, List, [], ◌∷◌, ◌++◌, Option, Some, None}
use Rattle.std.specs.List.{list_any, flat_map}
use Rattle.std.specs.Net.Addr.{ipv4_octets}
use Rattle.std.specs.declared.net.socket_addr.SocketAddrV4.{SocketAddrV4}
use Rattle.packages.specs.declared.hook.Hook.{Hook}
use Rattle.packages.specs.declared.hook.Hook.TheVariants.{OnHook, OffHook}
use Rattle.packages.specs.declared.signal.Signal.{Signal}
use Rattle.packages.specs.Looking.{is_same_signal}
use Rattle.events_and_signals.specs.declared.active.ActiveSignal.{ActiveSignal}
use Rattle.connections.specs.declared.codec.Codec.{Codec}
use Rattle.connections.specs.declared.codec.Codec.TheVariants.{Pcmu, Pcma}
use Rattle.connections.specs.Modes.{mode_text}
use Rattle.line_changes.specs.declared.seen.SeenConnection.{SeenConnection}
use Rattle.line_changes.specs.declared.change.Change.{Change}
use Rattle.line_changes.specs.declared.change.Change.TheVariants as changes
use Rattle.line_changes.specs.Seen.{SeenLine}

-- The same

abbrev pub is_same_hook : Hook → Hook → Bool
is_same_hook OnHook OnHook = true
is_same_hook OnHook OffHook = false
is_same_hook OffHook OnHook = false
is_same_hook OffHook OffHook = true

abbrev pub is_same_end : Option ℕ → Option ℕ → Bool
is_same_end None None = true
is_same_end None (Some other) = false
is_same_end (Some one) None = false
is_same_end (Some one) (Some other) = one == other

-- a signal that goes on has the end that it had
abbrev pub is_same_active : ActiveSignal → ActiveSignal → Bool
is_same_active one other = is_same_signal one.signal other.signal && is_same_end one.end other.end

abbrev pub is_same_host : List ℕ → List ℕ → Bool
is_same_host one other = bytes_eq one other

abbrev pub is_same_address : SocketAddrV4 → SocketAddrV4 → Bool
is_same_address one other = one.port == other.port && is_same_host (ipv4_octets one.ip) (ipv4_octets other.ip)

abbrev pub is_same_remote : Option SocketAddrV4 → Option SocketAddrV4 → Bool
is_same_remote None None = true
is_same_remote None (Some other) = false
is_same_remote (Some one) None = false
is_same_remote (Some one) (Some other) = is_same_address one other

abbrev pub codec_text : Codec → List ℕ
codec_text Pcmu = codes "PCMU"
codec_text Pcma = codes "PCMA"

-- in all that is seen
abbrev pub is_same_connection : SeenConnection → SeenConnection → Bool
is_same_connection one other =
    one.number == other.number && bytes_eq (mode_text one.mode) (mode_text other.mode) && is_same_address one.local other.local
    && is_same_remote one.remote other.remote && bytes_eq (codec_text one.codec) (codec_text other.codec)
    && one.packet_time == other.packet_time

-- Among others

-- the signal is one of these, with whatever end
abbrev pub has_signal : List ActiveSignal → Signal → Bool
has_signal list signal = list_any (λ other. is_same_signal other.signal signal) list

-- the signal is one of these, with that very end
abbrev pub has_active : List ActiveSignal → ActiveSignal → Bool
has_active list active = list_any (λ other. is_same_active other active) list

-- a connection of this number is one of these
abbrev pub has_number : List SeenConnection → ℕ → Bool
has_number list number = list_any (λ other. other.number == number) list

-- the connection is one of these, and as it was
abbrev pub has_connection : List SeenConnection → SeenConnection → Bool
has_connection list connection = list_any (λ other. is_same_connection other connection) list

-- What changed

abbrev pub hook_change : Hook → Hook → List Change
hook_change was is = if is_same_hook was is then [] else changes.Hook is ∷ []

-- a signal that isn't active any more ends
abbrev pub ended : List ActiveSignal → ActiveSignal → List Change
ended are active = if has_signal are active.signal then [] else changes.Ends active.signal ∷ []

-- a signal begins that wasn't active, or had another end
abbrev pub begun : List ActiveSignal → ActiveSignal → List Change
begun were active = if has_active were active then [] else changes.Begins active ∷ []

-- a connection whose number none has any more is over
abbrev pub over : List SeenConnection → SeenConnection → List Change
over are connection = if has_number are connection.number then [] else changes.Over connection.number ∷ []

-- a connection is told that wasn't there, or was another
abbrev pub standing : List SeenConnection → SeenConnection → List Change
standing were connection = if has_connection were connection then [] else changes.Stands connection ∷ []

-- the hook; then what ends, and what begins; of connections those that are over, and those that stand
abbrev pub changes_of : SeenLine → SeenLine → List Change
changes_of was is =
    hook_change was.hook is.hook
    ++ flat_map (ended is.signals) was.signals ++ flat_map (begun was.signals) is.signals
    ++ flat_map (over is.connections) was.connections ++ flat_map (standing was.connections) is.connections
