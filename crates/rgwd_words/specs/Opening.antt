-- What the program opens, and why it doesn't; and how it ends where a line that it tells isn't answered.
use Rattle.std.specs.Prelude.{◌≡◌, ◌≢◌, ◌<◌, ◌⊎◌, ℕ, List, [], Option, None, Some}
use Rattle.std.specs.Borrow.{Bor}
use Rattle.std.specs.Net.Addr.{IsUnspecifiedV4}
use Rattle.std.specs.Net.Socket.{v4_ip, v4_port}
use Rattle.std.specs.declared.io.ErrorKind.TheVariants as kinds
use Rattle.std.specs.declared.net.ipv4_addr.Ipv4Addr.{Ipv4Addr}
use Rattle.std.specs.declared.net.socket_addr.SocketAddrV4.{SocketAddrV4}
use Rattle.live_system.specs.declared.address_words.AddressWord.TheVariants.{Tell}
use Rattle.live_system.specs.declared.asking.AskFault.{AskFault}
use Rattle.live_system.specs.declared.asking.AskFault.TheVariants as ask_faults
use Rattle.live_system.specs.declared.ending.CommonEnding.TheVariants as endings
use Rattle.page_http.specs.Naming.{names_in}
use Rattle.rgwd_words.specs.declared.ending.Ending.{Ending}
use Rattle.rgwd_words.specs.declared.ending.Ending.TheVariants.{Common, NoAnswer}
use Rattle.rgwd_words.specs.declared.words.ListFault.{ListFault}
use Rattle.rgwd_words.specs.declared.words.ListFault.TheVariants as faults
use Rattle.live_io.specs.Speaking.{admitted_in}

-- the further names under which the page may be asked, where the words say some; none else
abbrev pub names_asked : Option (Bor (List ℕ)) → Option (List (List ℕ))
names_asked None = Some []
names_asked (Some text) = names_in text.now

-- the page has no such names: memory is refused for those that words say, or they say none
abbrev pub RefusesNames : Option (Bor (List ℕ)) → ListFault → Type 0
RefusesNames None fault = ⊥
RefusesNames (Some text) fault = (fault ≡ faults.OutOfMemory) ⊎ ((fault ≡ faults.BadHosts) × (names_in text.now ≡ None))

-- nobody can be heard: memory is refused, or the words don't say who may speak
abbrev pub RefusesSpeakers : Option (Bor (List ℕ)) → ListFault → Type 0
RefusesSpeakers None fault = fault ≡ faults.OutOfMemory
RefusesSpeakers (Some text) fault = (fault ≡ faults.OutOfMemory) ⊎ ((fault ≡ faults.BadAgents) × (admitted_in text.now ≡ None))

-- a capture tells this address of a socket there: that of the gateway's media where the socket is at any address of the machine
abbrev pub TellsPlace : SocketAddrV4 → Ipv4Addr → SocketAddrV4 → Type 0
TellsPlace socket media here =
    (IsUnspecifiedV4 (v4_ip socket) → v4_ip here ≡ media)
    × (¬ (IsUnspecifiedV4 (v4_ip socket)) → v4_ip here ≡ v4_ip socket)
    × (v4_port here ≡ v4_port socket)

-- of a socket that doesn't tell where it is, it tells where it was to be
abbrev pub TellsSocket : SocketAddrV4 → SocketAddrV4 → Ipv4Addr → SocketAddrV4 → Type 0
TellsSocket own wanted media here = (0 < v4_port own → TellsPlace own media here) × (v4_port own ≡ 0 → TellsPlace wanted media here)

-- where a line that is told to this address isn't answered
abbrev pub Unanswered : SocketAddrV4 → AskFault → Ending → Type 0
Unanswered address ask_faults.NoAnswer ending = ending ≡ NoAnswer address
Unanswered address ask_faults.Clock ending = ending ≡ Common endings.Clock
Unanswered address (ask_faults.Refused kind) ending =
    (kind ≡ kinds.OutOfMemory → ending ≡ Common endings.OutOfMemory)
    × (kind ≢ kinds.OutOfMemory → ending ≡ Common (endings.Unbound Tell address kind))
