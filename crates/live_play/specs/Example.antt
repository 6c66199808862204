-- Outlets of which the worked examples speak.
use Rattle.std.specs.Prelude.{◌≡◌, ℕ, ◌+◌, ◌==◌, if◌then◌else◌, List, [], ◌∷◌, ◌++◌, Option, Some, None}
use Rattle.std.specs.declared.net.socket_addr.SocketAddrV4.{SocketAddrV4}
use Rattle.gateway_core.specs.declared.sent.SentMessage.{SentMessage}
use Rattle.traces.specs.declared.telling.Mark.{Mark}
use Rattle.traces.specs.declared.telling.Mark.TheVariants.{Lost}

-- one that says the same of each datagram
abbrev pub says : Option Mark → ℕ → SocketAddrV4 → List ℕ → List SentMessage → Option Mark → ℕ → Type 0
says said was to bytes messages mark is = mark ≡ said

-- what is said of the datagram behind so many
abbrev pub lost_behind_one : ℕ → Option Mark
lost_behind_one before = if before == 1 then Some Lost else None

-- one that counts datagrams, and loses the second
abbrev pub loses_the_second : ℕ → SocketAddrV4 → List ℕ → List SentMessage → Option Mark → ℕ → Type 0
loses_the_second was to bytes messages mark is = (is ≡ was + 1) × (mark ≡ lost_behind_one was)

-- one that keeps what is told of the messages of each datagram
abbrev pub keeps : List (List SentMessage) → SocketAddrV4 → List ℕ → List SentMessage → Option Mark → List (List SentMessage) → Type 0
keeps was to bytes messages mark is = is ≡ was ++ messages ∷ []
