-- What is left of lines that came in one datagram: each is answered in a turn of its own.
use Rattle.std.specs.Prelude.{◌≡◌, ℕ, List, [], ◌∷◌, ◌++◌, drop, Option, Some, None}
use Rattle.std.specs.declared.net.socket_addr.SocketAddr.{SocketAddr}
use Rattle.std.specs.declared.net.socket_addr.SocketAddr.TheVariants.{V4, V6}
use Rattle.std.specs.declared.net.socket_addr.SocketAddrV4.{SocketAddrV4}
use Rattle.mg_bytes.specs.Lines.{cut}
use Rattle.live_io.specs.declared.lines.Lines.{Lines}

-- the pieces that are left, of which the first is the line that is answered next
abbrev pub left_of : Lines → List (List ℕ)
left_of lines = cut (drop lines.begin lines.text.items)

-- what stands behind the first
abbrev pub behind : List (List ℕ) → List (List ℕ)
behind [] = []
behind (piece ∷ pieces) = pieces

-- a text ends with this
abbrev pub EndsWith : List ℕ → List ℕ → Type 0
EndsWith text end = (before : List ℕ) × (text ≡ before ++ end)

-- an address of the kind that sockets here have
abbrev pub v4_of : Option SocketAddr → Option SocketAddrV4
v4_of None = None
v4_of (Some (V4 sender)) = Some sender
v4_of (Some (V6 sender)) = None
