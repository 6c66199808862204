-- What went over sockets: what was handed over to be sent, and what was received.
use Rattle.std.specs.Prelude.{◌≡◌, ⊤, ℕ, List, [], ◌∷◌, ◌++◌, take, Option, None, Some, Result, Ok, Err}
use Rattle.std.specs.declared.net.socket_addr.SocketAddrV4.{SocketAddrV4}
use Rattle.live_io.specs.declared.surroundings.Fault.{Fault}

-- a datagram, and where it is to go
pub record Sent : Type 0 where
  pub to : SocketAddrV4
  pub bytes : List ℕ

-- a datagram, and where it came from
pub record Received : Type 0 where
  pub source : SocketAddrV4
  pub bytes : List ℕ

-- what is told of what went over sockets: all datagrams that were handed over, and all that were received, each in their order
pub record Traffic : Type 0 where
  pub sent : Option (List Sent)
  pub received : Option (List Received)

-- nothing is told
abbrev pub untold : Traffic
untold = record { sent = None; received = None }

-- a datagram that was found, so long, at the front of the room, if one was
abbrev pub found_by : Option (SocketAddrV4 × ℕ) → List ℕ → List Received
found_by None room = []
found_by (Some found) room = record { source = found.0; bytes = take found.1 room } ∷ []

-- after a fault none was
abbrev pub received_at : Result (Option (SocketAddrV4 × ℕ)) Fault → List ℕ → List Received
received_at (Ok found) room = found_by found room
received_at (Err fault) room = []

-- What is told grew by this. Who tells may cease to, as one does that keeps copies where memory is refused; then it never tells again.
abbrev pub Grows : {A : Type 0} → Option (List A) → List A → Option (List A) → Type 0
Grows None more are = are ≡ None
Grows (Some were) more None = ⊤
Grows (Some were) more (Some are) = are ≡ were ++ more
