-- What surroundings can be held to.
use Rattle.std.specs.Prelude.{⊤, ℕ, List, [], Option, Result}
use Rattle.std.specs.declared.net.socket_addr.SocketAddr.{SocketAddr}
use Rattle.std.specs.declared.net.socket_addr.SocketAddrV4.{SocketAddrV4}
use Rattle.live_io.specs.Sending.{untold, Traffic}
use Rattle.live_io.specs.declared.surroundings.Fault.{Fault}
use Rattle.live_io.specs.declared.surroundings.Told.{Told}

pub record Around (S : Type 0) : Type 1 where
  -- all datagrams that were handed to it to be sent, and all that were received of it, each in their order, where it tells
  pub traffic : S → Traffic
  -- the addresses of its sockets
  pub sockets : S → List SocketAddrV4
  -- it was asked how long it is since the start: that gave this
  pub passes : S → Result ℕ Fault → Type 0
  -- it was asked what time it is: that gave this
  pub dates : S → ℕ → Type 0
  -- it was asked of which sockets it was told that something may have come: that gave this
  pub tells : S → Told → Type 0
  -- it waited, for so long at most: that came to this
  pub sleeps : S → ℕ → Result ⊤ Fault → S → Type 0
  -- it was looked for a datagram: that gave this, and left the room so
  pub receives : S → Result (Option (SocketAddrV4 × ℕ)) Fault → List ℕ → S → Type 0
  -- this datagram was handed to it to be sent: that came to this
  pub sends : S → SocketAddrV4 → List ℕ → Result ⊤ Fault → S → Type 0
  -- it was looked for lines of who types: that gave this, and left the room so
  pub hears : S → Option (SocketAddr × ℕ) → List ℕ → S → Type 0
  -- this was answered to who typed
  pub answers : S → SocketAddr → List ℕ → S → Type 0

-- surroundings that tell nothing, and of which nothing is asked
abbrev pub unasked : {S : Type 0} → Around S
unasked = record {
  traffic = λ around. untold;
  sockets = λ around. [];
  passes = λ around given. ⊤;
  dates = λ around time. ⊤;
  tells = λ around given. ⊤;
  sleeps = λ was longest outcome is. ⊤;
  receives = λ was given room is. ⊤;
  sends = λ was to bytes outcome is. ⊤;
  hears = λ was given room is. ⊤;
  answers = λ was to text is. ⊤;
}
