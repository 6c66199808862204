-- What goes over a wire.
use Rattle.std.specs.Prelude.{◌≡◌, ℕ, ◌≤◌, ⊤, List, [], ◌∷◌, ◌++◌, length, take, Option, Some, None, Result, Ok, Err}
use Rattle.std.specs.declared.net.socket_addr.SocketAddrV4.{SocketAddrV4}
use Rattle.plain_machine.specs.Event.{GatewayEvent, datagram, phone, tick}
pub use Rattle.small_rules.specs.Counting.{counted}
use Rattle.gateway_core.specs.declared.wire.Input.{Input}
use Rattle.gateway_core.specs.declared.wire.Input.TheVariants.{Datagram, Phone, Tick, End}

-- what a wire gave: an event, or the end
pub data Given : Type 0 where
  event : GatewayEvent → Given
  end : Given

-- a datagram that was handed to it
pub record Handed : Type 0 where
  pub to : SocketAddrV4
  pub bytes : List ℕ

-- what a wire tells of all that it gave and was handed, in order, and how often it failed to give and to take
pub record WireLog : Type 0 where
  pub given : Option (List Given)
  pub handed : Option (List Handed)
  pub receive_faults : ℕ
  pub send_faults : ℕ

-- what went over a wire: what it gave and was handed, and how often it failed to give and to take
pub record Traffic : Type 0 where
  pub given : List Given
  pub handed : List Handed
  pub receive_faults : ℕ
  pub send_faults : ℕ

-- What is told grew by this. A wire may cease to tell, as one does that keeps copies where memory is refused; then it never
-- tells again.
abbrev pub Grows : {A : Type 0} → Option (List A) → List A → Option (List A) → Type 0
Grows None more are = are ≡ None
Grows (Some were) more None = ⊤
Grows (Some were) more (Some are) = are ≡ were ++ more

-- this went over it
pub record Carries (was : WireLog) (traffic : Traffic) (is : WireLog) : Type 0 where
  pub given : Grows was.given traffic.given is.given
  pub handed : Grows was.handed traffic.handed is.handed
  pub receive_faults : is.receive_faults ≡ counted was.receive_faults traffic.receive_faults
  pub send_faults : is.send_faults ≡ counted was.send_faults traffic.send_faults

-- the input with its bytes at the front of the room
abbrev pub given_in : Input → List ℕ → Given
given_in (Datagram source len) room = event (datagram source (take len room))
given_in (Phone line act) room = event (phone line act)
given_in (Tick moment) room = event (tick moment)
given_in End room = end

-- a datagram's bytes lie within the room
abbrev pub IsWithin : Input → List ℕ → Type 0
IsWithin (Datagram source len) room = len ≤ length room
IsWithin (Phone line act) room = ⊤
IsWithin (Tick moment) room = ⊤
IsWithin End room = ⊤

abbrev pub gives : List Given → ℕ → Traffic
gives given faults = record { given = given; handed = []; receive_faults = faults; send_faults = 0 }

-- `next` gives an input, or fails once
abbrev pub traffic_of_next : {F : Type 0} → Result Input F → List ℕ → Traffic
traffic_of_next (Ok input) room = gives (given_in input room ∷ []) 0
traffic_of_next (Err fault) room = gives [] 1

abbrev pub takes : SocketAddrV4 → List ℕ → ℕ → Traffic
takes to bytes faults = record {
  given = [];
  handed = record { to = to; bytes = bytes } ∷ [];
  receive_faults = 0;
  send_faults = faults;
}

-- `send` is handed a datagram, whether or not it fails
abbrev pub traffic_of_send : {A F : Type 0} → Result A F → SocketAddrV4 → List ℕ → Traffic
traffic_of_send (Ok x) to bytes = takes to bytes 0
traffic_of_send (Err fault) to bytes = takes to bytes 1
