-- What is said of connections in the laws (RFC 3435, 2.1.3).
use Rattle.std.specs.Prelude.{◌≡◌, ℕ, ◌≤◌, get_or, Option, Some, None, option_map, option_and_then}
use Rattle.connections.specs.declared.connection.Connection.{Connection}
use Rattle.connections.specs.Standing.{Standing, described}
use Rattle.plain_machine.specs.Machine.{Machine, Endpoints, endpoint_at}

-- the connection at a place of a line, if there is such a line and one stands there
abbrev pub connection_at : Machine → ℕ → ℕ → Option Connection
connection_at m line place =
    option_and_then (λ endpoint. get_or endpoint.connections.places place None) (endpoint_at m.endpoints line)

-- the port at which it receives
abbrev pub port_at : Machine → ℕ → ℕ → Option ℕ
port_at m line place = option_and_then (λ endpoint.
    option_map (λ connection. (described endpoint.connections place connection).port)
    (get_or endpoint.connections.places place None)) (endpoint_at m.endpoints line)

-- what stands on a line of connections, if there is such a line
abbrev pub standing_at : Endpoints → ℕ → Option Standing
standing_at endpoints line = option_map (λ endpoint. endpoint.connections) (endpoint_at endpoints line)

-- each line is still there, and the number of its last connection is no less than it was
abbrev pub NumbersGoOn : Endpoints → Endpoints → Type 0
NumbersGoOn were are = (line : ℕ) (was : Standing) → standing_at were line ≡ Some was →
    (is : Standing) × (standing_at are line ≡ Some is) × (was.last ≤ is.last)

-- a connection with this number stands on a line
pub record IsOnLine (m : Machine) (line number : ℕ) : Type 0 where
  pub place : ℕ
  pub connection : Connection
  pub here : connection_at m line place ≡ Some connection
  pub has : connection.number ≡ number
