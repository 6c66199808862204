-- What an event does to what a handle holds.
use Rattle.std.specs.Prelude.{◌≡◌, ◌≤◌, ℕ, List, [], ◌∷◌, Option, Some, None, IsSomeAnd}
use Rattle.std.specs.Int.{w32, to_be_bytes}
use Rattle.std.specs.declared.net.socket_addr.SocketAddrV4.{SocketAddrV4}
use Rattle.plain_machine.specs.Event.{GatewayEvent}
use Rattle.plain_machine.specs.Lists.{plain}
use Rattle.plain_machine.specs.Refusing.{Ends}
use Rattle.gateway_core.specs.Alike.{Alike}
use Rattle.gateway_core.specs.Stands.{Stands, Took}
use Rattle.rgw_c.specs.declared.instance.Instance.{Instance}
use Rattle.rgw_c.specs.declared.numbers.TheConstants.{OK, NOT_OPEN}
use Rattle.rgw_c.specs.Numbers.{refusal_in}

-- the address whose four octets this number has, the first one highest
abbrev pub source_at : ℕ → ℕ → SocketAddrV4
source_at host port = record { ip = record { octets = to_be_bytes w32 host }; port = port }

-- it was and is open; its gateway took the event, and the outputs are those of it
abbrev pub TookIn : Option Instance → GatewayEvent → Option Instance → Type 0
TookIn (Some was) event (Some is) = Took was.gateway (event ∷ []) is.gateway [] is.outputs
TookIn (Some was) event None = ⊥
TookIn None event is = ⊥

-- it took no event: what was closed is closed, and an open one stands for what it stood for, with the outputs of the event before
abbrev pub Stayed : Option Instance → Option Instance → Type 0
Stayed (Some was) (Some is) = Took was.gateway [] is.gateway [] [] × (is.outputs ≡ was.outputs)
Stayed (Some was) None = ⊥
Stayed None is = is ≡ None

-- this number is the answer: that it is closed, or else as the plain machine says
abbrev pub EndsIn : Option Instance → GatewayEvent → ℕ → Type 0
EndsIn (Some was) event number = (number ≤ 5) × ((before : List GatewayEvent) → Stands was.gateway before →
    Ends (plain was.gateway.setup before) event (refusal_in number))
EndsIn None event number = number ≡ NOT_OPEN

-- nothing becomes of what came, and it is never refused: the gateway is as the plain machine was before, and sends nothing
abbrev pub PassesOver : Option Instance → ℕ → Option Instance → Type 0
PassesOver (Some was) number now = (before : List GatewayEvent) → Stands was.gateway before →
    (number ≡ OK) × IsSomeAnd now (λ is. (is.outputs ≡ []) × Alike is.gateway.machine (plain was.gateway.setup before))
PassesOver None number now = number ≡ NOT_OPEN
