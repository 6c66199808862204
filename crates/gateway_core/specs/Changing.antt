-- At which lines an event may have changed something.
use Rattle.std.specs.Prelude.{◌≡◌, ◌≢◌, ◌-◌, ◌&&◌, ⊤, ℕ, Bool, true, false, List, slice_index_or}
use Rattle.plain_machine.specs.Event.{GatewayEvent, datagram, phone, tick}
use Rattle.plain_machine.specs.Machine.{Endpoints, endpoint_at}
use Rattle.gateway_core.specs.declared.state.State.{State}
use Rattle.gateway_core.specs.State.{found_in}

-- the mark of a line is set, or there is none
abbrev pub is_marked : List Bool → ℕ → Bool
is_marked marks line = slice_index_or marks (line - 1) true

-- Where an event was taken, the endpoint of each line that isn't marked is as before; else that of each line is.
abbrev pub Changes : Bool → List Bool → Endpoints → Endpoints → Type 0
Changes taken marks was is = (line : ℕ) → (taken && is_marked marks line) ≡ false → endpoint_at is line ≡ endpoint_at was line

-- it isn't the line at whose telephone something was done
abbrev pub IsAway : GatewayEvent → ℕ → Type 0
IsAway (phone at act) line = line - 1 ≢ at - 1
IsAway (datagram source bytes) line = ⊤
IsAway (tick moment) line = ⊤

-- what the event found can still be had; of what is done at a telephone that isn't said, since a line that doesn't heed it is changed in place
abbrev pub StaysFound : GatewayEvent → State → State → Type 0
StaysFound (phone line act) was is = ⊤
StaysFound (datagram source bytes) was is = found_in is ≡ found_in was
StaysFound (tick moment) was is = found_in is ≡ found_in was
