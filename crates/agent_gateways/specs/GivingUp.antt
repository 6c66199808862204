-- That a command in flight is over: which one, and what it is to a board that it was given up.
use Rattle.std.specs.Prelude.{◌≡◌, ℕ, Option, Some, None, slice_get}
use Rattle.std.specs.Global.{Box}
use Rattle.agent_gateways.specs.declared.flight.Flight.{Flight}
use Rattle.agent_gateways.specs.declared.gateway.Gateway.{Gateway}
use Rattle.line_control.specs.declared.office.Office.{Office}
use Rattle.agent_gateways.specs.declared.switchboard.Switchboard.{Switchboard}
use Rattle.agent_gateways.specs.Ended.{first_ended, still_flying}
use Rattle.line_control.specs.Steps.{Forgets}
use Rattle.line_control.specs.Waiting.{Touches}
use Rattle.agent_gateways.specs.Steps.{AtPlace, InOffice, OfOffice, OthersStay}

-- the first one from a gateway, in the order in which they were issued, that this response answers; without one, that is given up by now
abbrev pub ended_in : Option (ℕ × ℕ) → Option Gateway → Option Flight
ended_in response None = None
ended_in response (Some gateway) = first_ended response gateway.ticked gateway.flights.items

-- that one isn't in flight any more; nothing else of the gateway has changed
abbrev pub Ends : Option (ℕ × ℕ) → Gateway → Gateway → Type 0
Ends response was is =
    (is.flights.items ≡ still_flying response was.ticked was.flights.items) × (is ≡ record was { flights = is.flights })

-- nor has anything else of the board
abbrev pub EndsAt : ℕ → Option (ℕ × ℕ) → Switchboard → Switchboard → Type 0
EndsAt place response was is =
    AtPlace place (Ends response) was.gateways.items is.gateways.items × OthersStay place was.gateways.items is.gateways.items
    × (is ≡ record was { gateways = is.gateways })

-- It was given up. Where the exchange sent it to a line, the exchange is told, and the line waits to be settled; where it was typed nobody
-- is.
abbrev pub ForgetsFor : Option ℕ → Option (Box Office) → Option (Box Office) → Type 0
ForgetsFor None was is = is ≡ was
ForgetsFor (Some line) was is = OfOffice (Forgets line) was is × InOffice (Touches line) was is

abbrev pub ForgetsFlight : Option Flight → Option (Box Office) → Option (Box Office) → Type 0
ForgetsFlight None was is = is ≡ was
ForgetsFlight (Some flight) was is = ForgetsFor flight.line was is

-- the next one from a gateway that is given up by now is so
abbrev pub GivesUp : ℕ → Switchboard → Switchboard → Type 0
GivesUp place was is =
    (ended : Switchboard) × EndsAt place None was ended
    × ForgetsFlight (ended_in None (slice_get was.gateways.items place)) ended.office is.office
    × (is ≡ record ended { office = is.office })
