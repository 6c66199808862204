-- What it is to a board that a command in flight is over.
use Rattle.std.proofs.Common.{◌≡◌, ℕ, Option, None, subst}
use Rattle.std.specs.Prelude.{slice_get}
use Rattle.agent_gateways.specs.declared.flight.Flight.{Flight}
use Rattle.agent_gateways.specs.declared.switchboard.Switchboard.{Switchboard}
use Rattle.agent_gateways.specs.GivingUp.{ended_in, EndsAt, ForgetsFlight, GivesUp}

-- the next one was given up, if there was one
pub gave_up : (place : ℕ) (was ended is : Switchboard) (found : Option Flight) → found ≡ ended_in None (slice_get was.gateways.items place)
    → EndsAt place None was ended → ForgetsFlight found ended.office is.office → is ≡ record ended { office = is.office } → GivesUp place was is
gave_up place was ended is found found_is ends forgets rest =
    (ended, ends, subst (λ (flight : Option Flight). ForgetsFlight flight ended.office is.office) found_is forgets, rest)
