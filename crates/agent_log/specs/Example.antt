-- What the worked examples speak of.
use Rattle.std.specs.Prelude.{ℕ, Bool, true, false, codes, List, [], ◌∷◌, Option}
use Rattle.call_processing.specs.declared.phase.Side.TheVariants as sides
use Rattle.call_processing.specs.declared.phase.Part.{Part}
use Rattle.call_processing.specs.declared.phase.Phase.{Phase}
use Rattle.call_processing.specs.declared.phase.Phase.TheVariants.{InCall}
use Rattle.call_processing.specs.declared.line.Leg.{Leg}
use Rattle.call_processing.specs.declared.line.Leg.TheVariants as legs
use Rattle.call_processing.specs.declared.line.Line.{Line}
use Rattle.call_processing.specs.Line.{new_line}
use Rattle.call_processing.specs.Exchange.{ExchangeState, opening}
use Rattle.agent_log.specs.declared.standing.Progress.{Progress}
use Rattle.agent_log.specs.declared.standing.Standing.{Standing}
use Rattle.agent_log.specs.declared.standing.Standing.TheVariants.{Caller}
use Rattle.agent_log.specs.declared.tally.Tally.{Tally}
use Rattle.agent_log.specs.declared.station.Station.{Station}

-- in call 3 the first line calls the second one
abbrev pub rings_other : Part
rings_other = record { call = 3; other = 1; side = sides.Caller; answered = false }

abbrev pub caller : Part
caller = record { call = 3; other = 1; side = sides.Caller; answered = true }

abbrev pub called : Part
called = record { call = 3; other = 0; side = sides.Called; answered = true }

abbrev pub calls : Progress → Standing
calls progress = Caller 3 1 progress

-- a connection for this call
abbrev pub leg_in : ℕ → Leg
leg_in call = legs.Standing call (codes "A") (codes "v=0")

-- a line whose connection for that call was given the description of the other's, or wasn't
abbrev pub joined_line : Bool → Line
joined_line joined = record new_line { leg = leg_in 3; joined = joined }

-- an exchange whose first line is in this phase
abbrev pub exchange_with : Phase → ExchangeState
exchange_with phase =
    let opened = opening 2 0 in record opened { calls = record opened.calls { phases = phase ∷ [] } }

-- one whose first line calls the second, which has answered
abbrev pub answered_with : Bool → Bool → ExchangeState
answered_with one other =
    let opened = opening 2 0 in record {
      calls = record opened.calls { phases = InCall caller ∷ InCall called ∷ [] };
      lines = joined_line one ∷ joined_line other ∷ [];
    }

-- one whose first line refused what it is asked for, and the deletion of a connection, by these codes
abbrev pub refused_with : Option ℕ → Option ℕ → ExchangeState
refused_with request deletion =
    let opened = opening 2 0 in record opened { lines = record new_line { refused = request; left = deletion } ∷ [] }

-- of each kind another count
abbrev pub each_counted : Tally
each_counted = record {
  calls = 1;
  set_up = 2;
  abandoned = 3;
  failed = 4;
  busy = 5;
  wrong_number = 6;
  datagrams_in = 7;
  strange = 8;
  datagrams_out = 9;
  again = 10;
  commands = 11;
  answered = 12;
  given_up = 13;
  notifications = 14;
  announcements = 15;
  strange_names = 16;
  lost = 17;
  copied = 18;
  late = 19;
  refused = 20;
  receive_faults = 21;
  send_faults = 22;
}

-- the station of a gateway's second line, which is dialled by this number
abbrev pub station : List ℕ → Station
station number = record { gateway = 0; line = 2; name = codes "aaln/2@gw1"; number = number; taken = 0 }

-- two lines, and their numbers
abbrev pub two_stations : List Station
two_stations = station (codes "201") ∷ station (codes "202") ∷ []
