-- The telephones of all gateways.
use Rattle.std.specs.Prelude.{ℕ, codes, List, Option, Some, None, slice_get}
use Rattle.agent_log.specs.declared.station.Station.{Station}

abbrev pub number_in : Option Station → List ℕ
number_in None = codes "?"
number_in (Some station) = station.number

-- the number of the station at this place
abbrev pub number_at : List Station → ℕ → List ℕ
number_at stations place = number_in (slice_get stations place)
