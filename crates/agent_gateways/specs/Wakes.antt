-- The lines of a gateway to which commands are sent again, in the order of their moments.
use Rattle.std.specs.Prelude.{ℕ, nat_le, if◌then◌else◌, List, remove, Option, Some, None, slice_get}
use Rattle.agent_gateways.specs.declared.gateway.Wake.{Wake}

abbrev pub moment_of : Option Wake → Option ℕ
moment_of None = None
moment_of (Some wake) = Some wake.moment

abbrev pub first_moment : List Wake → Option ℕ
first_moment wakes = moment_of (slice_get wakes 0)

abbrev pub woken_by : ℕ → Option Wake → Option Wake
woken_by now None = None
woken_by now (Some wake) = if nat_le wake.moment now then Some wake else None

-- the first one, if its moment has come
abbrev pub first_woken : ℕ → List Wake → Option Wake
first_woken now wakes = woken_by now (slice_get wakes 0)

abbrev pub behind_by : ℕ → List Wake → Option Wake → List Wake
behind_by now wakes None = wakes
behind_by now wakes (Some wake) = if nat_le wake.moment now then remove wakes 0 else wakes

abbrev pub behind_woken : ℕ → List Wake → List Wake
behind_woken now wakes = behind_by now wakes (slice_get wakes 0)
