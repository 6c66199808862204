-- What a notification tells, as whoever gets it reads it (RFC 3435, 2.3.4: ObservedEvents).
use Rattle.std.specs.Prelude.{ℕ, codes, List, [], Option, Some, None, Result, Ok, Err}
use Rattle.mgcp_text.specs.Message.{param_at}
use Rattle.mgcp_text.specs.declared.message.Param.{Param}
use Rattle.packages.specs.declared.observed.Observed.{Observed}
use Rattle.packages.specs.Observed.{observed_of}

abbrev pub observed_or_none : Result (List Observed) ℕ → List Observed
observed_or_none (Ok observed) = observed
observed_or_none (Err code) = []

-- what its O tells; nothing where it has none, or one that can't be read
abbrev pub observed_in : Option Param → List Observed
observed_in None = []
observed_in (Some param) = observed_or_none (observed_of param.value)

-- of several the first counts
abbrev pub observed_with : List Param → List Observed
observed_with params = observed_in (param_at (codes "O") params)
