-- What is on its way between the two ends of a world (RFC 3435, 2.3.4, 3.5 and 4.3).
use Rattle.std.specs.Prelude.{List, [], ℕ, ◌==◌, if◌then◌else◌, Bool, Option, Some, None}
use Rattle.mgcp_text.specs.declared.message.Message.TheVariants as messages
use Rattle.mgcp_text.specs.Reading.{Outcome, message, no_header, bad_version, bad_body, read_text}
use Rattle.packages.specs.declared.observed.Observed.{Observed}
use Rattle.world_laws.specs.Course.{notified_with}
use Rattle.world_laws.specs.Dialled.{told_along}
use Rattle.std.specs.List.{list_any}
use Rattle.retransmission.specs.Flight.{InFlight}
use Rattle.world_laws.specs.Reached.{Reached}

-- its O, as whoever gets it reads it; what is no notification tells nothing
abbrev pub told_as : Outcome → List Observed
told_as no_header = []
told_as (bad_version id) = []
told_as (bad_body id) = []
told_as (message (messages.Command verb id name params body)) = told_along (notified_with verb params)
told_as (message (messages.Response code id params body)) = []

-- one of these commands has this id
abbrev pub has_taken : ℕ → List Reached → Bool
has_taken id taken = list_any (λ one. one.asked.id == id) taken

-- what the command in flight tells, where it isn't among the commands that were taken
abbrev pub untaken : List Reached → Option InFlight → List Observed
untaken taken None = []
untaken taken (Some flight) = if has_taken flight.id taken then [] else told_as (read_text flight.text)
