-- What a line refused for good, as it is told: what it is asked for, and the deletion of a connection.
use Rattle.std.specs.Prelude.{ℕ, Bool, false, ◌==◌, codes, decimal, if◌then◌else◌, List, [], ◌∷◌, ◌++◌, Option, Some, None}
use Rattle.call_processing.specs.declared.line.Line.{Line}
use Rattle.call_processing.specs.Exchange.{ExchangeState, line_of}
use Rattle.agent_log.specs.declared.refusals.Refusals.{Refusals}
use Rattle.agent_log.specs.declared.station.Station.{Station}
use Rattle.agent_log.specs.Stations.{number_at}
use Rattle.agent_log.specs.Telling.{told_in_line}

abbrev pub no_refusals : Refusals
no_refusals = record { request = None; deletion = None }

abbrev pub refusals_in : Option Line → Refusals
refusals_in None = no_refusals
refusals_in (Some line) = record { request = line.refused; deletion = line.left }

-- by which codes a line refused for good; a line that there isn't refused nothing
abbrev pub refusals_of : ExchangeState → ℕ → Refusals
refusals_of exchange line = refusals_in (line_of exchange line)

abbrev pub is_code : Option ℕ → ℕ → Bool
is_code None code = false
is_code (Some was) code = was == code

-- a line refuses something by this code
unfoldable pub refusal_line : List ℕ → List ℕ → ℕ → List ℕ
refusal_line number words code = told_in_line (codes "line " ∷ number ∷ words ∷ decimal code ∷ [])

-- it is told where it's new
abbrev pub code_told : List ℕ → List ℕ → Option ℕ → Option ℕ → List ℕ
code_told number words was None = []
code_told number words was (Some code) = if is_code was code then [] else refusal_line number words code

abbrev pub request_words : List ℕ
request_words = codes ": takes no request: "

abbrev pub deletion_words : List ℕ
deletion_words = codes ": keeps a connection: "

-- what is told of a line that refused otherwise before
abbrev pub refusals_told : List Station → ℕ → Refusals → Refusals → List ℕ
refusals_told stations line was is =
    code_told (number_at stations line) request_words was.request is.request
    ++ code_told (number_at stations line) deletion_words was.deletion is.deletion
