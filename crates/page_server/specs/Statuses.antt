-- With which status what is asked for is answered, and with which fields what gets nothing.
use Rattle.std.specs.Prelude.{ℕ, Bool, true, false, codes, if◌then◌else◌, List, [], ◌∷◌}
use Rattle.http1.specs.Fields.{Header}
use Rattle.page_http.specs.declared.asked.Asked.{Asked}
use Rattle.page_http.specs.declared.asked.Asked.TheVariants.{Strange, Reading, Acting, Forbidden, Unsuited, Missing}
use Rattle.page_http.specs.declared.route.Route.{Route}
use Rattle.page_http.specs.declared.route.Route.TheVariants.{Page, Style, Script, State, Metrics, Health, Ready, Events, Phone, Nothing}
use Rattle.page_http.specs.declared.answers.ActOutcome.{ActOutcome}
use Rattle.page_http.specs.declared.answers.ActOutcome.TheVariants.{Queued, NoRoom, Unreadable}
use Rattle.page_server.specs.Health.{well_status}

-- the status of what gets nothing (RFC 9110, 15.5)
abbrev pub refusal_status : Asked → ℕ
refusal_status Strange = 421
refusal_status Forbidden = 403
refusal_status (Unsuited acts) = 405
refusal_status Missing = 404
refusal_status (Reading route) = 404
refusal_status Acting = 404

-- what gets nothing
abbrev pub is_refused : Asked → Bool
is_refused Strange = true
is_refused Forbidden = true
is_refused (Unsuited acts) = true
is_refused Missing = true
is_refused (Reading route) = false
is_refused Acting = false

-- the method that suits a path, at which something is done, or read
abbrev pub method_for : Bool → List ℕ
method_for acts = if acts then codes "POST" else codes "GET"

-- what gets nothing for its method is told which would suit (RFC 9110, 15.5.6)
abbrev pub refusal_fields : Asked → List Header
refusal_fields (Unsuited acts) = (codes "allow", method_for acts) ∷ []
refusal_fields Strange = []
refusal_fields Forbidden = []
refusal_fields Missing = []
refusal_fields (Reading route) = []
refusal_fields Acting = []

-- the status of what stands there, and of what doesn't (RFC 9110, 15.3.1 and 15.5.5), where the loop turns and the gateway serves, or
-- doesn't
abbrev pub reading_status : Bool → Bool → Route → ℕ
reading_status is_alive is_serving Phone = 404
reading_status is_alive is_serving Nothing = 404
reading_status is_alive is_serving Page = 200
reading_status is_alive is_serving Style = 200
reading_status is_alive is_serving Script = 200
reading_status is_alive is_serving State = 200
reading_status is_alive is_serving Metrics = 200
reading_status is_alive is_serving Health = well_status is_alive
reading_status is_alive is_serving Ready = well_status is_serving
reading_status is_alive is_serving (Events after) = 200

-- the status of an act that a page of this site asked for (RFC 9110, 15.3.3, 15.6.4 and 15.5.1)
abbrev pub outcome_status : ActOutcome → ℕ
outcome_status Queued = 202
outcome_status NoRoom = 503
outcome_status Unreadable = 400
