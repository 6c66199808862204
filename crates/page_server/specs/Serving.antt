-- What is asked for is answered by what a board has, and done to it.
use Rattle.std.specs.Prelude.{◌≡◌, ◌≢◌, ℕ, List, [], IsTrue, Option, Some, None}
use Rattle.http_server.specs.declared.response.Response.{Response}
use Rattle.http_server.specs.Response.{IsResponse, fields_of}
use Rattle.page_server.specs.declared.page.TheConstants.{PAGE}
use Rattle.page_server.specs.declared.script.TheConstants.{SCRIPT}
use Rattle.page_server.specs.declared.style.TheConstants.{STYLE}
use Rattle.page_http.specs.declared.answers.ActOutcome.{ActOutcome}
use Rattle.page_http.specs.Outcomes.{Becomes}
use Rattle.page_state.specs.BoardShowing.{BoardState}
use Rattle.page_state.specs.Metrics.{metrics_of}
use Rattle.page_http.specs.Texts.{TellsState}
use Rattle.page_http.specs.Telling.{events_text}
use Rattle.page_state.specs.Health.{is_alive}
use Rattle.page_server.specs.Health.{alive_text, ready_text}
use Rattle.page_http.specs.declared.route.Route.{Route}
use Rattle.page_http.specs.declared.route.Route.TheVariants.{Page, Style, Script, State, Metrics, Health, Ready, Events, Phone, Nothing}
use Rattle.page_http.specs.declared.asked.Asked.{Asked}
use Rattle.page_http.specs.declared.asked.Asked.TheVariants.{Reading, Acting}
use Rattle.page_server.specs.Fields.{fields_at}
use Rattle.page_server.specs.Statuses.{is_refused, reading_status, refusal_status, refusal_fields, outcome_status}

-- the file that stands at a route
abbrev pub file_at : Route → Option (List ℕ)
file_at Page = Some PAGE.now
file_at Style = Some STYLE.now
file_at Script = Some SCRIPT.now
file_at State = None
file_at Metrics = None
file_at Health = None
file_at Ready = None
file_at (Events after) = None
file_at Phone = None
file_at Nothing = None

-- what stands at a route is a file, or is told as the board has it
pub record Reads (board : BoardState) (route : Route) (response : Response) : Type 0 where
  pub status : response.status ≡ reading_status (is_alive board.picture.behind) board.picture.is_serving route
  pub fields : fields_of response ≡ fields_at route
  pub file : (text : List ℕ) → file_at route ≡ Some text → response.body.items ≡ text
  pub state : route ≡ State → TellsState board.picture board.version response.body.items
  pub events : (after : ℕ) → route ≡ Events after
      → response.body.items ≡ events_text board.ring after board.version board.picture.clock
  pub metrics : route ≡ Metrics → response.body.items ≡ metrics_of board.picture
  pub health : route ≡ Health → response.body.items ≡ alive_text (is_alive board.picture.behind)
  pub ready : route ≡ Ready → response.body.items ≡ ready_text board.picture.is_serving

-- an act becomes what its body asks for, and the status alone says what became of it
pub record Acts (old : BoardState) (body : List ℕ) (response : Response) (new : BoardState) (outcome : ActOutcome) : Type 0 where
  pub becomes : Becomes old body outcome new
  pub status : IsResponse (outcome_status outcome) [] [] response

-- what is asked for is answered by what the board has, and done to it
pub record Answered (asked : Asked) (old : BoardState) (body : List ℕ) (response : Response) (new : BoardState) : Type 0 where
  -- what isn't an act of a page of this site changes nothing
  pub quiet : asked ≢ Acting → new ≡ old
  pub acting : asked ≡ Acting → (outcome : ActOutcome) × Acts old body response new outcome
  pub reading : (route : Route) → asked ≡ Reading route → Reads old route response
  -- what gets nothing is told why, and nothing more: one for another host that it is
  pub refused : IsTrue (is_refused asked) → IsResponse (refusal_status asked) (refusal_fields asked) [] response
