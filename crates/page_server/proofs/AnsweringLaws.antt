-- What is for another host is told so.
use Rattle.std.proofs.Common.{◌≡◌, ℕ, refl, subst, false, IsTrue, List, []}
use Rattle.http.specs.declared.request.Request.{Request}
use Rattle.http.specs.Request.{head_of, body_of}
use Rattle.http_server.specs.declared.response.Response.{Response}
use Rattle.http_server.specs.Response.{IsResponse}
use Rattle.page_http.specs.declared.asked.Asked.{Asked}
use Rattle.page_http.specs.declared.asked.Asked.TheVariants.{Strange}
use Rattle.page_http.specs.Asking.{is_at_home, is_by_name}
use Rattle.page_http.specs.Naming.{names_of}
use Rattle.page_http.proofs.AskingLaws.{asked_strange}
use Rattle.page_state.specs.BoardShowing.{BoardState}
use Rattle.page_server.specs.declared.desk.Desk.{Desk}
use Rattle.page_server.specs.Answering.{Answers}
use Rattle.page_server.specs.Serving.{Answered}
use Rattle.page_server.specs.Statuses.{is_refused, refusal_status, refusal_fields}

refused_so : (asked : Asked) (old : BoardState) (body : List ℕ) (response : Response) (new : BoardState)
    → Answered asked old body response new → asked ≡ Strange → IsResponse 421 [] [] response
refused_so asked old body response new h e =
    subst (λ a. IsTrue (is_refused a) → IsResponse (refusal_status a) (refusal_fields a) [] response) e h.refused refl

-- what is for another host is told so, and nothing more
pub told_strange : (old : Desk) (request : Request (List ℕ)) (response : Response) (new : Desk) → Answers old request response new
    → is_at_home old.site (head_of request) ≡ false → is_by_name (names_of old.names.now) (head_of request) ≡ false → IsResponse 421 [] [] response
told_strange old request response new h e f =
    refused_so _ old.board.now (body_of request) response new.board.now h.answered
    (asked_strange old.site (names_of old.names.now) (head_of request) e f)
