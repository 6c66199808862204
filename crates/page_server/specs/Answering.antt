-- What a request makes of the desk, and what it is answered.
use Rattle.std.specs.Prelude.{◌≡◌, ℕ, List}
use Rattle.http.specs.declared.request.Request.{Request}
use Rattle.http.specs.Request.{head_of, body_of}
use Rattle.http_server.specs.declared.response.Response.{Response}
use Rattle.page_server.specs.declared.desk.Desk.{Desk}
use Rattle.page_http.specs.Asking.{asked_of}
use Rattle.page_http.specs.Naming.{names_of}
use Rattle.page_server.specs.Serving.{Answered}

pub record Answers (old : Desk) (request : Request (List ℕ)) (response : Response) (new : Desk) : Type 0 where
  pub answered :
      Answered (asked_of old.site (names_of old.names.now) (head_of request)) old.board.now (body_of request) response new.board.now
  -- the page stays where it is, and under the same names, and it is the same board
  pub site : new.site ≡ old.site
  pub names : new.names ≡ old.names
  pub same : new.board.ghost_name ≡ old.board.ghost_name
