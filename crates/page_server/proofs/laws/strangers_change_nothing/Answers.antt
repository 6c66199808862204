use Rattle.std.proofs.Common.{sym, ◌∙◌, true≢false}
use Rattle.http.specs.Request.{head_of}
use Rattle.page_http.specs.Naming.{names_of}
use Rattle.page_http.proofs.AskingLaws.{acts_by_post}
use Rattle.page_server.proofs.laws.strangers_change_nothing.Goals as goal

pub returns : goal.returns
returns c = λ old new request response h is.
    h.answered.quiet (λ e. true≢false (sym (acts_by_post old.site (names_of old.names.now) (head_of request) e).1 ∙ is))
