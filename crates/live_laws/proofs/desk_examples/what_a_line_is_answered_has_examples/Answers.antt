use Rattle.std.proofs.Common.{ℕ, List, Option, ap, subst}
use Rattle.std.specs.declared.net.socket_addr.SocketAddr.{SocketAddr}
use Rattle.live_io.specs.Hearing.{AnswersTo}
use Rattle.live_gateway.specs.declared.desk.Desk.{Desk}
use Rattle.live_laws.proofs.DeskExampleLemmas.{no_line_left, page_asks, put_so}
use Rattle.live_laws.proofs.desk_examples.what_a_line_is_answered_has_examples.Goals as goal

pub returns-clause-sender : goal.returns-clause-sender
returns-clause-sender c = λ answer was is line. line.sender

pub returns-clause-left : goal.returns-clause-left
returns-clause-left c = λ answer was is line. line.left

pub returns-clause-unanswered : goal.returns-clause-unanswered
returns-clause-unanswered c = λ answer was is none line.
    subst (λ (o : Option SocketAddr). AnswersTo (λ (before : ℕ) (to : SocketAddr) (text : List ℕ) (after : ℕ). ⊥) o 3 answer is.exchange.around)
    none line.answered

pub returns-clause-put : goal.returns-clause-put
returns-clause-put c = put_so

pub returns-clause-page_watches : goal.returns-clause-page_watches
returns-clause-page_watches c = λ gateway answer was is watches. watches

pub returns-clause-page_asks : goal.returns-clause-page_asks
returns-clause-page_asks c = page_asks

pub returns-clause-stop : goal.returns-clause-stop
returns-clause-stop c = λ was is stops. (ap (λ (d : Desk ℕ ℕ). d.end) stops, ap (λ (d : Desk ℕ ℕ). d.lines) stops)

pub returns-clause-refused : goal.returns-clause-refused
returns-clause-refused c = λ was is answers. answers.1

pub returns-clause-unknown : goal.returns-clause-unknown
returns-clause-unknown c = λ was is answers. answers.line.left

pub returns-clause-none_left : goal.returns-clause-none_left
returns-clause-none_left c = no_line_left
