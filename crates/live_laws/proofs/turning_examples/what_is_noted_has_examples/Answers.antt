use Rattle.std.proofs.Common.{ℕ, ◌∙◌, ap}
use Rattle.told_messages.specs.declared.log.Log.{Log}
use Rattle.live_gateway.specs.declared.exchange.Exchange.{Exchange}
use Rattle.live_laws.proofs.TurnExampleLemmas.{noted_on, both_on}
use Rattle.live_laws.proofs.turning_examples.what_is_noted_has_examples.Goals as goal

pub returns-clause-refused : goal.returns-clause-refused
returns-clause-refused c = λ was is notes. (
  ap (λ (exchange : Exchange ℕ). exchange.faults.refused) notes.rest,
  ap (λ (exchange : Exchange ℕ). exchange.journal.tally) notes.rest,
  ap (λ (exchange : Exchange ℕ). exchange.around) notes.rest,
)

pub returns-clause-unsaid : goal.returns-clause-unsaid
returns-clause-unsaid c = λ was is notes. notes.untaken

pub returns-clause-untaken : goal.returns-clause-untaken
returns-clause-untaken c = λ was is notes. ap (λ (log : Log). log.arrival) notes.untaken.1

pub returns-clause-taken : goal.returns-clause-taken
returns-clause-taken c = λ gateway was is notes log. notes.rest ∙ ap (λ x. record was { journal = record was.journal { log = x } }) log

pub returns-clause-why : goal.returns-clause-why
returns-clause-why c = λ gateway was is notes on still.
    both_on was.journal.log.value.record.state was.journal.log.value.record.out.items _ notes.explained.record.state notes.explained.record.out.items
    _ is.journal.log.value.record.state is.journal.log.value.record.out.items on still notes.why.0 notes.unheard.0

pub returns-clause-acted : goal.returns-clause-acted
returns-clause-acted c = λ gateway was is says. says

pub returns-clause-ticked : goal.returns-clause-ticked
returns-clause-ticked c = λ gateway was is says. says

pub returns-clause-unacted : goal.returns-clause-unacted
returns-clause-unacted c = λ was is says. says

pub returns-clause-left_out : goal.returns-clause-left_out
returns-clause-left_out c = λ was is says on still.
    noted_on was.record.state was.record.out.items _ is.record.state is.record.out.items on still says.0

pub returns-clause-answered : goal.returns-clause-answered
returns-clause-answered c = λ was is tells around board.
    tells ∙ ap (λ x. record was { around = x; journal = record was.journal { board = is.journal.board } }) around
    ∙ ap (λ x. record was { journal = record was.journal { board = x } }) board
