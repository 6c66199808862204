use Rattle.std.proofs.Common.{ℕ, refl, ◌∙◌, ap}
use Rattle.live_gateway.specs.declared.desk.Desk.{Desk}
use Rattle.live_gateway.specs.declared.exchange.Exchange.{Exchange}
use Rattle.live_laws.proofs.TurnExampleLemmas.{noted_on}
use Rattle.live_laws.proofs.turning_examples.what_stays_has_examples.Goals as goal

pub returns-clause-shown : goal.returns-clause-shown
returns-clause-shown c =
    λ was is only board. only ∙ ap (λ x. record was { journal = record was.journal { board = x } }) board

pub returns-clause-played : goal.returns-clause-played
returns-clause-played c = λ was is only play exchange.
    only ∙ ap (λ x. record was { play = x; exchange = is.exchange }) play ∙ ap (λ x. record was { exchange = x }) exchange

pub returns-clause-noted : goal.returns-clause-noted
returns-clause-noted c = λ was is only log.
    only ∙ ap (λ x. record was { exchange = record was.exchange { journal = record was.exchange.journal { log = x } } }) log

pub returns-clause-paused : goal.returns-clause-paused
returns-clause-paused c = λ was is notes on still. noted_on was.exchange.journal.log.value.record.state
    was.exchange.journal.log.value.record.out.items _ is.exchange.journal.log.value.record.state is.exchange.journal.log.value.record.out.items
    on still notes.1

pub returns-clause-heard : goal.returns-clause-heard
returns-clause-heard c = λ was is only around lines.
    only ∙ ap (λ x. record was { exchange = record was.exchange { around = x }; lines = is.lines }) around ∙ ap (λ x. record was { lines = x }) lines

pub returns-clause-said : goal.returns-clause-said
returns-clause-said c = λ was is only around lines.
    only ∙ ap (λ x. record was { exchange = record was.exchange { around = x }; lines = is.lines }) around ∙ ap (λ x. record was { lines = x }) lines

pub returns-clause-waited : goal.returns-clause-waited
returns-clause-waited c = λ was is only. (
  ap (λ (desk : Desk ℕ ℕ). desk.exchange.read) only.rest,
  ap (λ (desk : Desk ℕ ℕ). desk.end) only.rest,
)

pub returns-clause-visited : goal.returns-clause-visited
returns-clause-visited c = λ visitors left was is visit.
    ap (λ (exchange : Exchange ℕ). exchange.read) visit.page.shown ∙ ap (λ (desk : Desk ℕ ℕ). desk.exchange.read) visit.before

pub returns-clause-unasked : goal.returns-clause-unasked
returns-clause-unasked c = λ desk. (refl, refl, refl)

pub returns-clause-unrun : goal.returns-clause-unrun
returns-clause-unrun c = λ was is runs.
    ap (λ (at : Desk ℕ ℕ × ℕ × ℕ). at.0.end) runs.turns ∙ ap (λ (desk : Desk ℕ ℕ). desk.end) runs.starts.rest
