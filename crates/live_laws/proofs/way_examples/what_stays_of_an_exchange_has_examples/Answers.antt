use Rattle.std.proofs.Common.{ℕ, Bool, ◌∙◌, ap}
use Rattle.live_journal.specs.declared.journal.Journal.{Journal}
use Rattle.live_play.specs.declared.play.LivePlay.{LivePlay}
use Rattle.live_io.specs.declared.lines.Lines.{Lines}
use Rattle.live_gateway.specs.declared.desk.Desk.{Desk}
use Rattle.live_gateway.specs.declared.exchange.Exchange.{Exchange}
use Rattle.live_laws.proofs.way_examples.what_stays_of_an_exchange_has_examples.Goals as goal

pub returns-clause-written : goal.returns-clause-written
returns-clause-written c = λ was is only journal offering.
    only.rest
    ∙ ap (λ (j : Journal). let x : Exchange ℕ = record was { journal = j; is_offering = is.is_offering } in x) journal
    ∙ ap (λ (b : Bool). let x : Exchange ℕ = record was { is_offering = b } in x) offering

pub returns-clause-counted : goal.returns-clause-counted
returns-clause-counted c = λ was is only. (only.counted, only.shown)

pub returns-clause-ended : goal.returns-clause-ended
returns-clause-ended c = λ was is only play exchange lines.
    only.rest
    ∙ ap (λ (p : LivePlay ℕ). let x : Desk ℕ ℕ = record was { play = p; exchange = is.exchange; lines = is.lines } in x) play
    ∙ ap (λ (e : Exchange ℕ). let x : Desk ℕ ℕ = record was { exchange = e; lines = is.lines } in x) exchange
    ∙ ap (λ (l : Lines). let x : Desk ℕ ℕ = record was { lines = l } in x) lines

pub returns-clause-kept : goal.returns-clause-kept
returns-clause-kept c = λ was is only. (only.gateway, only.counted, only.shown)

pub returns-clause-exchange : goal.returns-clause-exchange
returns-clause-exchange c = λ was is only around journal offering.
    only.exchange
    ∙ ap (λ (n : ℕ). let x : Exchange ℕ = record was.exchange { around = n; journal = is.exchange.journal; is_offering = is.exchange.is_offering } in x) around
    ∙ ap (λ (j : Journal). let x : Exchange ℕ = record was.exchange { journal = j; is_offering = is.exchange.is_offering } in x) journal
    ∙ ap (λ (b : Bool). let x : Exchange ℕ = record was.exchange { is_offering = b } in x) offering
