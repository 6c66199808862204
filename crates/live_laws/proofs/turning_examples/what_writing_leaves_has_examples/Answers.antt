use Rattle.std.proofs.Common.{ℕ, ap}
use Rattle.live_gateway.specs.declared.desk.Desk.{Desk}
use Rattle.live_gateway.specs.declared.exchange.Exchange.{Exchange}
use Rattle.live_laws.proofs.turning_examples.what_writing_leaves_has_examples.Goals as goal

pub returns-clause-wrote : goal.returns-clause-wrote
returns-clause-wrote c = λ was is only. (only.counted, only.shown, ap (λ (exchange : Exchange ℕ). exchange.faults) only.rest)

pub returns-clause-unwritten : goal.returns-clause-unwritten
returns-clause-unwritten c = λ was is runs. runs.turns.2.wrote

pub returns-clause-offering : goal.returns-clause-offering
returns-clause-offering c = λ was is runs. runs.turns.2.offering

pub returns-clause-last : goal.returns-clause-last
returns-clause-last c = λ was is wrote. wrote.1

pub returns-clause-ended : goal.returns-clause-ended
returns-clause-ended c = λ was is only. (only.counted, only.shown)

pub returns-clause-rested : goal.returns-clause-rested
returns-clause-rested c = λ was is only. (
  only.gateway,
  ap (λ (exchange : Exchange ℕ). exchange.faults) only.exchange,
  ap (λ (desk : Desk ℕ ℕ). desk.end) only.rest,
)
