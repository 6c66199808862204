use Rattle.std.proofs.Common.{ℕ, ap}
use Rattle.live_gateway.specs.declared.desk.Desk.{Desk}
use Rattle.live_laws.proofs.turning_examples.what_comes_next_has_examples.Goals as goal

pub returns-clause-next : goal.returns-clause-next
returns-clause-next c = λ was is visitors left does. does.next

pub returns-clause-clock : goal.returns-clause-clock
returns-clause-clock c = λ was is visitors left does. does.clock

pub returns-clause-dated : goal.returns-clause-dated
returns-clause-dated c = λ was is visitors left does. does.dated

pub returns-clause-faults : goal.returns-clause-faults
returns-clause-faults c = λ was is visitors left does. does.faults

pub returns-clause-before : goal.returns-clause-before
returns-clause-before c = λ was is visitors left does. ap (λ (desk : Desk ℕ ℕ). desk.lines) does.before

pub returns-clause-behind : goal.returns-clause-behind
returns-clause-behind c = λ was is visitors left does. (
  ap (λ (desk : Desk ℕ ℕ). desk.play) does.behind,
  ap (λ (desk : Desk ℕ ℕ). desk.lines) does.behind,
  ap (λ (desk : Desk ℕ ℕ). desk.exchange.faults) does.behind,
)
