use Rattle.std.proofs.Common.{ℕ, ap}
use Rattle.live_agent.specs.declared.wire.Wire.{Wire}
use Rattle.live_agent.proofs.next_examples.what_a_tick_leaves_has_examples.Goals as goal

pub returns-clause-clock : goal.returns-clause-clock
returns-clause-clock c = λ was is ticked. ap (λ (wire : Wire ℕ). wire.now.clock) ticked

pub returns-clause-behind : goal.returns-clause-behind
returns-clause-behind c = λ was is ticked. ap (λ (wire : Wire ℕ). wire.is_behind) ticked

pub returns-clause-not_behind : goal.returns-clause-not_behind
returns-clause-not_behind c = λ was is ticked. ap (λ (wire : Wire ℕ). wire.is_behind) ticked

pub returns-clause-stays : goal.returns-clause-stays
returns-clause-stays c = λ was is ticked. (
  ap (λ (wire : Wire ℕ). wire.lines) ticked,
  ap (λ (wire : Wire ℕ). wire.read) ticked,
  ap (λ (wire : Wire ℕ). wire.now.time) ticked,
  ap (λ (wire : Wire ℕ). wire.end) ticked,
  ap (λ (wire : Wire ℕ). wire.is_offering) ticked,
)
