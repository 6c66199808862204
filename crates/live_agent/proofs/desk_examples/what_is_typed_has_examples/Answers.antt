use Rattle.std.proofs.Common.{ℕ, ap, inl}
use Rattle.live_agent.specs.declared.wire.Wire.{Wire}
use Rattle.live_agent.proofs.desk_examples.what_is_typed_has_examples.Goals as goal

pub returns-clause-told : goal.returns-clause-told
returns-clause-told c = λ journal text is. inl is

pub returns-clause-ends : goal.returns-clause-ends
returns-clause-ends c = λ board now was is does. ap (λ (wire : Wire ℕ). wire.end) does.1.2

pub returns-clause-goes_on : goal.returns-clause-goes_on
returns-clause-goes_on c = λ board now was is does. ap (λ (wire : Wire ℕ). wire.end) does.1.2
