use Rattle.std.proofs.Common.{ℕ, ap}
use Rattle.live_agent.specs.declared.wire.Wire.{Wire}
use Rattle.live_agent.proofs.desk_examples.what_comes_next_has_examples.Goals as goal

pub returns-clause-next : goal.returns-clause-next
returns-clause-next c = λ board now was is schedule after does. does.behind

pub returns-clause-goes_on : goal.returns-clause-goes_on
returns-clause-goes_on c = λ board now was is schedule after does. does.goes_on

pub returns-clause-dated : goal.returns-clause-dated
returns-clause-dated c = λ board now was is schedule after does. does.dated

pub returns-clause-begins : goal.returns-clause-begins
returns-clause-begins c = λ board now was is schedule after does.
    (ap (λ (wire : Wire ℕ). wire.journal) does.begins, ap (λ (wire : Wire ℕ). wire.lines) does.begins)

pub returns-clause-behind_time : goal.returns-clause-behind_time
returns-clause-behind_time c = λ board now was is schedule after does. ap (λ (wire : Wire ℕ). wire.is_behind) does.begins
