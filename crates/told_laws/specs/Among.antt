-- What a line tells of what was done at its telephone, whatever is asked of it (RFC 3435, 4.4.1).
use Rattle.std.specs.Prelude.{ℕ, List, ◌++◌}
use Rattle.packages.specs.declared.observed.Observed.{Observed}
use Rattle.events_and_signals.specs.Given.{InOrderBut}
use Rattle.mg_line.specs.Line.{LineState}
use Rattle.world_laws.specs.Course.{CourseStep}
use Rattle.world_laws.specs.Dialled.{done_in, told_along}
use Rattle.world_laws.specs.Rounds.{of_telephone}

-- these events are some of those: in their order, and none of them twice
abbrev pub AreAmong : List Observed → List Observed → Type 0
AreAmong some all = (n : ℕ) × InOrderBut n some all

-- the events that a line keeps to tell them: those that are accumulated, and those that are quarantined
abbrev pub kept_by : LineState → List Observed
kept_by line = line.accumulated ++ line.quarantined.events

-- what was told, each notification at its first send, and then what is kept, was done, in that order
abbrev pub IsToldInOrder : List CourseStep → LineState → Type 0
IsToldInOrder course line = AreAmong (of_telephone (told_along course) ++ of_telephone (kept_by line)) (done_in course)
