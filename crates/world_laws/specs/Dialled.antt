-- Nothing dialled is doubled or skipped (RFC 3435, 4.4.1).
use Rattle.std.specs.Prelude.{◌≡◌, List, [], ◌∷◌, ◌++◌, flat_map, Option, None, Some}
use Rattle.packages.specs.declared.observed.Observed.{Observed}
use Rattle.events_and_signals.specs.declared.request.Request.{Request}
use Rattle.mg_line.specs.Acting.{observed_at}
use Rattle.mg_line.specs.Line.{LineState}
use Rattle.world_laws.specs.Course.{CourseStep, acts, accepts, notifies}
use Rattle.world_laws.specs.Keeping.{happened_in, AsksForAll}

-- what the telephone did, as the events that it is
abbrev pub done_at : CourseStep → List Observed
done_at (acts act) = observed_at act ∷ []
done_at (accepts request) = []
done_at (notifies identifier observed) = []

abbrev pub done_in : List CourseStep → List Observed
done_in course = flat_map done_at course

-- what the notifications told, joined
abbrev pub told_at : CourseStep → List Observed
told_at (acts act) = []
told_at (accepts request) = []
told_at (notifies identifier observed) = observed

abbrev pub told_along : List CourseStep → List Observed
told_along course = flat_map told_at course

-- each request that is accepted asks for all that the telephone does
abbrev pub AskForAll : List CourseStep → Type 0
AskForAll [] = Unit {0}
AskForAll (acts act ∷ course) = AskForAll course
AskForAll (accepts request ∷ course) = AsksForAll request × AskForAll course
AskForAll (notifies identifier observed ∷ course) = AskForAll course

-- the latest request that was accepted, if one was; at first that of before the course
abbrev pub latest_from : Option Request → List CourseStep → Option Request
latest_from latest [] = latest
latest_from latest (acts act ∷ course) = latest_from latest course
latest_from latest (accepts request ∷ course) = latest_from (Some request) course
latest_from latest (notifies identifier observed ∷ course) = latest_from latest course

abbrev pub AsksIfAny : Option Request → Type 0
AsksIfAny None = ⊥
AsksIfAny (Some request) = AsksForAll request

-- The condition: the line was asked for all before its telephone did anything, and so it was each time since; and nothing
-- was lost.
pub record IsAskedForAll (before after : List CourseStep) (line : LineState) : Type 0 where
  pub undone : done_in before ≡ []
  pub asked : AsksIfAny (latest_from None before)
  pub since : AskForAll after
  pub none_lost : line.quarantined.lost ≡ 0

-- What the telephone did is what the notifications told, joined, and then what is quarantined: each event once and in its
-- place, but for the ends of signals.
abbrev pub IsToldOnce : List CourseStep → LineState → Type 0
IsToldOnce course line = done_in course ≡ happened_in (told_along course) ++ happened_in line.quarantined.events
