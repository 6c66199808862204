-- Visitors of a page in memory: when the next one comes.
use Rattle.std.specs.Prelude.{ℕ, List, [], ◌∷◌, Option, None, Some}
use Rattle.cases.specs.declared.stories.story.Visit.{Visit}

-- the moment of the first of those who have still to come, if one has
abbrev pub next_of : List Visit → Option ℕ
next_of [] = None
next_of (visit ∷ more) = Some visit.moment
