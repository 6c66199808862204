-- What there is to be told of the connections of a line.
use Rattle.std.specs.Prelude.{[], ◌∷◌, Some}
use Rattle.plain_machine.specs.Connecting.{Shown, nothing_shown, created_shown, modified_shown, counts_param}
use Rattle.endpoints.specs.declared.rules.connecting.News.{News}
use Rattle.endpoints.specs.declared.rules.connecting.News.TheVariants.{Nothing, Began, Changed, Counted}

-- what an answer tells of it
abbrev pub shown_as : News → Shown
shown_as Nothing = nothing_shown
shown_as (Began created) = created_shown created
shown_as (Changed description) = modified_shown (Some description)
shown_as Counted = record { params = counts_param ∷ []; body = [] }
