-- The definitions opened, so that worked examples compute.
use Rattle.std.specs.Prelude.{⊤}
use Rattle.endpoint_names.specs.Route.{at}

unfoldable pub on_examples : ⊤
unfolding at
on_examples = tt
