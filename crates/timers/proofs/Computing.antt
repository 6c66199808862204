-- The definitions opened, so that worked examples compute.
use Rattle.std.specs.Prelude.{⊤}
use Rattle.timers.specs.Example.{drained_within}

unfoldable pub on_examples : ⊤
unfolding drained_within
on_examples = tt
