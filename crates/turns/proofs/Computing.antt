-- The definitions opened, so that worked examples compute.
use Rattle.std.specs.Prelude.{⊤}
use Rattle.turns.specs.Schedule.{next_of}
use Rattle.turns.specs.Runs.{turns_from, schedule_after}

unfoldable pub on_examples : ⊤
unfolding next_of turns_from schedule_after
on_examples = tt
