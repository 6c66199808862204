-- The definitions opened, so that worked examples compute.
use Rattle.std.specs.Prelude.{⊤}
use Rattle.plain_machine.proofs.Computing.{on_examples as machine_examples}
use Rattle.world_laws.specs.Course.{course_in, course_from}

unfoldable pub on_examples : ⊤
unfolding machine_examples course_in course_from
on_examples = tt
