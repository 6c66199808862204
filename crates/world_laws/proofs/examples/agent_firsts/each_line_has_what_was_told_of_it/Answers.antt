use Rattle.std.proofs.Common.{refl}
use Rattle.world_laws.proofs.Computing.{on_examples}
use Rattle.world_laws.proofs.examples.agent_firsts.each_line_has_what_was_told_of_it.Goals as goal

-- all computed at once

pub returns : goal.returns
unfolding on_examples
returns c = record {
  last = refl;
  line_2 = refl;
  line_3 = refl;
  all_lines = refl;
  any_line = refl;
  other_domain = refl;
  answered = refl;
  of_line_0 = refl;
  of_line_3 = refl;
}
