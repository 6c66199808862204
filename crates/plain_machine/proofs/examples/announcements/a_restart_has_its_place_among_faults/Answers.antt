use Rattle.std.proofs.Common.{refl}
use Rattle.plain_machine.proofs.Computing.{on_examples}
use Rattle.plain_machine.proofs.examples.announcements.a_restart_has_its_place_among_faults.Goals as goal

-- all computed at once

pub returns : goal.returns
unfolding on_examples
returns c = record {
  verb = refl;
  name = refl;
  any_line = refl;
  all_lines = refl;
  critical = refl;
  foreign = refl;
  missing = refl;
  of_an_audit = refl;
}
