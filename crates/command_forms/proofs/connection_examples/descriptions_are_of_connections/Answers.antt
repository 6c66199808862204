use Rattle.std.proofs.Common.{refl}
use Rattle.command_forms.proofs.Computing.{on_examples}
use Rattle.command_forms.proofs.connection_examples.descriptions_are_of_connections.Goals as goal

-- all computed at once

pub returns : goal.returns
unfolding on_examples
returns c = record {
  empty_lines = refl;
  modified_empty_lines = refl;
  empty_lines_at_its_end = refl;
  version_alone = refl;
  modified_version_alone = refl;
  empty_line_before_it = refl;
  port = refl;
}
