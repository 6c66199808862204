use Rattle.std.proofs.Common.{refl}
use Rattle.plain_machine.proofs.Computing.{on_examples}
use Rattle.plain_machine.proofs.examples.calls.connections_are_modified.Goals as goal

-- all computed at once

pub returns : goal.returns
unfolding on_examples
returns c = record {
  changed = refl;
  unchanged = refl;
  refused = refl;
}
