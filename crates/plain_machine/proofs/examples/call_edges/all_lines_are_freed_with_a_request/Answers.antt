use Rattle.std.proofs.Common.{refl}
use Rattle.plain_machine.proofs.Computing.{on_examples}
use Rattle.plain_machine.proofs.examples.call_edges.all_lines_are_freed_with_a_request.Goals as goal

-- all computed at once

pub returns : goal.returns
unfolding on_examples
returns c = record {
  answer = refl;
  freed = refl;
  signals = refl;
  refused = refl;
  kept = refl;
}
