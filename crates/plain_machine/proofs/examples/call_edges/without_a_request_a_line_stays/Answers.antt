use Rattle.std.proofs.Common.{refl}
use Rattle.plain_machine.proofs.Computing.{on_examples}
use Rattle.plain_machine.proofs.examples.call_edges.without_a_request_a_line_stays.Goals as goal

-- all computed at once

pub returns : goal.returns
unfolding on_examples
returns c = record {
  waits = refl;
  remembered = refl;
}
