use Rattle.std.proofs.Common.{refl}
use Rattle.plain_machine.proofs.Computing.{on_examples}
use Rattle.plain_machine.proofs.examples.call_edges.a_refused_request_undoes_the_command.Goals as goal

-- all computed at once

pub returns : goal.returns
unfolding on_examples
returns c = record {
  deletion = refl;
  creation = refl;
  change = refl;
}
