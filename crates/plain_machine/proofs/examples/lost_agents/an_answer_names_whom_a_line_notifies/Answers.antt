use Rattle.std.proofs.Common.{refl}
use Rattle.plain_machine.proofs.Computing.{on_examples}
use Rattle.plain_machine.proofs.examples.lost_agents.an_answer_names_whom_a_line_notifies.Goals as goal

-- all computed at once

pub returns : goal.returns
unfolding on_examples
returns c = record {
  endpoints = refl;
  told = refl;
  provisional = refl;
  unreadable = refl;
  then_nobody = refl;
}
