use Rattle.std.proofs.Common.{refl}
use Rattle.command_forms.proofs.Computing.{on_examples}
use Rattle.command_forms.proofs.connection_examples.endpoints_are_configured.Goals as goal

-- all computed at once

pub returns : goal.returns
unfolding on_examples
returns c = record {
  bare = refl;
  mu = refl;
  a_law = refl;
  upper_case = refl;
  lower_case = refl;
  ignored = refl;
  description = refl;
}
