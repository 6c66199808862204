use Rattle.std.proofs.Common.{refl}
use Rattle.command_forms.proofs.Computing.{on_examples}
use Rattle.command_forms.proofs.explaining_examples.a_faulty_value_is_named.Goals as goal

-- all computed at once

pub returns : goal.returns
unfolding on_examples
returns c = record {
  k = refl;
  audit_k = refl;
  k_of_connection = refl;
  i_of_connection = refl;
  n = refl;
  x = refl;
  q = refl;
  d = refl;
  r = refl;
  t = refl;
  s = refl;
  taken = refl;
  audit_taken = refl;
}
