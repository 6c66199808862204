use Rattle.std.proofs.Common.{refl}
use Rattle.command_forms.proofs.Computing.{on_examples}
use Rattle.command_forms.proofs.explaining_examples.a_faulty_value_of_a_connection_is_named.Goals as goal

-- all computed at once

pub returns : goal.returns
unfolding on_examples
returns c = record {
  n = refl;
  b = refl;
  c_of_creation = refl;
  c_of_modification = refl;
  c_of_deletion = refl;
  i_of_modification = refl;
  i_of_deletion = refl;
  m_of_creation = refl;
  m_of_modification = refl;
  l_of_creation = refl;
  l_of_modification = refl;
  s = refl;
  description_of_creation = refl;
  description_of_modification = refl;
  ignored = refl;
  taken = refl;
}
