use Rattle.std.proofs.Common.{refl}
use Rattle.command_forms.proofs.Computing.{on_examples}
use Rattle.command_forms.proofs.connection_examples.values_of_connections_are_judged_in_pairs.Goals as goal

-- all computed at once

pub returns : goal.returns
unfolding on_examples
returns c = record {
  k_before_m = refl;
  k_before_l = refl;
  k_before_q = refl;
  k_before_r = refl;
  n_before_i = refl;
  n_before_l = refl;
  n_before_x = refl;
  n_before_q = refl;
  n_before_description = refl;
  b_before_m = refl;
  b_before_x = refl;
  b_before_d = refl;
  b_before_s = refl;
  b_before_description = refl;
  c_before_q = refl;
  c_before_r = refl;
  c_before_description = refl;
  i_before_l = refl;
  i_before_s = refl;
  i_before_description = refl;
  m_before_x = refl;
  m_before_q = refl;
  m_before_r = refl;
  time_after_m = refl;
  l_before_d = refl;
  l_before_t = refl;
  time_before_description = refl;
  x_before_description = refl;
  q_before_s = refl;
  q_before_description = refl;
  d_before_t = refl;
  d_before_description = refl;
  r_before_description = refl;
  t_before_description = refl;
}
