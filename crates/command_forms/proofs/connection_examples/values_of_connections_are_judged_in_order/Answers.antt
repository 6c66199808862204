use Rattle.std.proofs.Common.{refl}
use Rattle.command_forms.proofs.Computing.{on_examples}
use Rattle.command_forms.proofs.connection_examples.values_of_connections_are_judged_in_order.Goals as goal

-- all computed at once

pub returns : goal.returns
unfolding on_examples
returns c = record {
  k_before_n = refl;
  k_above_n = refl;
  k_before_b = refl;
  n_before_c = refl;
  n_above_c = refl;
  b_before_c = refl;
  b_above_c = refl;
  b_before_i = refl;
  c_before_m = refl;
  c_above_m = refl;
  i_before_m = refl;
  i_above_m = refl;
  m_before_l = refl;
  m_above_l = refl;
  l_before_x = refl;
  l_above_x = refl;
  time_before_x = refl;
  x_before_q = refl;
  x_above_q = refl;
  q_before_d = refl;
  q_above_d = refl;
  d_before_r = refl;
  r_before_t = refl;
  t_before_s = refl;
  s_before_description = refl;
  s_before_description_of_creation = refl;
  k_before_description = refl;
  n_before_m = refl;
  b_before_l = refl;
  b_before_q = refl;
  c_before_l = refl;
  m_before_s = refl;
  l_before_q = refl;
  m_before_description = refl;
  l_before_description = refl;
}
