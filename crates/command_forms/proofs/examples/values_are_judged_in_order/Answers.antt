use Rattle.std.proofs.Common.{refl}
use Rattle.command_forms.proofs.Computing.{on_examples}
use Rattle.command_forms.proofs.examples.values_are_judged_in_order.Goals as goal

-- all computed at once

pub returns : goal.returns
unfolding on_examples
returns c = record {
  k_before_n = refl;
  k_above_n = refl;
  k_before_s = refl;
  n_before_x = refl;
  n_above_x = refl;
  n_before_s = refl;
  b_before_x = refl;
  k_before_b = refl;
  x_before_s = refl;
  x_above_s = refl;
  k_before_q = refl;
  n_before_q = refl;
  x_before_q = refl;
  x_above_q = refl;
  q_before_d = refl;
  q_above_d = refl;
  q_before_r = refl;
  d_before_r = refl;
  d_above_r = refl;
  d_before_t = refl;
  r_before_t = refl;
  r_above_t = refl;
  t_before_s = refl;
  t_above_s = refl;
  r_before_s = refl;
}
