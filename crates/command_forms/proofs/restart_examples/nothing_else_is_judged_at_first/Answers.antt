use Rattle.std.proofs.Common.{refl}
use Rattle.command_forms.proofs.Computing.{on_examples}
use Rattle.command_forms.proofs.restart_examples.nothing_else_is_judged_at_first.Goals as goal

-- all computed at once

pub returns : goal.returns
unfolding on_examples
returns c = record {
  critical = refl;
  foreign = refl;
  twice = refl;
  missing = refl;
  missing_call = refl;
  missing_identifier = refl;
  k = refl;
  n = refl;
  b = refl;
  c = refl;
  i = refl;
  m = refl;
  l = refl;
  time = refl;
  x = refl;
  q = refl;
  d = refl;
  r = refl;
  t = refl;
  s = refl;
  description = refl;
}
