use Rattle.std.proofs.Common.{refl, arith}
use Rattle.machine_laws.specs.Passing.{goes_on, rests}
use Rattle.machine_laws.proofs.IsolationComputing.{on_examples}
use Rattle.machine_laws.proofs.examples.what_is_asked_of_events_has_examples.Goals as goal

-- all computed at once

pub returns : goal.returns
unfolding on_examples
returns c = record {
  keeps_none = refl;
  first = refl;
  keeps_one = refl;
  repeat = refl;
  set_up = record { domain = refl; agent = refl; lines = omega arith; address = refl; ports = omega arith; first = omega arith };
  due = refl;
  nothing_due = refl;
  line = goes_on _ _ _ _ refl (rests _ _ refl refl) refl;
  own = goes_on _ _ _ _ refl (rests _ _ refl refl) refl;
}
