use Rattle.std.proofs.Common.{refl}
use Rattle.command_forms.proofs.Computing.{on_examples}
use Rattle.command_forms.proofs.checking_examples.only_a_deed_takes_memory.Goals as goal

-- all computed at once

pub returns : goal.returns
unfolding on_examples
returns c = record {
  request = refl;
  configuration = refl;
  deletion = refl;
  faulty_value = refl;
  foreign = refl;
  missing = refl;
  missing_call = refl;
  confirming = refl;
  audit = refl;
  audit_connection = refl;
  verb = refl;
  name = refl;
  response = refl;
  early = refl;
  early_audit = refl;
}
