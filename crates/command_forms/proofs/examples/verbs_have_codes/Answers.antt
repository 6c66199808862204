use Rattle.std.proofs.Common.{refl}
use Rattle.command_forms.proofs.Computing.{on_examples}
use Rattle.command_forms.proofs.examples.verbs_have_codes.Goals as goal

-- all computed at once

pub returns : goal.returns
unfolding on_examples
returns c = record {
  missing = refl;
  missing_with_others = refl;
  missing_with_events = refl;
  missing_with_handling = refl;
  missing_with_map = refl;
  foreign = refl;
  call = refl;
  connection = refl;
  options = refl;
  items = refl;
  longer = refl;
  audit_identifier = refl;
  audit_entity = refl;
  audit_signals = refl;
  audit_requested = refl;
  audit_detected = refl;
  audit_handling = refl;
  audit_map = refl;
  audit_foreign = refl;
  audit_encoding = refl;
  audit_call = refl;
  audit_connection = refl;
  audit_options = refl;
}
