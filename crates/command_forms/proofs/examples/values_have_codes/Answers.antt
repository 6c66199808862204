use Rattle.std.proofs.Common.{refl}
use Rattle.command_forms.proofs.Computing.{on_examples}
use Rattle.command_forms.proofs.examples.values_have_codes.Goals as goal

-- all computed at once

pub returns : goal.returns
unfolding on_examples
returns c = record {
  confirming = refl;
  audit_confirming = refl;
  told = refl;
  entity = refl;
  no_entity = refl;
  no_identifier = refl;
  no_digit = refl;
  digits_32 = refl;
  digits_33 = refl;
  spelling = refl;
  «package» = refl;
  unknown = refl;
  event = refl;
  parameter = refl;
  nine = refl;
}
