use Rattle.std.proofs.Common.{refl}
use Rattle.command_forms.proofs.Computing.{on_examples}
use Rattle.command_forms.proofs.examples.extensions_begin_with_x.Goals as goal

-- all computed at once

pub returns : goal.returns
unfolding on_examples
returns c = record {
  critical = refl;
  critical_lower = refl;
  critical_sign = refl;
  «package» = refl;
  last_slash = refl;
  ignored = refl;
  ignored_lower = refl;
  ignored_sign = refl;
  ignored_twice = refl;
  ignored_with_slash = refl;
  other_letter = refl;
  other_plus = refl;
  other_sign = refl;
  no_identifier = refl;
}
