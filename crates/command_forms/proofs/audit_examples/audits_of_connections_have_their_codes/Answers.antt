use Rattle.std.proofs.Common.{refl}
use Rattle.command_forms.proofs.Computing.{on_examples}
use Rattle.command_forms.proofs.audit_examples.audits_of_connections_have_their_codes.Goals as goal

-- all computed at once

pub returns : goal.returns
unfolding on_examples
returns c = record {
  missing = refl;
  missing_with_items = refl;
  missing_but_ignored = refl;
  call = refl;
  entity = refl;
  encoding = refl;
  mode = refl;
  options = refl;
  identifier = refl;
  requested = refl;
  signals = refl;
  map = refl;
  detected = refl;
  handling = refl;
  longer = refl;
  critical = refl;
  «package» = refl;
  ignored = refl;
  connection_twice = refl;
  items_twice = refl;
  confirming_twice = refl;
}
