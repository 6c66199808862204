use Rattle.std.proofs.Common.{refl}
use Rattle.command_forms.proofs.Computing.{on_examples}
use Rattle.command_forms.proofs.connection_examples.a_call_is_made_and_ended.Goals as goal

-- all computed at once

pub returns : goal.returns
unfolding on_examples
returns c = record {
  other_codec = refl;
  sending = refl;
  towards = refl;
  loopback = refl;
  other_connection = refl;
  other_call = refl;
  too_short = refl;
  ended = refl;
  no_description = refl;
}
