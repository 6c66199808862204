use Rattle.std.proofs.Common.{refl}
use Rattle.command_forms.proofs.RestartLemmas.{while_named, while_audit, while_deed, while_none, while_taken, while_has_code, never_restarting}
use Rattle.command_forms.proofs.laws.a_gateway_that_restarts_only_reports.Goals as goal

pub returns : goal.returns
returns c = record {
  name = while_named;
  audit = while_audit;
  deed = while_deed;
  serving = λ command confirms names. refl;
  none = while_none;
  taken = while_taken;
  code = never_restarting;
  codes = while_has_code;
}
