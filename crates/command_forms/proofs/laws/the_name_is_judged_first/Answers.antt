use Rattle.command_forms.proofs.CodeLemmas.{name_code, param_code, codes_apart}
use Rattle.command_forms.proofs.FormLemmas.{name_first, asked_behind, same_target}
use Rattle.command_forms.proofs.laws.the_name_is_judged_first.Goals as goal

pub returns : goal.returns
returns c = record {
  first = name_first;
  behind = asked_behind;
  name_code = name_code;
  param_code = param_code;
  apart = codes_apart;
  same = same_target;
}
