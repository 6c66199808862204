use Rattle.gateway_config.proofs.FlawLemmas.{read, right, taken}
use Rattle.gateway_config.proofs.laws.what_has_no_flaw_sets_a_gateway_up.Goals as goal

pub returns-clause-read : goal.returns-clause-read
returns-clause-read c = read

pub returns-clause-right : goal.returns-clause-right
returns-clause-right c = right

pub returns-clause-taken : goal.returns-clause-taken
returns-clause-taken c = taken
