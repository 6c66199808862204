use Rattle.std.proofs.Common.{refl}
use Rattle.gateway_core.proofs.WorkLemmas.{happened_passing}
use Rattle.gateway_core.proofs.acting.act_on.Goals as goal

pub returns-then-not-heeds-clause-happens : goal.returns-then-not-heeds-clause-happens
returns-then-not-heeds-clause-happens c = happened_passing _ _ _ _ c.new-out.ensures.items (c.pass_over.ensures.acted _ _) refl refl
