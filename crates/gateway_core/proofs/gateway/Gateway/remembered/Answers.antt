use Rattle.std.proofs.Common.{ap, ◌∙◌}
use Rattle.gateway_core.specs.GatewayState.{GatewayState}
use Rattle.gateway_core.specs.Remembering.{remembered}
use Rattle.gateway_core.proofs.StandLemmas.{remembered_alike}
use Rattle.gateway_core.proofs.gateway.Gateway.remembered.Goals as goal

pub returns-clause-value : goal.returns-clause-value
returns-clause-value c = λ events s. rw (c.min.ensures, c.young.ensures, c.deref.ensures, c.deref-2.ensures)
    (ap (λ (g : GatewayState). remembered g.machine) c.self.view_is ∙ remembered_alike c.args.self.now events s)
