use Rattle.std.proofs.Common.{refl}
use Rattle.call_agent.specs.declared.issuing.IssueFault.TheVariants.{OutOfMemory}
use Rattle.agent_gateways.proofs.CopyLemmas.{as_it_was}
use Rattle.agent_gateways.proofs.IssueLemmas.{for_memory}
use Rattle.agent_gateways.proofs.orders.issue_named.Goals as goal

pub returns-in_default-clause-issues : goal.returns-in_default-clause-issues
returns-in_default-clause-issues c =
    ((OutOfMemory, refl, λ events stands. for_memory _), as_it_was c.args.gateway.now.agent.value, refl)
