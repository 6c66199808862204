use Rattle.std.proofs.Common.{rules, arith}
use Rattle.std.proofs.lemmas.Grind.{common_steps}
use Rattle.plain_machine.specs.Refusing.{refusal_of}
use Rattle.gateway_core.proofs.working.happen.Goals as goal

pub returns-in-Datagram-clause-ends : goal.returns-in-Datagram-clause-ends
unfolding refusal_of
returns-in-Datagram-clause-ends c = first_of (search rules, grind (arith, common_steps))

pub returns-in-Tick-clause-ends : goal.returns-in-Tick-clause-ends
unfolding refusal_of
returns-in-Tick-clause-ends c = first_of (search rules, grind (arith, common_steps))
