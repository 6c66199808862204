use Rattle.std.proofs.Common.{ℕ}
use Rattle.transmission.specs.declared.entry.KeptFirst.{KeptFirst}
use Rattle.transmission.specs.Memory.{most_firsts}
use Rattle.transmission.specs.Firsts.{firsts_of}
use Rattle.plain_machine.specs.Transactions.{commands_of}
use Rattle.machine_laws.proofs.EachLemmas.{all_from_each, each_weaker}
use Rattle.transmission.specs.Kept.{firsts_in}
use Rattle.call_agent.specs.Agent.{agent_opening}
use Rattle.call_agent.specs.Hearing.{agent_after}
use Rattle.world_laws.specs.Copies.{IsPlainAnswer}
use Rattle.world_laws.proofs.PostedFinal.{posted_final}
use Rattle.world_laws.proofs.QuietLemmas.{HasPlain, agent_plain}
use Rattle.world_laws.proofs.FinalLemmas.{HasFinal, firsts_final}
use Rattle.world_laws.proofs.delivery_laws.stored_answers_are_final.Goals as goal

pub returns-clause-gateway : goal.returns-clause-gateway
returns-clause-gateway c = λ setup events. all_from_each HasFinal (firsts_of most_firsts (commands_of setup events)) (firsts_final setup most_firsts events)

pub returns-clause-agent : goal.returns-clause-agent
returns-clause-agent c = λ setup events.
    let firsts = firsts_in (agent_after setup (agent_opening setup) events).history in
    let Plain : KeptFirst → Type 0 = λ first. (id : ℕ) → IsPlainAnswer id first.answer in
    all_from_each Plain firsts (each_weaker HasPlain Plain (λ first plain. plain.0) firsts (agent_plain setup events))

pub returns-clause-posted : goal.returns-clause-posted
returns-clause-posted c = λ setup steps number post text run found inside. posted_final setup steps number post text run.0 run.1 found inside
