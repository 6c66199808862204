use Rattle.std.proofs.Common.{sym, ap}
use Rattle.transmission.proofs.RecallLaws.{recalls_look}
use Rattle.call_agent.specs.Agent.{AgentMachine}
use Rattle.call_agent.specs.Hearing.{plain_agent}
use Rattle.world_laws.proofs.standing_laws.what_an_agent_stands_for.Goals as goal

pub returns-clause-now : goal.returns-clause-now
returns-clause-now c = λ a events s. sym (ap (λ (m : AgentMachine). m.now) s.alike.same)

pub returns-clause-next : goal.returns-clause-next
returns-clause-next c = λ a events s. sym (ap (λ (m : AgentMachine). m.next) s.alike.same)

pub returns-clause-flights : goal.returns-clause-flights
returns-clause-flights c = λ a events s. sym (ap (λ (m : AgentMachine). m.flights) s.alike.same)

pub returns-clause-answers : goal.returns-clause-answers
returns-clause-answers c = λ a events s. sym (ap (λ (m : AgentMachine). m.answers) s.alike.same)

pub returns-clause-taken : goal.returns-clause-taken
returns-clause-taken c = λ a events s. sym (ap (λ (m : AgentMachine). m.taken) s.alike.same)

pub returns-clause-transactions : goal.returns-clause-transactions
returns-clause-transactions c = λ a events id later s after.
    recalls_look a.machine.history (plain_agent a.setup events).history a.machine.now id later s.alike.history after
