use Rattle.std.proofs.Common.{◌∙◌, refl}
use Rattle.call_agent.proofs.StandLemmas.{flights_are}
use Rattle.call_agent.proofs.agent.Agent.next_due.Goals as goal

pub returns : goal.returns
returns c = λ events s. c.next_due.ensures ∙ flights_are c.args.self.now c.self.inside.state.flights.is events (rw (← c.self.view_is) refl) s
