-- What an agent keeps, beside the plain agent: the same but for transactions that can't matter any more.
use Rattle.std.specs.Prelude.{◌≡◌, List}
use Rattle.transmission.specs.declared.entry.Entry.{Entry}
use Rattle.transmission.specs.Recalling.{Recalls}
use Rattle.call_agent.specs.Agent.{AgentMachine, AgentEffect}

-- the same with this history
abbrev pub with_history : AgentMachine → List Entry → AgentMachine
with_history m history = record m { history = history }

pub record AgentAlike (kept m : AgentMachine) : Type 0 where
  pub same : m ≡ with_history kept m.history
  pub history : Recalls kept.history m.history kept.now

-- what is kept goes on as the plain agent does, and sends the same
pub record AgentGoesAlike (kept plain : AgentEffect) : Type 0 where
  pub alike : AgentAlike kept.machine plain.machine
  pub sent : plain.sent ≡ kept.sent
