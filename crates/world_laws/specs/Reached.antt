-- The firsts among all that arrived, each with what it was read as, and the commands that an end began (RFC 3435, 3.5.1).
use Rattle.std.specs.Prelude.{ℕ, ◌==◌, if◌then◌else◌, List, [], ◌∷◌, ◌++◌, map, flat_map, fold, Option, Some, None}
use Rattle.transmission.specs.declared.entry.KeptFirst.{KeptFirst}
use Rattle.transmission.specs.Arrival.{Arrival}
use Rattle.transmission.specs.Memory.{most_firsts}
use Rattle.transmission.specs.Firsts.{Kind, a_first, a_repeat, lost, kind_of}
use Rattle.mgcp_text.specs.Reading.{Outcome}
use Rattle.plain_machine.specs.declared.setup.Setup.{Setup}
use Rattle.plain_machine.specs.Event.{GatewayEvent}
use Rattle.plain_machine.specs.Arriving.{TextArrival, arrivals_of}
use Rattle.plain_machine.specs.Lists.{sent_of}
use Rattle.plain_machine.specs.Transactions.{Asked, asked}
use Rattle.plain_machine.specs.Message.{Begun}
use Rattle.machine_laws.specs.Saying.{begun_in}
use Rattle.packages.specs.declared.observed.Observed.{Observed}
use Rattle.call_agent.specs.declared.setup.AgentSetup.{AgentSetup}
use Rattle.call_agent.specs.declared.taking.Taken.{Taken}
use Rattle.call_agent.specs.Agent.{agent_opening}
use Rattle.call_agent.specs.Taking.{GatewayCommand, command_of}
use Rattle.call_agent.specs.Hearing.{issued_from, heard_with}
use Rattle.agent_core.specs.World.{World, agent_of}

-- a command that arrived, and what its text was read as
pub record Reached : Type 0 where
  pub asked : Asked
  pub outcome : Outcome

abbrev pub reached_as : Outcome → Asked → Reached
reached_as outcome one = record { asked = one; outcome = outcome }

abbrev pub reached : TextArrival → List Reached
reached a = map (reached_as a.outcome) (asked a)

-- which arrivals are firsts follows from their ids and moments
abbrev pub as_arrival : Reached → Arrival
as_arrival one = record { id = one.asked.id; moment = one.asked.moment; confirms = one.asked.confirms; answer = [] }

abbrev pub added_by : Kind → List Reached → Reached → List Reached
added_by a_first firsts one = firsts ++ one ∷ []
added_by (a_repeat copied) firsts one = firsts
added_by lost firsts one = firsts

unfoldable pub executed_with : List Reached → Reached → List Reached
executed_with firsts one = added_by (kind_of most_firsts (map as_arrival firsts) (as_arrival one)) firsts one

-- the commands that are executed: the firsts of all that arrived
abbrev pub executed_of : List TextArrival → List Reached
executed_of arrivals = fold executed_with [] (flat_map reached arrivals)

-- what an agent takes of a command that it executes
abbrev pub taken_of_command : Option GatewayCommand → List Taken
taken_of_command None = []
taken_of_command (Some one) = one.taken

abbrev pub taken_with : AgentSetup → Reached → List Taken
taken_with setup one = taken_of_command (command_of setup one.outcome)

-- what is taken of a line
abbrev pub told_of : ℕ → Taken → List Observed
told_of line told = if told.line == line then told.observed else []

-- by which id, and when

abbrev pub key_kept : KeptFirst → ℕ × ℕ
key_kept first = (first.id, first.moment)

abbrev pub key_reached : Reached → ℕ × ℕ
key_reached one = (one.asked.id, one.asked.moment)

-- What the laws of a world speak of

-- the commands that the agent issued
abbrev pub issued_in : Setup → World → List Begun
issued_in setup w = issued_from (agent_of setup) (agent_opening (agent_of setup)) w.agent_took

-- the commands that the gateway executed
abbrev pub executed_in : World → List Reached
executed_in w = executed_of (arrivals_of w.gateway_took)

-- what the agent heard
abbrev pub heard_in : World → List GatewayEvent
heard_in w = flat_map heard_with w.agent_took

-- the commands that the agent took, the first time that they arrived
abbrev pub taken_in : World → List Reached
taken_in w = executed_of (arrivals_of (heard_in w))

-- the commands of its own that the gateway sent
abbrev pub own_in : Setup → World → List Begun
own_in setup w = begun_in (sent_of setup w.gateway_took)
