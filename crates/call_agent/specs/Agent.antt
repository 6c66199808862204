-- The plain call agent: it issues commands and repeats them until they are answered or given up, and answers the commands of
-- a gateway, each once (RFC 3435, 3.5). It forgets nothing.
use Rattle.std.specs.Prelude.{ℕ, ◌-◌, ◌==◌, if◌then◌else◌, List, [], replicate, find, Option}
use Rattle.std.specs.List.{slice_index_or}
use Rattle.call_agent.specs.declared.setup.AgentSetup.{AgentSetup}
use Rattle.packages.specs.declared.observed.Observed.{Observed}
use Rattle.transmission.specs.declared.entry.Entry.{Entry}
use Rattle.retransmission.specs.Flight.{InFlight}
use Rattle.transmission.specs.declared.output.OutDatagram.{OutDatagram}

-- the answer to a command: the first final response that came while the command was in flight, its whole text
pub record FinalAnswer : Type 0 where
  pub id : ℕ
  pub code : ℕ
  pub text : List ℕ

-- Its flights, that is its commands in flight, stand in the order of their ids. Its history has every first and what that
-- confirmed, as a gateway's has. Of each line, beginning with line 1, it has all that notifications told.
pub record AgentMachine : Type 0 where
  pub now : ℕ
  pub next : ℕ
  pub flights : List InFlight
  pub answers : List FinalAnswer
  pub history : List Entry
  pub taken : List (List Observed)

-- of no line anything was told
abbrev pub nothing_taken : AgentSetup → List (List Observed)
nothing_taken setup = replicate setup.lines []

abbrev pub agent_opening : AgentSetup → AgentMachine
agent_opening setup = record { now = 0; next = setup.first; flights = []; answers = []; history = []; taken = nothing_taken setup }

-- what an event does, and the messages that it sends, each as in a datagram of its own
pub record AgentEffect : Type 0 where
  pub machine : AgentMachine
  pub sent : List OutDatagram

abbrev pub idle : AgentMachine → AgentEffect
idle m = record { machine = m; sent = [] }

-- What can be read of it

-- the answer to the command with this id, once there is one
abbrev pub answer_for : ℕ → AgentMachine → Option FinalAnswer
answer_for id m = find (λ answer. answer.id == id) m.answers

-- all that the notifications of a line told, joined; nothing of a line that there isn't
abbrev pub observed_on : ℕ → AgentMachine → List Observed
observed_on line m = if line == 0 then [] else slice_index_or m.taken (line - 1) []
