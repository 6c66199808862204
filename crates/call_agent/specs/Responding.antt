-- What a response does to an agent's command in flight (RFC 3435, 3.5 and 3.5.6).
use Rattle.std.specs.Prelude.{ℕ, List, [], ◌∷◌, ◌++◌, find, Option, Some, None}
use Rattle.std.specs.declared.net.socket_addr.SocketAddrV4.{SocketAddrV4}
use Rattle.mgcp_text.specs.declared.message.Param.{Param}
use Rattle.retransmission.specs.declared.reply.Reply.{Reply}
use Rattle.retransmission.specs.declared.reply.Reply.TheVariants.{Answered, Provisional, Stranger}
use Rattle.retransmission.specs.Flight.{InFlight, reply_of, heard}
use Rattle.transmission.specs.Acknowledging.{acknowledgements}
use Rattle.call_agent.specs.Agent.{AgentMachine, AgentEffect, FinalAnswer}
use Rattle.call_agent.specs.Flying.{has_id, with_flight, without_flight}

abbrev pub final_answer : ℕ → ℕ → List ℕ → FinalAnswer
final_answer id code text = record { id = id; code = code; text = text }

-- what a response was to a command in flight, which has heard it: a final one is the answer, and nothing is in flight any
-- more; a provisional one has put off what is due
abbrev pub replied : Reply → AgentMachine → InFlight → ℕ → List ℕ → AgentMachine
replied Answered m heard code text =
    record m { flights = without_flight heard.id m.flights; answers = m.answers ++ final_answer heard.id code text ∷ [] }
replied Provisional m heard code text = record m { flights = with_flight heard m.flights }
replied Stranger m heard code text = m

abbrev pub responded_to : Option InFlight → AgentMachine → ℕ → ℕ → List ℕ → AgentMachine
responded_to None m code id text = m
responded_to (Some flight) m code id text = replied (reply_of flight id code) m (heard flight id code m.now) code text

-- a response from this address, with its text: its acknowledgement, and what it is to the command with its id, if that is in
-- flight
unfoldable pub responded : AgentMachine → SocketAddrV4 → ℕ → ℕ → List Param → List ℕ → AgentEffect
responded m source code id params text = record {
  machine = responded_to (find (has_id id) m.flights) m code id text;
  sent = acknowledgements m.now source code id params;
}
