-- The final responses that come to an agent while their commands are in flight (RFC 3435, 2.4 and 3.5).
use Rattle.std.specs.Prelude.{ℕ, ◌&&◌, nat_le, if◌then◌else◌, Bool, List, [], ◌∷◌, ◌++◌, find, Option, Some, None}
use Rattle.std.specs.declared.net.socket_addr.SocketAddrV4.{SocketAddrV4}
use Rattle.mgcp_text.specs.declared.message.Message.TheVariants as messages
use Rattle.mgcp_text.specs.Reading.{Outcome, message, no_header, bad_version, bad_body, read_text}
use Rattle.retransmission.specs.Flight.{InFlight}
use Rattle.plain_machine.specs.Event.{datagram, phone, tick}
use Rattle.transmission.specs.Texts.{texts_of}
use Rattle.call_agent.specs.declared.setup.AgentSetup.{AgentSetup}
use Rattle.call_agent.specs.Agent.{AgentMachine, FinalAnswer}
use Rattle.call_agent.specs.Flying.{has_id}
use Rattle.call_agent.specs.Hearing.{AgentEvent, issues, hears, agent_effect, handled}

-- the return code is that of a final response
abbrev pub is_final : ℕ → Bool
is_final code = nat_le 200 code && nat_le code 999

-- a response with this id, where such a command is in flight or isn't
abbrev pub landing_by : Option InFlight → ℕ → ℕ → List ℕ → List FinalAnswer
landing_by None id code text = []
landing_by (Some flight) id code text = if is_final code then (record { id = id; code = code; text = text }) ∷ [] else []

-- the text is a final response to one of these commands
abbrev pub landing_as : Outcome → List InFlight → List ℕ → List FinalAnswer
landing_as (message (messages.Response code id params body)) flights text = landing_by (find (has_id id) flights) id code text
landing_as (message (messages.Command verb id name params body)) flights text = []
landing_as no_header flights text = []
landing_as (bad_version id) flights text = []
landing_as (bad_body id) flights text = []

-- of the texts of a datagram, each after those before it
unfoldable pub landing_in : AgentSetup → AgentMachine → SocketAddrV4 → List (List ℕ) → List FinalAnswer
landing_in setup m source [] = []
landing_in setup m source (text ∷ texts) =
    landing_as (read_text text) m.flights text ++ landing_in setup (handled setup m source text).machine source texts

abbrev pub landing_with : AgentSetup → AgentMachine → AgentEvent → List FinalAnswer
landing_with setup m (issues verb name rest) = []
landing_with setup m (hears (datagram source bytes)) = landing_in setup m source (texts_of bytes)
landing_with setup m (hears (phone line act)) = []
landing_with setup m (hears (tick moment)) = []

-- all that came with these events, in the order in which they came
unfoldable pub landing_from : AgentSetup → AgentMachine → List AgentEvent → List FinalAnswer
landing_from setup m [] = []
landing_from setup m (event ∷ events) = landing_with setup m event ++ landing_from setup (agent_effect setup m event).machine events
