-- What an end hears in a text that came to it, whether it is a gateway or a call agent (RFC 3435, 2.4 and 3.5).
use Rattle.std.specs.Prelude.{ℕ, List, [], ◌∷◌, Option, Some, None, Result}
use Rattle.std.specs.Option.{unwrap_or}
use Rattle.std.specs.declared.net.socket_addr.SocketAddrV4.{SocketAddrV4}
use Rattle.mgcp_text.specs.declared.message.Verb.{Verb}
use Rattle.mgcp_text.specs.declared.message.Param.{Param}
use Rattle.mgcp_text.specs.declared.message.Message.{Message}
use Rattle.mgcp_text.specs.declared.message.Message.TheVariants as messages
use Rattle.mgcp_text.specs.declared.message.TextFault.{TextFault}
use Rattle.mgcp_text.specs.Answer.{plain_code, response_of}
use Rattle.mgcp_text.specs.Reading.{Outcome, outcome_of, message, no_header, bad_version, bad_body}
use Rattle.mgcp_text.specs.Writing.{written}
use Rattle.transmission.specs.Kept.{HistoryState}
use Rattle.transmission.specs.Memory.{most_firsts}
use Rattle.transmission.specs.Looking.{look_of}
use Rattle.transmission.specs.declared.output.OutDatagram.{OutDatagram}
use Rattle.transmission.specs.Acknowledging.{acknowledgements}
use Rattle.transmission.specs.Transacting.{message_to, transacted_as, with_first}

-- what was read of a text, where memory wasn't refused
abbrev pub outcome_in : Result Message TextFault → Outcome
outcome_in read = unwrap_or (outcome_of read) no_header

-- the command that an outcome is: one with another version (528) or a body that can't be read (510) is answered by this code,
-- what has no header is none, and neither is a response
abbrev pub command_as : {C : Type 0} → (ℕ → ℕ → C) → (Verb → ℕ → List ℕ → List Param → List ℕ → C) → Outcome → Option C
command_as faulty read no_header = None
command_as faulty read (bad_version id) = Some (faulty id 528)
command_as faulty read (bad_body id) = Some (faulty id 510)
command_as faulty read (message (messages.Command verb id name params body)) = Some (read verb id name params body)
command_as faulty read (message (messages.Response code id params body)) = None

-- what is done at what is no command: a response does this, and what has no header does nothing
abbrev pub response_as : {E : Type 0} → E → (ℕ → ℕ → List Param → List ℕ → E) → Outcome → E
response_as nothing response no_header = nothing
response_as nothing response (bad_version id) = nothing
response_as nothing response (bad_body id) = nothing
response_as nothing response (message (messages.Command verb id name params body)) = nothing
response_as nothing response (message (messages.Response code id params body)) = response code id params body

-- what hearing a text comes to: the history then, what is sent, and the message that is left to its end, if one is
pub record Hearing : Type 0 where
  pub history : HistoryState
  pub sent : List OutDatagram
  pub left : Option Message

abbrev pub hearing : HistoryState → List OutDatagram → Option Message → Hearing
hearing history sent left = record { history = history; sent = sent; left = left }

-- a command with this id comes to this where it is new; of any other nothing is left
abbrev pub command_heard : HistoryState → SocketAddrV4 → ℕ → ℕ → Hearing → Hearing
command_heard history source moment id executed =
    transacted_as (look_of most_firsts history.kept id moment) executed
    (λ text. hearing history (message_to source moment text ∷ []) None) (hearing history [] None)

-- one that this code answers confirms nothing
abbrev pub refused : HistoryState → SocketAddrV4 → ℕ → ℕ → ℕ → Hearing
refused history source moment id code =
    let text = written (response_of id (plain_code code)) in
    command_heard history source moment id
    (hearing (with_first history id moment [] text) (message_to source moment text ∷ []) None)

-- one that can be read is left to the end, which executes it
abbrev pub command_left : HistoryState → SocketAddrV4 → ℕ → Verb → ℕ → List ℕ → List Param → List ℕ → Hearing
command_left history source moment verb id name params body =
    command_heard history source moment id (hearing history [] (Some (messages.Command verb id name params body)))

-- and so is a response, once it is acknowledged
abbrev pub response_left : HistoryState → SocketAddrV4 → ℕ → ℕ → ℕ → List Param → List ℕ → Hearing
response_left history source moment code id params body =
    hearing history (acknowledgements moment source code id params) (Some (messages.Response code id params body))

abbrev pub heard_at : HistoryState → SocketAddrV4 → ℕ → Outcome → Hearing
heard_at history source moment outcome =
    unwrap_or (command_as (refused history source moment) (command_left history source moment) outcome)
    (response_as (hearing history [] None) (response_left history source moment) outcome)
