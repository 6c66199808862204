-- What is answered to who typed a command.
use Rattle.std.specs.Prelude.{◌≡◌, ◌⊎◌, ℕ, codes, decimal, List, [], ◌∷◌, ◌++◌, Result, Ok, Err}
use Rattle.std.specs.declared.net.socket_addr.SocketAddr.{SocketAddr}
use Rattle.mg_bytes.specs.Lines.{cut, line_of}
use Rattle.call_agent.specs.declared.issuing.Issued.{Issued}
use Rattle.live_io.specs.Around.{Around}
use Rattle.live_io.specs.Hearing.{AnswersTo}
use Rattle.live_io.specs.Typing.{left_of}
use Rattle.agent_gateways.specs.declared.switchboard.Switchboard.{Switchboard}
use Rattle.agent_gateways.specs.declared.typed.TypedFault.{TypedFault}
use Rattle.agent_gateways.specs.declared.typed.TypedFault.TheVariants.{OutOfMemory, NoMoreIds, BadCommand, NoSuchGateway, Unknown}
use Rattle.live_agent.specs.declared.wire.Wire.{Wire}
use Rattle.live_agent.specs.Sending.{SendsCommand}
use Rattle.agent_gateways.specs.Typed.{typed_text}
use Rattle.agent_gateways.specs.TypedCommands.{IssuesTyped}

abbrev pub fault_text : TypedFault → List ℕ
fault_text OutOfMemory = codes "! 1 OutOfMemory\n"
fault_text NoMoreIds = codes "! 2 NoMoreIds\n"
fault_text BadCommand = codes "! 3 BadCommand\n"
fault_text NoSuchGateway = codes "! 4 NoSuchGateway\n"
fault_text Unknown = codes "? VERB NAME, counts, or stop\n"

abbrev pub issued_text : ℕ → List ℕ
issued_text id = codes "issued " ++ decimal id ++ codes "\n"

-- this is answered to who typed it, and to all that stands behind it in its datagram; nothing else of the wire has changed
pub record AnswersAll {S : Type 0} (answers : S → SocketAddr → List ℕ → S → Type 0) (text : List ℕ) (was is : Wire S) : Type 0 where
  pub answered : AnswersTo answers was.lines.sender was.around text is.around
  pub left : left_of is.lines ≡ []
  pub rest : is ≡ record was { around = is.around; lines = is.lines }

-- what it was issued under, or that memory was refused for that
abbrev pub TellsIssued : ℕ → List ℕ → Type 0
TellsIssued id text = (text ≡ issued_text id) ⊎ (text ≡ fault_text OutOfMemory)

-- why it isn't issued is answered; where it is, it counts, and is sent before
abbrev pub AnswersIssued : {S : Type 0} → Around S → Result Issued TypedFault → Wire S → Wire S → Type 0
AnswersIssued around (Err fault) was is = AnswersAll around.answers (fault_text fault) was is
AnswersIssued {S} around (Ok issued) was is =
    (sent : Wire S) × (text : List ℕ) × SendsCommand around issued.datagram was sent
    × TellsIssued issued.id text × AnswersAll around.answers text sent is

-- Where memory is refused for the answer before, nothing is issued.
abbrev pub AnswersCommand : {S : Type 0} → Around S → List ℕ → Switchboard → Switchboard → Wire S → Wire S → Type 0
AnswersCommand around text board now was is =
    ((now ≡ board) × AnswersAll around.answers (fault_text OutOfMemory) was is)
    ⊎ ((issued : Result Issued TypedFault) × IssuesTyped text issued board now × AnswersIssued around issued was is)

-- the line that is answered next, and what stands behind it, as they were typed; nothing where there is none
abbrev pub IsTypedNext : List (List ℕ) → List ℕ → Type 0
IsTypedNext [] text = text ≡ []
IsTypedNext (piece ∷ behind) text = (rest : List ℕ) × (cut rest ≡ behind) × (text ≡ typed_text (line_of piece) rest)

-- it is issued, or refused, and that is answered; where memory is refused for its text, it is refused for that
abbrev pub DoesCommand : {S : Type 0} → Around S → Switchboard → Switchboard → Wire S → Wire S → Type 0
DoesCommand around board now was is =
    ((now ≡ board) × AnswersAll around.answers (fault_text OutOfMemory) was is)
    ⊎ ((text : List ℕ) × IsTypedNext (left_of was.lines) text × AnswersCommand around text board now was is)
