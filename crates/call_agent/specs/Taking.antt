-- How an agent takes the commands of a gateway (RFC 3435, 2.3.4, 2.3.12 and 3.5.1).
use Rattle.std.specs.Prelude.{ℕ, ◌-◌, List, [], ◌∷◌, ◌++◌, fold, Option, Some, None}
use Rattle.std.specs.declared.net.socket_addr.SocketAddrV4.{SocketAddrV4}
use Rattle.mgcp_text.specs.declared.message.Param.{Param}
use Rattle.mgcp_text.specs.declared.message.Verb.{Verb}
use Rattle.mgcp_text.specs.declared.message.Verb.TheVariants.{Epcf, Rqnt, Ntfy, Crcx, Mdcx, Dlcx, Auep, Aucx, Rsip, Other}
use Rattle.mgcp_text.specs.Confirmation.{k_of}
use Rattle.mgcp_text.specs.Reading.{Outcome}
use Rattle.mgcp_text.specs.Writing.{written}
use Rattle.mgcp_text.specs.Answer.{plain_code, response_of}
use Rattle.endpoint_names.specs.Name.{name_of}
use Rattle.packages.specs.declared.observed.Observed.{Observed}
use Rattle.transmission.specs.declared.span.IdSpan.{IdSpan}
use Rattle.transmission.specs.declared.entry.Entry.TheVariants.{Confirmation}
use Rattle.transmission.specs.Memory.{most_firsts}
use Rattle.transmission.specs.Kept.{first_entry}
use Rattle.transmission.specs.Looking.{Looked, look_of}
use Rattle.transmission.specs.Confirming.{spans_of}
use Rattle.plain_machine.specs.Answering.{line_meant}
use Rattle.call_agent.specs.Notified.{observed_with}
use Rattle.transmission.specs.Hearing.{command_as}
use Rattle.transmission.specs.Transacting.{message_to, transacted_as}
use Rattle.call_agent.specs.Growing.{told_at}
use Rattle.call_agent.specs.declared.setup.AgentSetup.{AgentSetup}
use Rattle.call_agent.specs.declared.taking.Taken.{Taken}
use Rattle.call_agent.specs.Agent.{AgentMachine, AgentEffect, idle}

-- a command of a gateway's that arrived: its id, what it confirms, the code that answers it, and what is taken of it
pub record GatewayCommand : Type 0 where
  pub id : ℕ
  pub confirms : List IdSpan
  pub code : ℕ
  pub taken : List Taken

-- notifications and announcements are taken; no other command is for an agent
abbrev pub code_for : Verb → ℕ
code_for Ntfy = 200
code_for Rsip = 200
code_for Epcf = 504
code_for Rqnt = 504
code_for Crcx = 504
code_for Mdcx = 504
code_for Dlcx = 504
code_for Auep = 504
code_for Aucx = 504
code_for Other = 504

abbrev pub taken_on : Option ℕ → List Param → List Taken
taken_on None params = []
taken_on (Some line) params = (record { line = line; observed = observed_with params }) ∷ []

-- of a notification of a line; that of no line is answered, and taken for none
abbrev pub taken_of : AgentSetup → Verb → List ℕ → List Param → List Taken
taken_of setup Ntfy name params = taken_on (line_meant (name_of name setup.domain setup.lines)) params
taken_of setup Rsip name params = []
taken_of setup Epcf name params = []
taken_of setup Rqnt name params = []
taken_of setup Crcx name params = []
taken_of setup Mdcx name params = []
taken_of setup Dlcx name params = []
taken_of setup Auep name params = []
taken_of setup Aucx name params = []
taken_of setup Other name params = []

-- it goes behind what was told of the line before
abbrev pub with_taken : List (List Observed) → Taken → List (List Observed)
with_taken lines told = told_at lines (told.line - 1) told.observed

-- one that can be read
abbrev pub read_command : AgentSetup → Verb → ℕ → List ℕ → List Param → GatewayCommand
read_command setup verb id name params =
    record { id = id; confirms = spans_of (k_of params); code = code_for verb; taken = taken_of setup verb name params }

-- one that can't be read past its id is answered by this code
abbrev pub faulty_command : ℕ → ℕ → GatewayCommand
faulty_command id code = record { id = id; confirms = []; code = code; taken = [] }

-- the command that an outcome is, if it is one
abbrev pub command_of : AgentSetup → Outcome → Option GatewayCommand
command_of setup outcome =
    command_as faulty_command (λ verb id name params body. read_command setup verb id name params) outcome

abbrev pub answer_to : GatewayCommand → List ℕ
answer_to command = written (response_of command.id (plain_code command.code))

-- a first is taken and answered; what it confirmed and its answer are kept
abbrev pub executed : AgentMachine → SocketAddrV4 → GatewayCommand → AgentEffect
executed m source command = record {
  machine = record m {
    history = (m.history ++ Confirmation command.confirms ∷ []) ++ first_entry command.id m.now (answer_to command) ∷ [];
    taken = fold with_taken m.taken command.taken;
  };
  sent = message_to source m.now (answer_to command) ∷ [];
}

-- by what is told of its id, as at a gateway
abbrev pub transacted_by : Looked → AgentMachine → SocketAddrV4 → GatewayCommand → AgentEffect
transacted_by looked m source command =
    transacted_as looked (executed m source command)
    (λ text. record { machine = m; sent = message_to source m.now text ∷ [] }) (idle m)

abbrev pub transacted : AgentMachine → SocketAddrV4 → GatewayCommand → AgentEffect
transacted m source command = transacted_by (look_of most_firsts m.history command.id m.now) m source command
