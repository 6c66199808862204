-- What is done at a text that arrived: a command is executed and answered (RFC 3435, 3.2 and 3.5).
use Rattle.std.specs.Prelude.{ℕ, List, [], ◌∷◌, ◌++◌, Option, Some, None, Result, Ok, Err}
use Rattle.std.specs.declared.net.socket_addr.SocketAddrV4.{SocketAddrV4}
use Rattle.mgcp_text.specs.Reading.{Outcome, read_text}
use Rattle.mgcp_text.specs.declared.message.Message.{Message}
use Rattle.mgcp_text.specs.declared.message.Param.{Param}
use Rattle.mgcp_text.specs.declared.message.Verb.{Verb}
use Rattle.mgcp_text.specs.Answer.{plain_code, response_of}
use Rattle.mgcp_text.specs.Writing.{written}
use Rattle.mgcp_text.specs.Confirmation.{k_of}
use Rattle.mgcp_text.specs.declared.confirmation.KValue.{KValue}
use Rattle.transmission.specs.declared.span.IdSpan.{IdSpan}
use Rattle.transmission.specs.declared.entry.Entry.{Entry}
use Rattle.transmission.specs.declared.entry.Entry.TheVariants.{First, Confirmation}
use Rattle.transmission.specs.Memory.{most_firsts}
use Rattle.transmission.specs.Looking.{Looked, look_of}
use Rattle.transmission.specs.Confirming.{spans_of}
use Rattle.transmission.specs.Hearing.{command_as, response_as}
use Rattle.transmission.specs.Transacting.{transacted_as}
use Rattle.endpoint_names.specs.declared.name.Pattern.{Pattern}
use Rattle.endpoint_names.specs.declared.name.Pattern.TheVariants.{One, All, Any}
use Rattle.endpoint_names.specs.declared.name.NameFault.{NameFault}
use Rattle.endpoint_names.specs.Name.{name_of}
use Rattle.plain_machine.specs.declared.setup.Setup.{Setup}
use Rattle.plain_machine.specs.Effect.{Effect, silently, afterwards}
use Rattle.plain_machine.specs.Message.{answer_of, Said, answer, again, Sent}
use Rattle.plain_machine.specs.Machine.{Machine, told_in, Endpoints}
use Rattle.plain_machine.specs.Done.{Done, only_answer}
use Rattle.plain_machine.specs.Responding.{heard_from}
use Rattle.command_forms.specs.Command.{Command}
use Rattle.plain_machine.specs.Commanding.{commanded}

-- the line that a name reads as
abbrev pub line_meant : Result Pattern NameFault → Option ℕ
line_meant (Ok (One line)) = Some line
line_meant (Ok All) = None
line_meant (Ok Any) = None
line_meant (Err fault) = None

abbrev pub line_of_name : Setup → List ℕ → Option ℕ
line_of_name setup name = line_meant (name_of name setup.names.domain setup.names.lines)

-- a message to where a command came from
abbrev pub reply : Machine → SocketAddrV4 → Option ℕ → Said → Sent
reply m source line said = record { to = source; moment = m.now; owner = answer_of line; said = said }

-- a command that arrived: its id, the line that it names, what it confirms, and what it would do now
pub record Transaction : Type 0 where
  pub id : ℕ
  pub line : Option ℕ
  pub confirms : List IdSpan
  pub done : Done

abbrev pub transaction : ℕ → Option ℕ → List IdSpan → Done → Transaction
transaction id line confirms done = record { id = id; line = line; confirms = confirms; done = done }

-- the response that answers it
abbrev pub response_to : Transaction → Message
response_to t = response_of t.id t.done.answer

-- its text
abbrev pub answer_text : Transaction → List ℕ
answer_text t = written (response_to t)

-- the history after a first: what it confirmed, and then the first itself with its answer
abbrev pub history_with : Machine → Transaction → List Entry
history_with m t =
    (m.history ++ Confirmation t.confirms ∷ []) ++ First (record { id = t.id; moment = m.now; answer = answer_text t }) ∷ []

-- A first is executed: what it confirms is confirmed, the endpoints become what it makes of them, and its answer goes to
-- its source, before what lines send because of it.
unfoldable pub executed : Machine → SocketAddrV4 → Transaction → Effect Machine
executed m source t = record {
  value = record m { endpoints = t.done.told.value; history = history_with m t };
  sent = reply m source t.line (answer (response_to t)) ∷ t.done.told.sent;
}

-- a command, by what is told of its id; but for a first nothing changes
abbrev pub transacted_by : Looked → Machine → SocketAddrV4 → Transaction → Effect Machine
transacted_by told m source t =
    transacted_as told (executed m source t)
    (λ text. record { value = m; sent = reply m source t.line (again t.id text) ∷ [] }) (silently m)

abbrev pub transacted : Machine → SocketAddrV4 → Transaction → Effect Machine
transacted m source t = transacted_by (look_of most_firsts m.history t.id m.now) m source t

-- a command that this code answers, which confirms nothing
abbrev pub refusing : Machine → ℕ → ℕ → Transaction
refusing m id code = transaction id None [] (only_answer m.endpoints (plain_code code))

-- a command with this id whose K says this: it is read once
abbrev pub command_with : Setup → Machine → ℕ → Command → KValue → Transaction
command_with setup m id command confirms =
    transaction id (line_of_name setup command.name) (spans_of confirms)
    (commanded setup m.endpoints m.now id command confirms)

abbrev pub read_command : Setup → Machine → Verb → ℕ → List ℕ → List Param → List ℕ → Transaction
read_command setup m verb id name params body =
    command_with setup m id (record { verb = verb; name = name; params = params; body = body }) (k_of params)

abbrev pub transaction_of : Setup → Machine → Outcome → Option Transaction
transaction_of setup m outcome = command_as (refusing m) (read_command setup m) outcome

abbrev pub heard_as : Outcome → Setup → Machine → SocketAddrV4 → Effect Endpoints
heard_as outcome setup m source =
    response_as (silently m.endpoints) (λ code id params body. heard_from setup m.endpoints m.now source code id params) outcome

abbrev pub handled_as : Option Transaction → Setup → Machine → SocketAddrV4 → Outcome → Effect Machine
handled_as None setup m source outcome = told_in m (heard_as outcome setup m source)
handled_as (Some t) setup m source outcome = transacted m source t

-- what is done at what arrived
unfoldable pub handled : Setup → Machine → SocketAddrV4 → Outcome → Effect Machine
handled setup m source outcome = handled_as (transaction_of setup m outcome) setup m source outcome

-- the texts of a datagram in order, each completely
unfoldable pub took_all : Setup → Machine → SocketAddrV4 → List (List ℕ) → Effect Machine
took_all setup m source [] = silently m
took_all setup m source (text ∷ texts) =
    afterwards (handled setup m source (read_text text)) (λ next. took_all setup next source texts)
