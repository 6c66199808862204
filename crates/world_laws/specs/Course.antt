-- The course of a line: the acts at its telephone, the requests that it accepts and its notifications, in their order (RFC
-- 3435, 2.3.3, 2.3.4 and 4.4.1).
use Rattle.std.specs.Prelude.{ℕ, ◌==◌, ◌&&◌, is_none, if◌then◌else◌, codes, List, [], ◌∷◌, ◌++◌, flat_map, Option, Some, None, Result, Ok, Err}
use Rattle.std.specs.declared.net.socket_addr.SocketAddrV4.{SocketAddrV4}
use Rattle.mgcp_text.specs.Confirmation.{k_of}
use Rattle.mgcp_text.specs.Reading.{Outcome, message, no_header, bad_version, bad_body, read_text}
use Rattle.mgcp_text.specs.declared.message.Message.TheVariants as messages
use Rattle.mgcp_text.specs.declared.message.Param.{Param}
use Rattle.mgcp_text.specs.declared.message.Verb.{Verb}
use Rattle.mgcp_text.specs.declared.message.Verb.TheVariants.{Epcf, Rqnt, Ntfy, Crcx, Mdcx, Dlcx, Auep, Aucx, Rsip, Other}
use Rattle.packages.specs.declared.observed.Observed.{Observed}
use Rattle.transmission.specs.Looking.{look_of}
use Rattle.transmission.specs.Memory.{most_firsts}
use Rattle.transmission.specs.Texts.{texts_of}
use Rattle.transmission.specs.Transacting.{is_new}
use Rattle.command_forms.specs.declared.forms.Asks.{Asks}
use Rattle.command_forms.specs.declared.forms.Asks.TheVariants.{Reports, Does}
use Rattle.command_forms.specs.declared.forms.Target.{Target}
use Rattle.command_forms.specs.declared.forms.Target.TheVariants.{One, All, Any}
use Rattle.command_forms.specs.Meaning.{is_for}
use Rattle.command_forms.specs.Order.{form_while}
use Rattle.command_forms.specs.Params.{value_at}
use Rattle.mg_line.specs.declared.phone.Act.{Act}
use Rattle.events_and_signals.specs.declared.request.Request.{Request}
use Rattle.command_forms.specs.declared.forms.Deed.{Deed}
use Rattle.plain_machine.specs.declared.setup.Setup.{Setup}
use Rattle.plain_machine.specs.Answering.{handled}
use Rattle.plain_machine.specs.Event.{GatewayEvent, datagram, phone, tick}
use Rattle.plain_machine.specs.Happening.{effect}
use Rattle.plain_machine.specs.Machine.{Machine, Endpoints, opening, serves}
use Rattle.plain_machine.specs.Message.{Said, answer, again, command, resent, acknowledgement, Sent}
use Rattle.plain_machine.specs.Requesting.{refused_by, line_with_place}
use Rattle.call_agent.specs.Notified.{observed_with}
use Rattle.machine_laws.specs.Belonging.{of_line}

pub data CourseStep : Type 0 where
  acts : (act : Act) → CourseStep
  accepts : (request : Request) → CourseStep
  notifies : (identifier : List ℕ) (observed : List Observed) → CourseStep

-- What a line notifies

-- X and O of a notification, as they are read
abbrev pub notified_with : Verb → List Param → List CourseStep
notified_with Ntfy params =
    notifies (value_at (codes "X") params) (observed_with params) ∷ []
notified_with Epcf params = []
notified_with Rqnt params = []
notified_with Crcx params = []
notified_with Mdcx params = []
notified_with Dlcx params = []
notified_with Auep params = []
notified_with Aucx params = []
notified_with Rsip params = []
notified_with Other params = []

-- at its first send alone: what is sent once more is no other notification
abbrev pub notified_by : Said → List CourseStep
notified_by (command (messages.Command verb id name params body)) = notified_with verb params
notified_by (command (messages.Response code id params body)) = []
notified_by (answer response) = []
notified_by (again id text) = []
notified_by (resent flight) = []
notified_by (acknowledgement response) = []

-- the notifications of a line among what is sent
abbrev pub notified_in : ℕ → List Sent → List CourseStep
notified_in line sent = flat_map (λ one. notified_by one.said) (of_line line sent)

-- What a line accepts

-- the request of a deed, if it has one
abbrev pub accepted : Option Request → List CourseStep
accepted None = []
accepted (Some request) = accepts request ∷ []

-- where the deed is for the line, and no line that it is for refuses it
abbrev pub accepted_by : Endpoints → ℕ → Target → Deed → List CourseStep
accepted_by endpoints line target deed =
    if is_for target line && is_none (refused_by endpoints target deed) then accepted deed.request else []

abbrev pub accepted_there : Option ℕ → Endpoints → ℕ → Deed → List CourseStep
accepted_there None endpoints line deed = []
accepted_there (Some chosen) endpoints line deed = accepted_by endpoints line (One chosen) deed

-- a deed for any one line is for that which is chosen
abbrev pub accepted_for : Endpoints → ℕ → Target → Deed → List CourseStep
accepted_for endpoints line (One other) deed = accepted_by endpoints line (One other) deed
accepted_for endpoints line All deed = accepted_by endpoints line All deed
accepted_for endpoints line Any deed = accepted_there (line_with_place endpoints) endpoints line deed

abbrev pub accepted_of : Endpoints → ℕ → Result Asks ℕ → List CourseStep
accepted_of endpoints line (Err code) = []
accepted_of endpoints line (Ok (Reports target audit)) = []
accepted_of endpoints line (Ok (Does target deed)) = accepted_for endpoints line target deed

-- of a text that is a command which is executed: a repeat is accepted by no line
abbrev pub accepted_at : Setup → Machine → ℕ → Outcome → List CourseStep
accepted_at setup m line no_header = []
accepted_at setup m line (bad_version id) = []
accepted_at setup m line (bad_body id) = []
accepted_at setup m line (message (messages.Command verb id name params body)) =
    if is_new (look_of most_firsts m.history id m.now)
    then accepted_of m.endpoints line (form_while (serves m.endpoints)
    (record { verb = verb; name = name; params = params; body = body }) (k_of params) setup.names) else []
accepted_at setup m line (message (messages.Response code id params body)) = []

-- The course

-- the texts of a datagram in order: what is accepted comes before what is notified because of it
unfoldable pub course_in : Setup → Machine → ℕ → SocketAddrV4 → List (List ℕ) → List CourseStep
course_in setup m line source [] = []
course_in setup m line source (text ∷ texts) =
    (accepted_at setup m line (read_text text) ++ notified_in line (handled setup m source (read_text text)).sent)
    ++ course_in setup (handled setup m source (read_text text)).value line source texts

-- an act at this telephone
abbrev pub acted_on : ℕ → ℕ → Act → List CourseStep
acted_on line other act = if other == line then acts act ∷ [] else []

abbrev pub course_at : Setup → Machine → ℕ → GatewayEvent → List CourseStep
course_at setup m line (datagram source bytes) = course_in setup m line source (texts_of bytes)
course_at setup m line (phone other act) = acted_on line other act ++ notified_in line (effect setup m (phone other act)).sent
course_at setup m line (tick moment) = notified_in line (effect setup m (tick moment)).sent

-- what happens on a line at these events, in its order
unfoldable pub course_from : Setup → Machine → ℕ → List GatewayEvent → List CourseStep
course_from setup m line [] = []
course_from setup m line (event ∷ events) = course_at setup m line event ++ course_from setup (effect setup m event).value line events

-- from the opening on
abbrev pub course_of : Setup → ℕ → List GatewayEvent → List CourseStep
course_of setup line events = course_from setup (opening setup) line events

-- Parts of it

abbrev pub requests_at : CourseStep → List Request
requests_at (acts act) = []
requests_at (accepts request) = request ∷ []
requests_at (notifies identifier observed) = []

-- the requests that were accepted
abbrev pub requests_in : List CourseStep → List Request
requests_in course = flat_map requests_at course
