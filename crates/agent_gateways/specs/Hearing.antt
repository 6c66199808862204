-- What it is to a board, and to what is counted, that a text came from one of its gateways.
use Rattle.std.specs.Prelude.{◌≡◌, ◌⊎◌, ◌-◌, ℕ, Bool, true, false, is_some, is_err, codes, List, Option, Some, None, IsSomeAnd, Result, Ok, Err, slice_get}
use Rattle.std.specs.Global.{Box}
use Rattle.mg_bytes.specs.Case.{same_but_case}
use Rattle.mgcp_text.specs.declared.message.Verb.{Verb}
use Rattle.mgcp_text.specs.declared.message.Verb.TheVariants.{Epcf, Rqnt, Ntfy, Crcx, Mdcx, Dlcx, Auep, Aucx, Rsip, Other}
use Rattle.mgcp_text.specs.declared.message.Param.{Param}
use Rattle.mgcp_text.specs.declared.message.Message.{Message}
use Rattle.mgcp_text.specs.declared.message.Message.TheVariants.{Command, Response}
use Rattle.mgcp_text.specs.Message.{param_at}
use Rattle.mgcp_text.specs.Reading.{Outcome, message, no_header, bad_version, bad_body, read_text, takes_memory}
use Rattle.endpoint_names.specs.declared.name.Pattern.{Pattern}
use Rattle.endpoint_names.specs.declared.name.Pattern.TheVariants.{One, All, Any}
use Rattle.endpoint_names.specs.declared.name.NameFault.{NameFault}
use Rattle.endpoint_names.specs.Name.{name_of}
use Rattle.agent_log.specs.declared.journal.Journal.{Journal}
use Rattle.agent_log.specs.declared.tally.Tally.{Tally}
use Rattle.agent_log.specs.Counts.{with_announcement, with_answer, with_strange_name}
use Rattle.agent_gateways.specs.declared.flight.Flight.{Flight}
use Rattle.agent_gateways.specs.declared.gateway.Gateway.{Gateway}
use Rattle.line_control.specs.declared.office.Office.{Office}
use Rattle.agent_gateways.specs.declared.switchboard.Switchboard.{Switchboard}
use Rattle.line_control.specs.declared.worklist.Worklist.{Worklist}
use Rattle.agent_gateways.specs.Announcing.{is_new, last_new}
use Rattle.agent_gateways.specs.Boards.{Answers}
use Rattle.agent_gateways.specs.GivingUp.{ended_in, EndsAt}
use Rattle.agent_gateways.specs.Steps.{AnnouncesTo, AtPlace, OthersStay, line_behind}
use Rattle.agent_gateways.specs.Tallying.{counted_if}
use Rattle.line_control.specs.Waiting.{waits, Touches}

-- A response came

-- It answers a command of the exchange to a line, which waits to be settled. Nobody is told where there is no such gateway, or no exchange.
abbrev pub AnswersIn : ℕ → ℕ → List ℕ → Option Gateway → Option (Box Office) → Option Gateway → Option (Box Office) → Type 0
AnswersIn line code text None office after is = is ≡ office
AnswersIn line code text (Some gateway) None after is = is ≡ None
AnswersIn line code text (Some gateway) (Some office) after is =
    IsSomeAnd after (λ g. IsSomeAnd is (λ o. Answers line code text gateway office.value g o.value × Touches line office.value o.value))

-- what was put off by it is kept of the gateway; nothing else of that has changed
abbrev pub PutsOff : Gateway → Gateway → Type 0
PutsOff was is = is ≡ record was { wakes = is.wakes }

abbrev pub AnswersAt : ℕ → ℕ → ℕ → List ℕ → Switchboard → Switchboard → Type 0
AnswersAt place line code text was is =
    AnswersIn line code text (slice_get was.gateways.items place) was.office (slice_get is.gateways.items place) is.office
    × AtPlace place PutsOff was.gateways.items is.gateways.items × OthersStay place was.gateways.items is.gateways.items
    × (is ≡ record was { gateways = is.gateways; office = is.office })

-- a command that was typed is nothing to the exchange
abbrev pub AnswersFor : ℕ → Option ℕ → ℕ → List ℕ → Switchboard → Switchboard → Type 0
AnswersFor place None code text was is = is ≡ was
AnswersFor place (Some line) code text was is = AnswersAt place line code text was is

abbrev pub AnswersFlight : ℕ → Option Flight → ℕ → List ℕ → Switchboard → Switchboard → Type 0
AnswersFlight place None code text was is = is ≡ was
AnswersFlight place (Some flight) code text was is = AnswersFor place flight.line code text was is

-- the command that it answers is over, and was answered so
abbrev pub HearsResponse : ℕ → ℕ → ℕ → List ℕ → Switchboard → Switchboard → Type 0
HearsResponse place id code text was is =
    (ended : Switchboard) × EndsAt place (Some (id, code)) was ended
    × AnswersFlight place (ended_in (Some (id, code)) (slice_get was.gateways.items place)) code text ended is

-- An announcement came

-- under this id that is new to the gateway, by its clock
abbrev pub is_new_to : ℕ → Option Gateway → Bool
is_new_to id None = false
is_new_to id (Some gateway) = is_new gateway.announced id gateway.ticked

abbrev pub Notes : ℕ → Gateway → Gateway → Type 0
Notes id was is = is ≡ record was { announced = last_new was.announced id was.ticked }

abbrev pub NotesAt : ℕ → ℕ → Switchboard → Switchboard → Type 0
NotesAt place id was is =
    AtPlace place (Notes id) was.gateways.items is.gateways.items × OthersStay place was.gateways.items is.gateways.items
    × (is ≡ record was { gateways = is.gateways })

-- how the lines are announced: by its parameter; without that, as started again (RFC 3435, 2.3.12 and 3.2.2.13)
abbrev pub method_of : Option Param → List ℕ
method_of None = codes "restart"
method_of (Some param) = param.value

-- those that its name means have started again, or lost their agent; any other word is nothing to the exchange
abbrev pub AnnouncesAs : Bool → Bool → List ℕ → Option Gateway → Option (Box Office) → Option (Box Office) → Type 0
AnnouncesAs true is_disconnected name gateway was is = AnnouncesTo true name gateway was is
AnnouncesAs false true name gateway was is = AnnouncesTo false name gateway was is
AnnouncesAs false false name gateway was is = is ≡ was

abbrev pub AnnouncesWith : List ℕ → List ℕ → Option Gateway → Option (Box Office) → Option (Box Office) → Type 0
AnnouncesWith method name gateway was is =
    AnnouncesAs (same_but_case method (codes "restart")) (same_but_case method (codes "disconnected")) name gateway was is

-- one that isn't new is nothing to it
abbrev pub AnnouncesNew : Bool → List ℕ → List ℕ → Option Gateway → Option (Box Office) → Option (Box Office) → Type 0
AnnouncesNew false method name gateway was is = is ≡ was
AnnouncesNew true method name gateway was is = AnnouncesWith method name gateway was is

abbrev pub HearsAnnouncement : ℕ → ℕ → List ℕ → List Param → Switchboard → Switchboard → Type 0
HearsAnnouncement place id name params was is =
    (noted : Switchboard) × NotesAt place id was noted
    × AnnouncesNew (is_new_to id (slice_get was.gateways.items place)) (method_of (param_at (codes "RM") params)) name
    (slice_get noted.gateways.items place) noted.office is.office
    × (is ≡ record noted { office = is.office })

-- A notification came

-- the line that the name means, if it means one
abbrev pub line_meant : ℕ → Result Pattern NameFault → Option ℕ
line_meant first (Ok (One line)) = Some (line_behind first (line - 1))
line_meant first (Ok All) = None
line_meant first (Ok Any) = None
line_meant first (Err fault) = None

abbrev pub notified_line : List ℕ → Option Gateway → Option ℕ
notified_line name None = None
notified_line name (Some gateway) = line_meant gateway.first (name_of name gateway.domain gateway.lines)

-- it waits to be taken, as all do that waited; those that are taken now are the same
abbrev pub Waits : Option ℕ → Worklist → Worklist → Type 0
Waits None was is = is ≡ was
Waits (Some line) was is =
    (waits is.waiting.items is.is_all line ≡ true)
    × ((other : ℕ) → waits was.waiting.items was.is_all other ≡ true → waits is.waiting.items is.is_all other ≡ true)
    × (is ≡ record was { waiting = is.waiting; is_all = is.is_all })

abbrev pub HearsNotification : ℕ → List ℕ → Switchboard → Switchboard → Type 0
HearsNotification place name was is =
    Waits (notified_line name (slice_get was.gateways.items place)) was.notifying is.notifying
    × (is ≡ record was { notifying = is.notifying })

-- A message came, or what is none

abbrev pub HearsCommand : Verb → ℕ → ℕ → List ℕ → List Param → Switchboard → Switchboard → Type 0
HearsCommand Epcf place id name params was is = is ≡ was
HearsCommand Rqnt place id name params was is = is ≡ was
HearsCommand Ntfy place id name params was is = HearsNotification place name was is
HearsCommand Crcx place id name params was is = is ≡ was
HearsCommand Mdcx place id name params was is = is ≡ was
HearsCommand Dlcx place id name params was is = is ≡ was
HearsCommand Auep place id name params was is = is ≡ was
HearsCommand Aucx place id name params was is = is ≡ was
HearsCommand Rsip place id name params was is = HearsAnnouncement place id name params was is
HearsCommand Other place id name params was is = is ≡ was

abbrev pub HearsMessage : Message → ℕ → List ℕ → Switchboard → Switchboard → Type 0
HearsMessage (Response code id params body) place text was is = HearsResponse place id code text was is
HearsMessage (Command verb id name params body) place text was is = HearsCommand verb place id name params was is

abbrev pub HearsOutcome : Outcome → ℕ → List ℕ → Switchboard → Switchboard → Type 0
HearsOutcome (message said) place text was is = HearsMessage said place text was is
HearsOutcome no_header place text was is = is ≡ was
HearsOutcome (bad_version id) place text was is = is ≡ was
HearsOutcome (bad_body id) place text was is = is ≡ was

-- where memory is refused for reading it, it may have been a notification of any line: all wait to be taken, and nothing else has changed
abbrev pub HearsUnread : Switchboard → Switchboard → Type 0
HearsUnread was is = is ≡ record was { notifying = record was.notifying { is_all = true } }

-- What counts

abbrev pub response_counted : ℕ → ℕ → Option Gateway → Tally → Tally
response_counted id code gateway tally = counted_if (is_some (ended_in (Some (id, code)) gateway)) with_answer tally

abbrev pub announcement_counted : ℕ → Option Gateway → Tally → Tally
announcement_counted id gateway tally = counted_if (is_new_to id gateway) with_announcement tally

abbrev pub command_counted : Verb → ℕ → Option Gateway → Tally → Tally
command_counted Epcf id gateway tally = tally
command_counted Rqnt id gateway tally = tally
command_counted Ntfy id gateway tally = tally
command_counted Crcx id gateway tally = tally
command_counted Mdcx id gateway tally = tally
command_counted Dlcx id gateway tally = tally
command_counted Auep id gateway tally = tally
command_counted Aucx id gateway tally = tally
command_counted Rsip id gateway tally = announcement_counted id gateway tally
command_counted Other id gateway tally = tally

abbrev pub message_counted : Message → Option Gateway → Tally → Tally
message_counted (Response code id params body) gateway tally = response_counted id code gateway tally
message_counted (Command verb id name params body) gateway tally = command_counted verb id gateway tally

-- a command under a name that its gateway doesn't have
abbrev pub is_strange_at : List ℕ → Option Gateway → Bool
is_strange_at name None = false
is_strange_at name (Some gateway) = is_err (name_of name gateway.domain gateway.lines)

abbrev pub is_strange : Message → Option Gateway → Bool
is_strange (Response code id params body) gateway = false
is_strange (Command verb id name params body) gateway = is_strange_at name gateway

abbrev pub outcome_counted : Outcome → Option Gateway → Tally → Tally
outcome_counted (message said) gateway tally =
    message_counted said gateway (counted_if (is_strange said gateway) with_strange_name tally)
outcome_counted no_header gateway tally = tally
outcome_counted (bad_version id) gateway tally = tally
outcome_counted (bad_body id) gateway tally = tally

-- A text came. It is what it is read as, and counts so; or memory is refused for reading it, where that takes any, and nothing is told.
abbrev pub HearsText : ℕ → List ℕ → Switchboard → Journal → Switchboard → Journal → Type 0
HearsText place text was told is tells =
    (HearsOutcome (read_text text) place text was is
    × (tells.tally ≡ outcome_counted (read_text text) (slice_get was.gateways.items place) told.tally))
    ⊎ ((takes_memory (read_text text) ≡ true) × HearsUnread was is × (tells ≡ told))
