-- Which turn of the exchange it is that something has happened to a line: what the exchange is then.
use Rattle.std.specs.Prelude.{◌≡◌, ◌⊎◌, ℕ, Bool, true, false, if◌then◌else◌, List, Option, Some, None, slice_get}
use Rattle.mgcp_text.specs.Reading.{read_text}
use Rattle.call_processing.specs.declared.told.Told.{Told}
use Rattle.call_processing.specs.declared.told.Told.TheVariants.{Flash, Restarted}
use Rattle.call_processing.specs.declared.command.Outcome.{Outcome}
use Rattle.call_processing.specs.declared.command.Outcome.TheVariants.{GivenUp}
use Rattle.call_processing.specs.Exchange.{ExchangeState, phase_of, line_of, flight_in, told, answered, put_off_at, cleared_at}
use Rattle.line_control.specs.declared.care.Duty.{Duty}
use Rattle.line_control.specs.declared.care.Duty.TheVariants.{Clear, Audit, Route}
use Rattle.line_control.specs.declared.care.Care.{Care}
use Rattle.line_control.specs.Duties.{found, landed, lost, duty_answered, routed_by}
use Rattle.line_control.specs.Hooks.{hook_by, was_off, told_by_hook, is_off_hook}
use Rattle.line_control.specs.Orders.{flight_of, has_told, is_put_off_in, cared}
use Rattle.line_control.specs.Responses.{is_creation, outcome_by}

-- a command to the line that was for this was given up: one of the exchange's own is answered so
abbrev pub forsaken : ExchangeState → ℕ → Option Duty → ExchangeState
forsaken exchange line None = exchange
forsaken exchange line (Some Clear) = exchange
forsaken exchange line (Some Audit) = exchange
forsaken exchange line (Some Route) = answered exchange line GivenUp

-- a notification of the line was this
abbrev pub heard_by : ExchangeState → ℕ → Option Told → ExchangeState
heard_by exchange line None = exchange
heard_by exchange line (Some event) = told exchange line event

-- the line was announced
abbrev pub announced_by : Bool → ExchangeState → ℕ → ExchangeState
announced_by is_restart exchange line = if is_restart then told exchange line Restarted else exchange

-- what a final response with this code says became of the exchange's command to the line
abbrev pub outcome_with : ExchangeState → ℕ → ℕ → List ℕ → Outcome
outcome_with exchange line code text = outcome_by code (flight_in (line_of exchange line)) text

-- this became of it, at this moment; and what is kept of the line is as that puts it off, if it does
abbrev pub Routes : Outcome → ℕ → ℕ → ExchangeState → List Care → ExchangeState → List Care → Type 0
Routes outcome line moment was cares is kept =
    (is ≡ answered was line outcome) × (kept ≡ cared (routed_by moment (put_off_at was line outcome)) cares line)

-- what is kept once a duty beside the exchange was answered by this code
abbrev pub kept_behind : Duty → ℕ → ℕ → ℕ → List Care → List Care
kept_behind duty line moment code cares = cared (duty_answered moment code duty) cares line

-- what the exchange is told of the line by an answer to an audit of it
abbrev pub told_by_audit : ExchangeState → ℕ → List ℕ → Told
told_by_audit exchange line text = told_by_hook (hook_by (read_text text)) (was_off (phase_of exchange line))

-- by an audit the exchange is told this of the line, and whether its handset was found lifted is kept
abbrev pub TellsAudit : Told → ℕ → ExchangeState → List Care → ExchangeState → List Care → Type 0
TellsAudit event line was cares is kept = (is ≡ told was line event) × (kept ≡ cared (found (is_off_hook (Some event))) cares line)

-- An answer to an audit of the line is taken, where nothing that the line told is newer. Where memory is refused for reading it no hook is
-- told.
abbrev pub TakesAudit : Bool → ℕ → List ℕ → ExchangeState → List Care → ExchangeState → List Care → Type 0
TakesAudit true line text was cares is kept = (is ≡ was) × (kept ≡ cares)
TakesAudit false line text was cares is kept =
    TellsAudit (told_by_audit was line text) line was cares is kept ⊎ TellsAudit Flash line was cares is kept

-- an audit was answered by this code: it is put off, or taken
abbrev pub AnswersAudit : Bool → ℕ → List ℕ → ExchangeState → List Care → ExchangeState → List Care → Type 0
AnswersAudit true line text was cares is kept = (is ≡ was) × (kept ≡ cares)
AnswersAudit false line text was cares is kept = TakesAudit (has_told (slice_get cares line)) line text was cares is kept

-- a deletion of all that the line has was answered by this code: it is put off, or over
abbrev pub cleared_by : Bool → ExchangeState → ℕ → ℕ → ExchangeState
cleared_by true exchange line code = exchange
cleared_by false exchange line code = cleared_at exchange line code

-- A final response with this code is taken, at this moment, to a command to the line that was for this, and has landed. Where memory is
-- refused for reading what it says was created, a command of the exchange counts as given up; of any other answer the code says all.
abbrev pub TakesResponse : Option Duty → ℕ → ℕ → ℕ → List ℕ → ExchangeState → List Care → ExchangeState → List Care → Type 0
TakesResponse None line moment code text was cares is kept = (is ≡ was) × (kept ≡ cares)
TakesResponse (Some Clear) line moment code text was cares is kept =
    (is ≡ cleared_by (is_put_off_in code (slice_get cares line)) was line code) × (kept ≡ kept_behind Clear line moment code cares)
TakesResponse (Some Audit) line moment code text was cares is kept =
    AnswersAudit (is_put_off_in code (slice_get cares line)) line text was (kept_behind Audit line moment code cares) is kept
TakesResponse (Some Route) line moment code text was cares is kept =
    Routes (outcome_with was line code text) line moment was cares is kept
    ⊎ ((is_creation code (flight_in (line_of was line)) ≡ true) × Routes GivenUp line moment was cares is kept)

-- The command in flight to the line was answered so, whose gateway has started again since, or hasn't: it counts as given up, or its answer
-- is taken.
abbrev pub TakesAnswer :
    Bool → ℕ → ℕ → ℕ → List ℕ → ExchangeState → List Care → ExchangeState → List Care → Type 0
TakesAnswer true line moment code text was cares is kept =
    (is ≡ forsaken was line (flight_of (slice_get cares line))) × (kept ≡ cared lost cares line)
TakesAnswer false line moment code text was cares is kept =
    TakesResponse (flight_of (slice_get cares line)) line moment code text was (cared landed cares line) is kept
