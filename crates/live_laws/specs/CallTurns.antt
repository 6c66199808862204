-- All that happens to an exchange, turn after turn, in whatever order its owner takes it.
use Rattle.std.specs.Prelude.{◌≡◌, ◌≢◌, ◌⊎◌, ℕ, ◌+◌, ◌==◌, ◌&&◌, not, is_some, is_none, Bool, true, false, List, [], ◌∷◌, ◌++◌, Option, Some, None}
use Rattle.std.specs.List.{list_all}
use Rattle.call_processing.specs.declared.phase.Phase.TheVariants.{Resting}
use Rattle.call_processing.specs.declared.told.Told.{Told}
use Rattle.call_processing.specs.declared.told.Told.TheVariants.{OffHook, OnHook, Flash, Dialled, TimedOut, Restarted, Disconnected}
use Rattle.call_processing.specs.declared.asked.Asked.TheVariants.{Rest}
use Rattle.call_processing.specs.declared.command.Command.{Command}
use Rattle.call_processing.specs.declared.command.Command.TheVariants.{Ask, Create, Modify, Delete}
use Rattle.call_processing.specs.declared.command.Outcome.{Outcome}
use Rattle.call_processing.specs.declared.command.Outcome.TheVariants.{Created, Answered, GivenUp}
use Rattle.call_processing.specs.declared.line.Leg.{Leg}
use Rattle.call_processing.specs.declared.line.Leg.TheVariants.{Absent, Unknown, Standing}
use Rattle.call_processing.specs.declared.line.Line.{Line}
use Rattle.call_processing.specs.Phases.{named_by}
use Rattle.call_processing.specs.Fates.{is_success, is_deleted, times_of}
use Rattle.call_processing.specs.Next.{stands_for}
use Rattle.call_processing.specs.Exchange.{ExchangeState, phase_of, line_of, flight_in, told, answered, put_off_at, cleared_at, due, sent_to}

-- a line tells something; what became of the command in flight to a line; what is to be sent to a line is sent; a deletion of all that
-- a line has was answered by a code
pub data Turn : Type 0 where
  tells : (line : ℕ) (event : Told) → Turn
  answers : (line : ℕ) (outcome : Outcome) → Turn
  sends : (line : ℕ) → Turn
  clears : (line code : ℕ) → Turn

-- the exchange after one
abbrev pub after_one : ExchangeState → Turn → ExchangeState
after_one exchange (tells line event) = told exchange line event
after_one exchange (answers line outcome) = answered exchange line outcome
after_one exchange (sends line) = sent_to exchange line
after_one exchange (clears line code) = cleared_at exchange line code

-- the exchange after all of them
unfoldable pub after : ExchangeState → List Turn → ExchangeState
after exchange [] = exchange
after exchange (turn ∷ turns) = after (after_one exchange turn) turns

-- Commands

abbrev pub is_flying : Option Line → Bool
is_flying None = false
is_flying (Some line) = is_some line.flight

-- a command to the line is in flight
abbrev pub is_in_flight : ExchangeState → ℕ → Bool
is_in_flight exchange line = is_flying (line_of exchange line)

abbrev pub is_given_up : Outcome → Bool
is_given_up (Created connection description) = false
is_given_up (Answered code) = false
is_given_up GivenUp = true

-- 1 if it is so
abbrev pub count_if : Bool → ℕ
count_if true = 1
count_if false = 0

-- the turn sends a command to the line
abbrev pub is_sent : ℕ → ExchangeState → Turn → Bool
is_sent line exchange (tells of event) = false
is_sent line exchange (answers of outcome) = false
is_sent line exchange (sends of) = of == line && is_some (due exchange of)
is_sent line exchange (clears of code) = false

-- the turn says what became of a command to the line
abbrev pub is_answered : ℕ → ExchangeState → Turn → Bool
is_answered line exchange (tells of event) = false
is_answered line exchange (answers of outcome) = of == line && is_in_flight exchange of
is_answered line exchange (sends of) = false
is_answered line exchange (clears of code) = false

-- the turn answers a command to the line, by whatever return code
abbrev pub is_coded : ℕ → ExchangeState → Turn → Bool
is_coded line exchange (tells of event) = false
is_coded line exchange (answers of outcome) = of == line && (is_in_flight exchange of && not (is_given_up outcome))
is_coded line exchange (sends of) = false
is_coded line exchange (clears of code) = false

-- the turn puts a command to the line off
abbrev pub is_put_off : ℕ → ExchangeState → Turn → Bool
is_put_off line exchange (tells of event) = false
is_put_off line exchange (answers of outcome) = of == line && is_some (put_off_at exchange of outcome)
is_put_off line exchange (sends of) = false
is_put_off line exchange (clears of code) = false

-- the turn answers a command to the line, by a code that doesn't put it off
abbrev pub is_settled : ℕ → ExchangeState → Turn → Bool
is_settled line exchange turn = is_coded line exchange turn && not (is_put_off line exchange turn)

-- how many turns are so, each as it finds the exchange
unfoldable pub count_turns : (ExchangeState → Turn → Bool) → ExchangeState → List Turn → ℕ
count_turns test exchange [] = 0
count_turns test exchange (turn ∷ turns) =
    count_if (test exchange turn) + count_turns test (after_one exchange turn) turns

abbrev pub command_to : ℕ → Option Command → List (ℕ × Command)
command_to line None = []
command_to line (Some command) = (line, command) ∷ []

abbrev pub sent_in : ExchangeState → Turn → List (ℕ × Command)
sent_in exchange (tells line event) = []
sent_in exchange (answers line outcome) = []
sent_in exchange (sends line) = command_to line (due exchange line)
sent_in exchange (clears line code) = []

-- the commands that are sent, with their lines, in order
unfoldable pub commands_in : ExchangeState → List Turn → List (ℕ × Command)
commands_in exchange [] = []
commands_in exchange (turn ∷ turns) = sent_in exchange turn ++ commands_in (after_one exchange turn) turns

-- Rest

abbrev pub dials : ℕ → Told → Bool
dials line OffHook = false
dials line OnHook = false
dials line Flash = false
dials line (Dialled None) = false
dials line (Dialled (Some to)) = to == line
dials line TimedOut = false
dials line Restarted = false
dials line Disconnected = false

-- nothing is done at the line's telephone, and nobody dials the line
abbrev pub leaves_alone : ℕ → Turn → Bool
leaves_alone line (tells of event) = not (of == line) && not (dials line event)
leaves_alone line (answers of outcome) = true
leaves_alone line (sends of) = true
leaves_alone line (clears of code) = true

abbrev pub AreQuietFor : ℕ → List Turn → Type 0
AreQuietFor line turns = list_all (leaves_alone line) turns ≡ true

-- the line has no connection, neither one that is known nor one that may stand; it is asked for off hook alone, so that nothing
-- is heard at it; and nothing is in flight to it
pub record IsClear (line : Line) : Type 0 where
  pub no_connection : line.leg ≡ Absent
  pub no_signal : line.asked ≡ Some Rest
  pub no_command : line.flight ≡ None

-- a line is in no call, and clear
pub record IsAtRest (exchange : ExchangeState) (line : ℕ) : Type 0 where
  pub no_call : phase_of exchange line ≡ Some Resting
  pub clear : (is : Line) → line_of exchange line ≡ Some is → IsClear is

-- What is on record

abbrev pub is_request : Option Command → Bool
is_request None = false
is_request (Some (Ask asked)) = true
is_request (Some (Create call joined)) = false
is_request (Some (Modify call)) = false
is_request (Some (Delete call)) = false

abbrev pub is_creation : Option Command → Bool
is_creation None = false
is_creation (Some (Ask asked)) = false
is_creation (Some (Create call joined)) = true
is_creation (Some (Modify call)) = false
is_creation (Some (Delete call)) = false

-- the line is on record as asked for something, which it hasn't refused, and nothing else is asked of it just now
abbrev pub is_asked_on : Option Line → Bool
is_asked_on None = false
is_asked_on (Some line) = is_some line.asked && (is_none line.refused && not (is_request line.flight))

abbrev pub is_absent : Leg → Bool
is_absent Absent = true
is_absent (Unknown call) = false
is_absent (Standing call connection description) = false

-- the line is on record without a connection, and none is left there
abbrev pub is_bare : Option Line → Bool
is_bare None = true
is_bare (Some line) = is_absent line.leg && is_none line.left

-- the outcome says that the command was executed
abbrev pub says_done : Outcome → Bool
says_done (Created connection description) = true
says_done (Answered code) = is_success code
says_done GivenUp = false

-- the turn says that the line accepted a request
abbrev pub accepts : ℕ → ExchangeState → Turn → Bool
accepts line exchange (tells of event) = false
accepts line exchange (answers of outcome) = of == line && (is_request (flight_in (line_of exchange of)) && says_done outcome)
accepts line exchange (sends of) = false
accepts line exchange (clears of code) = false

-- the outcome of CRCX says that no connection was made
abbrev pub makes_none : Outcome → Bool
makes_none (Created connection description) = false
makes_none (Answered code) = not (is_success code)
makes_none GivenUp = false

-- the outcome of DLCX says that there is no such connection any more: it was executed, or there was none
abbrev pub leaves_none : Outcome → Bool
leaves_none (Created connection description) = true
leaves_none (Answered code) = is_deleted code
leaves_none GivenUp = false

abbrev pub ends_by : Option Command → Outcome → Bool
ends_by None outcome = false
ends_by (Some (Ask asked)) outcome = false
ends_by (Some (Create call joined)) outcome = makes_none outcome
ends_by (Some (Modify call)) outcome = false
ends_by (Some (Delete call)) outcome = leaves_none outcome

abbrev pub is_restart : Told → Bool
is_restart OffHook = false
is_restart OnHook = false
is_restart Flash = false
is_restart (Dialled to) = false
is_restart TimedOut = false
is_restart Restarted = true
is_restart Disconnected = false

-- the turn says that the line has no connection: its gateway has started again; none was made, or there is none any more
abbrev pub ends : ℕ → ExchangeState → Turn → Bool
ends line exchange (tells of event) = of == line && is_restart event
ends line exchange (answers of outcome) = of == line && ends_by (flight_in (line_of exchange of)) outcome
ends line exchange (sends of) = false
ends line exchange (clears of code) = of == line && is_deleted code

-- how a command that was refused is on record: put off, one more in a row, or else
abbrev pub IsPutOffOr : Line → Line → Type 0 → Type 0
IsPutOffOr was is other = (times_of is.put_off ≡ times_of was.put_off + 1) ⊎ other

-- the connection stands for this call, with the description of the other end
abbrev pub IsConnected : ℕ → Line → Type 0
IsConnected call line = (stands_for call line.leg ≡ true) × (line.joined ≡ true)

-- Whom a turn concerns

-- another line than this one, and at the other end of its call neither before nor behind what happens to it
pub record IsApart (old new : ExchangeState) (line other : ℕ) : Type 0 where
  pub itself : line ≢ other
  pub was : named_by (phase_of old line) ≢ Some other
  pub then_is : named_by (phase_of new line) ≢ Some other

-- nothing has changed of a line: its phase, what is known of it, and what it is to be sent
pub record IsAsBefore (old new : ExchangeState) (line : ℕ) : Type 0 where
  pub phase : phase_of new line ≡ phase_of old line
  pub known : line_of new line ≡ line_of old line
  pub owed : due new line ≡ due old line
