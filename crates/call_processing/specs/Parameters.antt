-- Commands as they are written: the verb, the parameter lines, and the description behind them (RFC 3435, 2.3.3 to 2.3.7,
-- 3.2.1 and 3.2.2). Which events and signals stand in a request is this exchange's profile.
use Rattle.std.specs.Prelude.{ℕ, if◌then◌else◌, Bool, true, false, List, [], ◌++◌, Option, Some, None, codes, decimal, slice_get}
use Rattle.call_processing.specs.declared.phase.Phase.{Phase}
use Rattle.call_processing.specs.declared.phase.Phase.TheVariants.{Resting, Dialling, Hearing, InCall}
use Rattle.call_processing.specs.declared.asked.Asked.{Asked}
use Rattle.call_processing.specs.declared.asked.Asked.TheVariants.{Rest, Digits, Ring, Ringback, BusyTone, ReorderTone, Talk}
use Rattle.call_processing.specs.declared.command.Command.{Command}
use Rattle.call_processing.specs.declared.command.Command.TheVariants.{Ask, Create, Modify, Delete}
use Rattle.call_processing.specs.declared.line.Leg.{Leg}
use Rattle.call_processing.specs.declared.line.Leg.TheVariants.{Absent, Unknown, Standing}
use Rattle.call_processing.specs.declared.line.Line.{Line}
use Rattle.call_processing.specs.Exchange.{ExchangeState, phase_of, line_of}

abbrev pub verb_of : Command → List ℕ
verb_of (Ask asked) = codes "RQNT"
verb_of (Create call joined) = codes "CRCX"
verb_of (Modify call) = codes "MDCX"
verb_of (Delete call) = codes "DLCX"

-- a parameter line that begins so
abbrev pub named_line : List ℕ → List ℕ → List ℕ
named_line name value = name ++ (value ++ codes "\r\n")

-- Requests (2.3.3): a request without S stops every signal

abbrev pub asked_text : Asked → List ℕ
asked_text Rest = codes "X: 1\r\nR: L/hd(N)\r\n"
asked_text Digits = codes "X: 2\r\nR: L/hu(N),L/oc(N),D/[0-9ABCD*#T](D)\r\nS: L/dl\r\n"
asked_text Ring = codes "X: 3\r\nR: L/hd(N),L/oc(N)\r\nS: L/rg\r\n"
asked_text Ringback = codes "X: 4\r\nR: L/hu(N),G/oc(N)\r\nS: G/rt\r\n"
asked_text BusyTone = codes "X: 5\r\nR: L/hu(N)\r\nS: L/bz\r\n"
asked_text ReorderTone = codes "X: 6\r\nR: L/hu(N)\r\nS: L/ro\r\n"
asked_text Talk = codes "X: 7\r\nR: L/hu(N)\r\n"

-- digits are asked for by the digit map (2.1.5)
abbrev pub map_line : Asked → List ℕ → List ℕ
map_line Digits map = named_line (codes "D: ") map
map_line Rest map = []
map_line Ring map = []
map_line Ringback map = []
map_line BusyTone map = []
map_line ReorderTone map = []
map_line Talk map = []

abbrev pub request_lines : Asked → List ℕ → List ℕ
request_lines asked map = asked_text asked ++ map_line asked map

-- Connections (2.3.5 to 2.3.7)

abbrev pub call_line : ℕ → List ℕ
call_line call = named_line (codes "C: ") (decimal call)

-- the connection, where one is known to stand; else all of the call are meant
abbrev pub connection_line : Leg → List ℕ
connection_line (Standing call connection description) = named_line (codes "I: ") connection
connection_line Absent = []
connection_line (Unknown call) = []

-- towards the other end, whose description this is, in both directions
abbrev pub towards : List ℕ → List ℕ
towards description = codes "M: sendrecv\r\n\r\n" ++ description

-- without the other end's description a connection only receives
abbrev pub mode_lines : Bool → List ℕ → List ℕ
mode_lines joined description = if joined then towards description else codes "M: recvonly\r\n"

abbrev pub creation_lines : ℕ → Bool → List ℕ → List ℕ
creation_lines call joined description = call_line call ++ mode_lines joined description

abbrev pub deletion_lines : ℕ → Leg → List ℕ
deletion_lines call leg = call_line call ++ connection_line leg

abbrev pub change_lines : ℕ → Leg → List ℕ → List ℕ
change_lines call leg description = deletion_lines call leg ++ towards description

-- by the connection of the line, the description of the other end, and the digit map
abbrev pub command_lines : Command → Leg → List ℕ → List ℕ → List ℕ
command_lines (Ask asked) leg description map = request_lines asked map
command_lines (Create call joined) leg description map = creation_lines call joined description
command_lines (Modify call) leg description map = change_lines call leg description
command_lines (Delete call) leg description map = deletion_lines call leg

abbrev pub flight_lines : Option Command → Leg → List ℕ → List ℕ → List ℕ
flight_lines None leg description map = []
flight_lines (Some command) leg description map = command_lines command leg description map

-- Of an exchange

abbrev pub description_in : Leg → List ℕ
description_in (Standing call connection description) = description
description_in Absent = []
description_in (Unknown call) = []

abbrev pub description_on : Option Line → List ℕ
description_on None = []
description_on (Some line) = description_in line.leg

abbrev pub description_by : List Line → Option Phase → List ℕ
description_by lines (Some (InCall part)) = description_on (slice_get lines part.other)
description_by lines (Some Resting) = []
description_by lines (Some Dialling) = []
description_by lines (Some (Hearing tone)) = []
description_by lines None = []

-- the description of the connection at the other end of a line's call
abbrev pub description_of_other : ExchangeState → ℕ → List ℕ
description_of_other exchange line = description_by exchange.lines (phase_of exchange line)

abbrev pub parameters_by : Option Line → List ℕ → List ℕ → List ℕ
parameters_by None description map = []
parameters_by (Some line) description map = flight_lines line.flight line.leg description map

-- what stands behind the command line of the command in flight to a line
abbrev pub parameters_of : ExchangeState → ℕ → List ℕ → List ℕ
parameters_of exchange line map = parameters_by (line_of exchange line) (description_of_other exchange line) map

-- the call of which a command carries the description of the other end, if it carries one
abbrev pub gives : Command → Option ℕ
gives (Ask asked) = None
gives (Create call true) = Some call
gives (Create call false) = None
gives (Modify call) = Some call
gives (Delete call) = None

abbrev pub leg_in : Option Line → Option Leg
leg_in None = None
leg_in (Some line) = Some line.leg

-- the connection of a line
abbrev pub leg_of : ExchangeState → ℕ → Option Leg
leg_of exchange line = leg_in (line_of exchange line)
