-- What becomes of a log as it is told what comes, what is sent and what the gateway does.
use Rattle.std.specs.Prelude.{◌≡◌, ℕ, max, true, List, [], ◌++◌, Some, None}
use Rattle.std.specs.List.{flat_map}
use Rattle.log_format.specs.declared.note.Note.{Note}
use Rattle.log_format.specs.declared.stamp.Stamp.{Stamp}
use Rattle.gateway_core.specs.declared.outcome.TextOutcome.{TextOutcome}
use Rattle.output_queues.specs.Recording.{is_told}
use Rattle.plain_machine.specs.declared.given_up.GivenUpCommand.{GivenUpCommand}
use Rattle.gateway_core.specs.declared.sent.SentMessage.{SentMessage}
use Rattle.gateway_core.specs.Outgoing.{texts_within}
use Rattle.told_messages.specs.declared.log.Log.{Log}
use Rattle.told_messages.specs.Coming.{arrival_text, given_up_text, untaken_text}
use Rattle.told_messages.specs.Recording.{Records}
use Rattle.told_messages.specs.Sending.{datagram_text, last_behind}

-- of an event that the gateway took at a time: what came, and then what it gave up
abbrev pub turned_text : Log → ℕ → List TextOutcome → List GivenUpCommand → List ℕ
turned_text log time outcomes given_up =
    arrival_text log.domain log.own.entries log.came log.arrival outcomes
    ++ flat_map (given_up_text log.domain log.own.entries time) given_up

-- a datagram came so: nothing is said of it yet, but it is known for as long as all is told
abbrev pub Receives : Log → Stamp → List ℕ → ℕ → Log → Type 0
Receives was came bytes late is =
    Records was.record [] is.record
    × (is_told is.record.state ≡ true → (is.came ≡ came) × (is.arrival ≡ Some (record { bytes = bytes; late = late })))
    × (is ≡ record was { «record» = is.record; came = is.came; arrival = is.arrival })

-- the gateway took an event, and what came is told from then on
abbrev pub Turns : Log → ℕ → List TextOutcome → List GivenUpCommand → Log → Type 0
Turns was time outcomes given_up is =
    Records was.record (turned_text was time outcomes given_up) is.record
    × (is_told is.record.state ≡ true → is.arrival ≡ None)
    × (is ≡ record was { «record» = is.record; arrival = is.arrival })

-- a datagram wasn't taken, and nothing is left to be told of it
abbrev pub LeavesOut : Log → Stamp → List ℕ → Note → Log → Type 0
LeavesOut was from bytes why is =
    Records was.record (untaken_text was.domain from bytes why) is.record × (is ≡ record was { «record» = is.record; arrival = None })

-- A datagram was sent that has these messages: that stands in the log, and what its lines sent last is kept for as long as all is told.
abbrev pub Sends : Log → Stamp → List ℕ → List SentMessage → Log → Type 0
Sends was to bytes messages is =
    Records was.record (datagram_text was.domain was.came.moment to (texts_within bytes messages) messages) is.record
    × (is_told is.record.state ≡ true →
    (is.own.entries ≡ last_behind to (texts_within bytes messages) messages was.own.entries) × (is.sent ≡ to.moment))
    × (is ≡ record was { «record» = is.record; own = is.own; sent = is.sent })

-- why commands of the datagram that came last were refused stands behind what was sent at it, and so at no moment before that
abbrev pub explained_at : Log → Stamp
explained_at log = record { moment = max log.sent log.came.moment; peer = log.came.peer }
