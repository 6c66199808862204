-- What was handed to an exchange: to the sockets, or to the bad network before them; and what came to it.
use Rattle.std.specs.Prelude.{◌≡◌, ◌⊎◌, ⊤, ℕ, ◌+◌, nat_lt, if◌then◌else◌, Bool, true, false, List, [], ◌∷◌, map, Option, Some, None, IsSome, is_some, Result, Ok, Err, IsErr}
use Rattle.std.specs.Global.{Box}
use Rattle.impairment.specs.declared.fate.Fate.{Fate}
use Rattle.impairment.specs.declared.fate.Fate.TheVariants.{Lost as NeverComes, Once, Twice}
use Rattle.impairment.specs.declared.packet.Way.TheVariants.{In, Out}
use Rattle.impairment.specs.Waiting.{first_due}
use Rattle.gateway_core.specs.GatewayState.{GatewayState}
use Rattle.gateway_core.specs.Wire.{counted}
use Rattle.message_counts.specs.Counting.{counts_in, with_texts}
use Rattle.message_counts.specs.Places.{with_sends}
use Rattle.message_counts.specs.SentCounting.{tally_in, with_sent, with_given_up}
use Rattle.message_counts.specs.Tallying.{with_handed_out, CountsNoDatagram}
use Rattle.message_counts.specs.Waiting.{unanswered_after}
use Rattle.message_counts.specs.declared.reporting.Faults.{Faults}
use Rattle.page_state.specs.declared.ring.Kind.TheVariants.{Sent as OfSent}
use Rattle.gateway_core.specs.declared.outcome.TextOutcome.{TextOutcome}
use Rattle.plain_machine.specs.Event.{GatewayEvent, datagram}
use Rattle.gateway_core.specs.declared.sent.SentMessage.{SentMessage}
use Rattle.told_messages.specs.Labelling.{sent_label}
use Rattle.told_messages.specs.Logging.{Sends, Turns}
use Rattle.told_messages.specs.Recording.{Records, unsent_text}
use Rattle.told_messages.specs.Showing.{GoesOn, HappenedWith, Turned}
use Rattle.told_messages.specs.declared.log.Log.{Log}
use Rattle.live_system.specs.Waiting.{longest_wait}
use Rattle.live_journal.specs.Capturing.{Captures}
use Rattle.live_journal.specs.Spoiling.{fate_note, Notes as NotesOf}
use Rattle.live_play.specs.Coming.{Came}
use Rattle.live_play.specs.Readable.{first_unread}
use Rattle.live_play.specs.Running.{Live, TakesBy}
use Rattle.std.specs.declared.net.socket_addr.SocketAddrV4.{SocketAddrV4}
use Rattle.live_io.specs.Sending.{Sent, Received, Traffic, found_by}
use Rattle.live_io.specs.Speaking.{Admitted}
use Rattle.live_io.specs.declared.surroundings.Fault.{Fault}
use Rattle.traces.specs.Writing.{Input}
use Rattle.traces.specs.declared.telling.Mark.{Mark}
use Rattle.traces.specs.declared.telling.Mark.TheVariants.{Unsent, Lost}
use Rattle.live_gateway.specs.declared.admission.Admission.{Admission}
use Rattle.live_gateway.specs.declared.exchange.Exchange.{Exchange}
use Rattle.live_gateway.specs.declared.spoilt_way.SpoiltWay.{SpoiltWay}
use Rattle.live_gateway.specs.Admitting.{is_heard, HeardSince}
use Rattle.live_gateway.specs.Noting.{with_looked, SaysWhy, SaysUntaken, SaysUnheard}
use Rattle.live_gateway.specs.Offering.{offered_by, came_over, Offers}

-- where who takes it tells that: sockets in memory do, and a network that keeps what it is offered
abbrev pub handed_by : Option (Box SpoiltWay) → Option (List Sent) → Option (List Sent)
handed_by None sent = sent
handed_by (Some way) sent = offered_by way.value

-- what the socket received; where a bad network is before it, what that handed over, if it keeps that
abbrev pub received_by : Option (Box SpoiltWay) → Option (List Received) → Option (List Received)
received_by None received = received
received_by (Some way) received = came_over way.value

-- what came to it, and how many inputs were refused
abbrev pub came_by : {S : Type 0} → (S → Traffic) → Exchange S → Came
came_by traffic exchange = record {
  received = received_by exchange.network (traffic exchange.around).received;
  refused = exchange.faults.refused;
}

-- when the bad network hands out what it holds, if it will
abbrev pub next_due : Option (Box SpoiltWay) → Option ℕ
next_due None = None
next_due (Some way) = first_due way.value.network.waiting.items

-- the moment that the clock tells; where it fails, or tells one that no trace has read again, the one to which ticks have come
abbrev pub moment_at : Result ℕ Fault → ℕ → ℕ
moment_at (Ok moment) ticked = if nat_lt moment first_unread then moment else ticked
moment_at (Err fault) ticked = ticked

-- so many inputs were refused, with one that was refused or taken
abbrev pub refusals : Bool → ℕ → ℕ
refusals true refused = counted refused 1
refusals false refused = refused

-- an input was refused, or taken
abbrev pub with_refused : Bool → Faults → Faults
with_refused true faults = record faults { refused = counted faults.refused 1 }
with_refused false faults = faults

-- nothing failed
abbrev pub faultless : Faults
faultless = record { refused = 0; receive = 0; send = 0 }

-- nothing could be received, or the clock not be read
abbrev pub with_unreceived : Faults → Faults
with_unreceived faults = record faults { receive = counted faults.receive 1 }

-- that the clock failed counts, or told a moment that no trace has read again
abbrev pub faults_by : {E : Type 0} → Result ℕ E → Faults → Faults
faults_by (Ok moment) faults = if nat_lt moment first_unread then faults else with_unreceived faults
faults_by (Err fault) faults = with_unreceived faults

-- that a wait failed counts
abbrev pub faults_behind : {E : Type 0} → Result ⊤ E → Faults → Faults
faults_behind (Ok waited) faults = faults
faults_behind (Err fault) faults = with_unreceived faults

-- it waited for so long at most, but no longer than until what waits to be taken is offered again, and did nothing else with what is
-- around it; that this failed counts, once
abbrev pub Waits : {S : Type 0} → (S → ℕ → Result ⊤ Fault → S → Type 0) → ℕ → Exchange S → Exchange S → Type 0
Waits sleeps longest was is =
    (outcome : Result ⊤ Fault) × sleeps was.around (longest_wait was.is_offering longest) outcome is.around
    × (is.faults ≡ faults_behind outcome was.faults)

-- a datagram was handed out, of which this is to be noted: that it wasn't sent counts
abbrev pub with_mark : Option Mark → Faults → Faults
with_mark None faults = faults
with_mark (Some Lost) faults = faults
with_mark (Some Unsent) faults = record faults { send = counted faults.send 1 }

-- what is to be noted of a datagram of which this became
abbrev pub mark_of : {E : Type 0} → Result Fate E → Option Mark
mark_of (Ok NeverComes) = Some Lost
mark_of (Ok (Once late)) = None
mark_of (Ok (Twice first second)) = None
mark_of (Err fault) = Some Unsent

-- so one that came is lost, by what the network draws, or for want of memory
abbrev pub is_lost : {E : Type 0} → Result Fate E → Bool
is_lost (Ok NeverComes) = true
is_lost (Ok (Once late)) = false
is_lost (Ok (Twice first second)) = false
is_lost (Err fault) = true

-- a socket loses none: what it sends comes once, and at once
abbrev pub IsSentSo : Result ⊤ Fault → Result Fate Fault → Type 0
IsSentSo (Ok sent) became = became ≡ Ok (Once 0)
IsSentSo (Err fault) became = IsErr became

-- a datagram goes to the network before the socket alone, where one is there; else to the socket
abbrev pub SendsOver :
    {S : Type 0} → (S → SocketAddrV4 → List ℕ → Result ⊤ Fault → S → Type 0) → SocketAddrV4 → List ℕ → ℕ → Result Fate Fault
    → Option (Box SpoiltWay) → S → Option (Box SpoiltWay) → S → Type 0
SendsOver sends to bytes now became None before None after =
    (sent : Result ⊤ Fault) × sends before to bytes sent after × IsSentSo sent became
SendsOver sends to bytes now became None before (Some is) after = ⊥
SendsOver sends to bytes now became (Some was) before None after = ⊥
SendsOver sends to bytes now became (Some was) before (Some is) after =
    (after ≡ before) × Offers Out was.value.network to bytes now became is.value.network

-- this becomes of a datagram that is sent
abbrev pub Becomes :
    {S : Type 0} → (S → SocketAddrV4 → List ℕ → Result ⊤ Fault → S → Type 0)
    → Exchange S → SocketAddrV4 → List ℕ → Result Fate Fault → Exchange S → Type 0
Becomes sends was to bytes became is = SendsOver sends to bytes was.now.clock became was.network was.around is.network is.around

-- a datagram that came goes to the network before the socket, which may lose it; where none is there, it isn't lost
abbrev pub LosesOver : SocketAddrV4 → List ℕ → ℕ → Bool → Option (Box SpoiltWay) → Option (Box SpoiltWay) → Type 0
LosesOver source bytes now lost None None = lost ≡ false
LosesOver source bytes now lost None (Some is) = ⊥
LosesOver source bytes now lost (Some was) None = ⊥
LosesOver source bytes now lost (Some was) (Some is) =
    (became : Result Fate ⊤) × Offers In was.value.network source bytes now became is.value.network × (lost ≡ is_lost became)

-- a datagram was read, or none was
abbrev pub with_read : Bool → ℕ → ℕ
with_read true read = counted read 1
with_read false read = read

-- the turn under way is the same, and whether something waits to be taken
abbrev pub IsSameTurn : {S : Type 0} → Exchange S → Exchange S → Type 0
IsSameTurn was is = (is.now ≡ was.now) × (is.is_offering ≡ was.is_offering)

-- of an exchange, only what is recorded changes, and whether some of that waits to be taken: what was counted stays, and what the page is
-- shown
pub record OnlyWrites {S : Type 0} (was is : Exchange S) : Type 0 where
  pub counted : is.journal.tally ≡ was.journal.tally
  pub shown : is.journal.board ≡ was.journal.board
  pub rest : is ≡ record was { journal = is.journal; is_offering = is.is_offering }

-- so many datagrams were read, where a look for one gave this: a datagram counts, whatever becomes of it
abbrev pub read_at : Result (Option (SocketAddrV4 × ℕ)) Fault → ℕ → ℕ
read_at (Ok found) read = with_read (is_some found) read
read_at (Err fault) read = read

-- that it failed counts
abbrev pub faults_at : Result (Option (SocketAddrV4 × ℕ)) Fault → Faults → Faults
faults_at (Ok found) faults = faults
faults_at (Err fault) faults = with_unreceived faults

-- what it found, if it found something
abbrev pub found_at : Result (Option (SocketAddrV4 × ℕ)) Fault → Option (SocketAddrV4 × ℕ)
found_at (Ok found) = found
found_at (Err fault) = None

-- it was looked for a datagram of the socket: this one was found, at the front of this room, and what the look gave is counted, once
pub record LooksOnce {S : Type 0}
    (receives : S → Result (Option (SocketAddrV4 × ℕ)) Fault → List ℕ → S → Type 0)
    (was : Exchange S) (found : Option (SocketAddrV4 × ℕ)) (room : List ℕ) (is : Exchange S) : Type 0 where
  pub outcome : Result (Option (SocketAddrV4 × ℕ)) Fault
  pub looked : receives was.around outcome room is.around
  pub gave : found ≡ found_at outcome
  pub read : is.read ≡ read_at outcome was.read
  pub faults : is.faults ≡ faults_at outcome was.faults

-- what was found is given where it is heard
abbrev pub heard_in : Admission → Option (SocketAddrV4 × ℕ) → Option (SocketAddrV4 × ℕ)
heard_in admission None = None
heard_in admission (Some found) = if is_heard admission found.0 then Some found else None

-- it was looked for a datagram of the socket, which is given where it is heard; and it is counted, or that a stranger's came
abbrev pub LooksHere :
    {S : Type 0} → (S → Result (Option (SocketAddrV4 × ℕ)) Fault → List ℕ → S → Type 0)
    → Admission → Exchange S → Option (SocketAddrV4 × ℕ) → List ℕ → Exchange S → Type 0
LooksHere receives admission was given room is =
    (found : Option (SocketAddrV4 × ℕ)) × LooksOnce receives was found room is × (given ≡ heard_in admission found)
    × (is.journal.tally.value ≡ with_looked admission found was.journal.tally.value)

-- it was, behind what the network before the socket sent, and before what it hands over then: that counts nothing
abbrev pub LooksBetween :
    {S : Type 0} → (S → Result (Option (SocketAddrV4 × ℕ)) Fault → List ℕ → S → Type 0) → Exchange S → Exchange S → Type 0
LooksBetween {S} receives was is =
    (before after : Exchange S) × (found : Option (SocketAddrV4 × ℕ)) × (room : List ℕ) × LooksOnce receives before found room after
    × (before.read ≡ was.read) × (before.faults ≡ was.faults) × (is.read ≡ after.read) × (is.faults ≡ after.faults)

-- With no network before the socket it was looked for a datagram of that. Else the network handed one over, and nothing is counted; or it
-- was looked for one all the same.
abbrev pub CountsReceived :
    {S : Type 0} → (S → Result (Option (SocketAddrV4 × ℕ)) Fault → List ℕ → S → Type 0)
    → Admission → Exchange S → Option (SocketAddrV4 × ℕ) → List ℕ → Exchange S → Type 0
CountsReceived receives admission was given room is =
    ((is_some was.network ≡ false) × LooksHere receives admission was given room is)
    ⊎ ((is_some was.network ≡ true)
    × ((IsSome given × (is.read ≡ was.read) × (is.faults ≡ was.faults)) ⊎ LooksBetween receives was is))

-- of what came to an exchange since, this was found that is heard, at the front of this room, and nothing else
abbrev pub FoundSince :
    {S : Type 0} → (S → Traffic) → Admission → Exchange S → Option (SocketAddrV4 × ℕ) → List ℕ → Exchange S → Type 0
FoundSince traffic admission was found room is =
    HeardSince admission (received_by was.network (traffic was.around).received) (found_by found room)
    (received_by is.network (traffic is.around).received)

-- An exchange was told of an event by the gateway that took it: its journal shows, counts and logs what that gateway tells of it; nothing
-- is captured, and what became of records stays, as does all else.
pub record IsTold {S : Type 0} (was : Exchange S) (gateway : GatewayState) (is : Exchange S) : Type 0 where
  pub shown : GoesOn (Turned was.now.clock gateway.outcomes gateway.account.given_up) was.journal.board is.journal.board
  pub texts : counts_in is.journal.tally.value.texts ≡ with_texts (counts_in was.journal.tally.value.texts) gateway.outcomes
  pub counted : tally_in is.journal.tally.value.sent
      ≡ with_given_up (with_sent (tally_in was.journal.tally.value.sent) gateway.account.sent) gateway.account.given_up
  pub places : is.journal.tally.value.places.sends
      ≡ with_sends gateway.setup.agent.route was.journal.tally.value.places.sends gateway.account.sent
  pub unanswered : is.journal.tally.value.unanswered_since
      ≡ unanswered_after was.journal.tally.value.unanswered_since gateway.outcomes gateway.account.sent
  pub datagrams : CountsNoDatagram was.journal.tally.value is.journal.tally.value
  pub logged : Turns was.journal.log.value was.now.time gateway.outcomes gateway.account.given_up is.journal.log.value
  pub records : (is.journal.capture ≡ was.journal.capture) × (is.journal.written ≡ was.journal.written)
  pub rest : is ≡ record was { journal = is.journal }

-- behind what the log says of a datagram that was handed over stands what the network made of it, or that it couldn't be sent
abbrev pub NotesFate : {E : Type 0} → ℕ → SocketAddrV4 → Result Fate E → Log → Log → Type 0
NotesFate time to (Ok fate) was is =
    NotesOf was.record time to (fate_note fate) is.record × (is ≡ record was { «record» = is.record })
NotesFate time to (Err fault) was is = Records was.record (unsent_text time to) is.record × (is ≡ record was { «record» = is.record })

-- A datagram that has these messages was handed to an exchange: the page is shown it with these, the log tells each of them, it is captured
-- as it left the gateway, and it is counted as handed out; it became what is to be noted of it, in the log too, and that it wasn't sent
-- counts as a fault. Nothing was read, no other fault counts, and what became of records stays.
pub record HandsOver {S : Type 0} (sends : S → SocketAddrV4 → List ℕ → Result ⊤ Fault → S → Type 0)
    (was : Exchange S) (to : SocketAddrV4) (bytes : List ℕ) (messages : List SentMessage) (mark : Option Mark) (is : Exchange S)
    : Type 0 where
  pub shown : GoesOn (HappenedWith was.now.clock OfSent to bytes (map sent_label messages)) was.journal.board is.journal.board
  pub became : (became : Result Fate Fault) × Becomes sends was to bytes became is × (mark ≡ mark_of became)
      × (sent : Log) × Sends was.journal.log.value (record { moment = was.now.time; peer = to }) bytes messages sent
      × NotesFate was.now.time to became sent is.journal.log.value
  pub captured : Captures was.journal.capture.value
      (record { moment = was.now.time; from = was.journal.capture.value.here; to = to; bytes = bytes }) is.journal.capture.value
  pub counted : is.journal.tally.value ≡ with_handed_out was.journal.tally.value
  pub faults : is.faults ≡ with_mark mark was.faults
  pub written : is.journal.written ≡ was.journal.written
  pub rest : (is.read ≡ was.read) × IsSameTurn was is

-- of datagrams of which this was said, so many weren't sent
abbrev pub unsent_in : List (Option Mark) → ℕ
unsent_in [] = 0
unsent_in (None ∷ said) = unsent_in said
unsent_in (Some Lost ∷ said) = unsent_in said
unsent_in (Some Unsent ∷ said) = unsent_in said + 1

-- datagrams went over an exchange, which said this of each: nothing was read, the turn is the same, what became of records stays, and of
-- faults only this counts, that those of which it said so weren't sent
pub record OnlySends {S : Type 0} (said : List (Option Mark)) (was is : Exchange S) : Type 0 where
  pub read : is.read ≡ was.read
  pub turn : IsSameTurn was is
  pub written : is.journal.written ≡ was.journal.written
  pub receive : is.faults.receive ≡ was.faults.receive
  pub refused : is.faults.refused ≡ was.faults.refused
  pub send : is.faults.send ≡ counted was.faults.send (unsent_in said)

-- of an exchange, only its log changes
abbrev pub OnlyNotes : {S : Type 0} → Exchange S → Exchange S → Type 0
OnlyNotes was is = is ≡ record was { journal = record was.journal { log = is.journal.log } }

-- of a datagram from there the log says why commands of it were refused, where it was taken; else that it wasn't
abbrev pub Explains : {S : Type 0} → Bool → List TextOutcome → SocketAddrV4 → List ℕ → Exchange S → Exchange S → Type 0
Explains true outcomes source bytes was is =
    SaysWhy (datagram source bytes) outcomes was.journal.log.value is.journal.log.value × OnlyNotes was is
Explains false outcomes source bytes was is =
    SaysUntaken (datagram source bytes) was.now.time was.journal.log.value is.journal.log.value × OnlyNotes was is

-- of what was sent at an input that was taken the log says to which commands no answer is heard; that one was refused is counted
abbrev pub Notes : {S : Type 0} → Bool → Admitted → List SentMessage → Exchange S → Exchange S → Type 0
Notes true admitted sent was is =
    SaysUnheard admitted was.now.time sent was.journal.log.value is.journal.log.value × OnlyNotes was is
Notes false admitted sent was is = is ≡ record was { faults = with_refused true was.faults }

-- The gateway took an event, and what it sent at it was handed out. Then the log says why commands of it were refused, and behind that to
-- which commands that were sent no answer is heard; and nothing else changes.
pub record NotesTaken {S : Type 0} (admitted : Admitted) (event : GatewayEvent) (gateway : GatewayState) (was is : Exchange S)
    : Type 0 where
  pub explained : Log
  pub why : SaysWhy event gateway.outcomes was.journal.log.value explained
  pub unheard : SaysUnheard admitted was.now.time gateway.account.sent explained is.journal.log.value
  pub rest : OnlyNotes was is

-- It refused one: of a datagram the log says so, it is counted, and nothing else changes.
pub record NotesRefused {S : Type 0} (event : GatewayEvent) (was is : Exchange S) : Type 0 where
  pub untaken : SaysUntaken event was.now.time was.journal.log.value is.journal.log.value
  pub rest : is ≡ record was { journal = record was.journal { log = is.journal.log }; faults = with_refused true was.faults }

-- The gateway took an event that came in so, over an exchange: this was told of it, and handed what was sent at it, each datagram with the
-- messages that stand in it; what stands in the trace behind the event is what the exchange said of each; and so many as weren't sent
-- count. Then that is noted, where these may speak to it, and nothing else is done.
pub record TakesOver {S : Type 0} (sends : S → SocketAddrV4 → List ℕ → Result ⊤ Fault → S → Type 0)
    (admitted : Admitted) (was : Live) (from : Exchange S) (input : Input) (event : GatewayEvent) (is : Live) (to : Exchange S)
    : Type 0 where
  pub sent : Exchange S
  pub by : TakesBy (λ a gateway b. IsTold a gateway b) (λ a at bytes messages mark b. HandsOver sends a at bytes messages mark b)
      was from input event is sent
  pub only : OnlySends by.said from sent
  pub noted : NotesTaken admitted event is.gateway sent to
