-- What a journal gets of a datagram that comes, of one that isn't heard, and of one that couldn't be sent; and what a log says of an input
-- once it is done.
use Rattle.std.specs.Prelude.{◌≡◌, ⊤, ℕ, true, false, nat_lt, if◌then◌else◌, List, Option, Some, None, Result, Ok, Err}
use Rattle.std.specs.List.{flat_map}
use Rattle.std.specs.declared.net.socket_addr.SocketAddrV4.{SocketAddrV4}
use Rattle.log_format.specs.declared.note.Note.TheVariants as notes
use Rattle.gateway_core.specs.declared.outcome.TextOutcome.{TextOutcome}
use Rattle.gateway_core.specs.Wire.{counted}
use Rattle.page_state.specs.declared.ring.Kind.TheVariants.{Received as OfReceived}
use Rattle.plain_machine.specs.Event.{GatewayEvent, datagram, phone, tick}
use Rattle.gateway_core.specs.declared.sent.SentMessage.{SentMessage}
use Rattle.live_io.specs.Speaking.{Admitted}
use Rattle.live_io.specs.declared.surroundings.Fault.{Fault}
use Rattle.told_messages.specs.declared.log.Log.{Log}
use Rattle.told_messages.specs.Explaining.{reason_text}
use Rattle.told_messages.specs.Recording.{Records, unsent_text}
use Rattle.told_messages.specs.Logging.{Receives, LeavesOut, explained_at}
use Rattle.told_messages.specs.Showing.{GoesOn, Happened}
use Rattle.told_messages.specs.Strangers.{quiet_after, stranger_text, unheard_text}
use Rattle.output_queues.specs.declared.now.Now.{Now}
use Rattle.live_journal.specs.declared.journal.Journal.{Journal}
use Rattle.live_journal.specs.Capturing.{Captures}
use Rattle.message_counts.specs.Tallying.{with_received, with_stranger}
use Rattle.message_counts.specs.declared.message_tally.MessageTally.{MessageTally}
use Rattle.live_gateway.specs.declared.admission.Admission.{Admission}
use Rattle.live_gateway.specs.Admitting.{is_heard}

-- a stranger's datagram is counted, and told of at most once a second
pub record NotesStranger (was : Journal) (time : ℕ) (source : SocketAddrV4) (is : Journal) : Type 0 where
  pub tally : is.tally.value ≡ with_stranger was.tally.value
  pub told : Records was.log.value.record (stranger_text was.log.value.quiet time source) is.log.value.record
  pub quiet : is.log.value.quiet ≡ quiet_after was.log.value.quiet time
  pub log : is.log.value ≡ record was.log.value { «record» = is.log.value.record; quiet = is.log.value.quiet }
  pub rest : (is.capture ≡ was.capture) × (is.board ≡ was.board) × (is.written ≡ was.written)

-- one without a port can't be answered, and nothing is kept of it
pub record TurnsAway (was : Journal) (time : ℕ) (source : SocketAddrV4) (is : Journal) : Type 0 where
  pub port : nat_lt 0 source.port ≡ true → NotesStranger was time source is
  pub portless : nat_lt 0 source.port ≡ false → is ≡ was

-- a datagram that comes is counted once where it is heard, and no other count changes; a stranger's is turned away
pub record NotesArrival (admission : Admission) (was : Journal) (time : ℕ) (source : SocketAddrV4) (is : Journal) : Type 0 where
  pub heard : is_heard admission source ≡ true → is.tally.value ≡ with_received was.tally.value
  pub strange : is_heard admission source ≡ false → TurnsAway was time source is

-- a datagram comes that is heard, so late: it counts as received, the log knows it, it is captured as it came to the gateway, and the page
-- is shown it; what became of records stays
pub record NotesReceived (now : Now) (late : ℕ) (source : SocketAddrV4) (bytes : List ℕ) (was is : Journal) : Type 0 where
  pub tally : is.tally.value ≡ with_received was.tally.value
  pub logged : Receives was.log.value (record { moment = now.time; peer = source }) bytes late is.log.value
  pub captured : Captures was.capture.value
      (record { moment = now.time; from = source; to = was.capture.value.here; bytes = bytes }) is.capture.value
  pub shown : GoesOn (Happened now.clock OfReceived source bytes) was.board is.board
  pub written : is.written ≡ was.written

-- of what one look at a socket found one is counted: the one that is heard, or a stranger's, unless it has no port
abbrev pub with_looked : Admission → Option (SocketAddrV4 × ℕ) → MessageTally → MessageTally
with_looked admission None tally = tally
with_looked admission (Some found) tally =
    if is_heard admission found.0 then with_received tally else (if nat_lt 0 found.0.port then with_stranger tally else tally)

-- so many datagrams of strangers were counted
abbrev pub with_strangers : ℕ → MessageTally → MessageTally
with_strangers count tally = record tally { strangers = counted tally.strangers count }

-- a datagram that was found for the gateway is counted, if one was
abbrev pub with_found : Option (SocketAddrV4 × ℕ) → MessageTally → MessageTally
with_found None tally = tally
with_found (Some found) tally = with_received tally

-- a look for a datagram counts the one that it finds, once, and those of strangers that it meets; no other count changes
pub record CountsFound (was : MessageTally) (found : Option (SocketAddrV4 × ℕ)) (is : MessageTally) : Type 0 where
  pub strangers : ℕ
  pub tally : is ≡ with_found found (with_strangers strangers was)

-- a datagram that couldn't be sent is noted
pub record NotesUnsent (was : Journal) (time : ℕ) (to : SocketAddrV4) (is : Journal) : Type 0 where
  pub told : Records was.log.value.record (unsent_text time to) is.log.value.record
  pub quiet : is.log.value.quiet ≡ was.log.value.quiet
  pub log : is.log.value ≡ record was.log.value { «record» = is.log.value.record }
  pub tally : is.tally ≡ was.tally
  pub rest : (is.capture ≡ was.capture) × (is.board ≡ was.board) × (is.written ≡ was.written)

-- of one that goes out late it is noted that it couldn't be sent, where the system says that
abbrev pub NotesLate : Journal → ℕ → SocketAddrV4 → Result ⊤ Fault → Journal → Type 0
NotesLate was time to (Ok sent) is = is ≡ was
NotesLate was time to (Err fault) is = NotesUnsent was time to is

-- An input that is done

-- of a datagram that was taken the log says why commands of it were refused, or which weren't answered; of an act or a tick nothing
abbrev pub SaysWhy : GatewayEvent → List TextOutcome → Log → Log → Type 0
SaysWhy (datagram source bytes) outcomes was is =
    Records was.record (flat_map (reason_text (explained_at was)) outcomes) is.record × (is ≡ record was { «record» = is.record })
SaysWhy (phone line act) outcomes was is = is ≡ was
SaysWhy (tick moment) outcomes was is = is ≡ was

-- of one that wasn't taken at this time it says its texts, and that memory was refused for it; of an act or a tick nothing
abbrev pub SaysUntaken : GatewayEvent → ℕ → Log → Log → Type 0
SaysUntaken (datagram source bytes) time was is =
    LeavesOut was (record { moment = time; peer = source }) bytes notes.OutOfMemory is
SaysUntaken (phone line act) time was is = is ≡ was
SaysUntaken (tick moment) time was is = is ≡ was

-- of each command of the gateway's own that was sent to who may not speak it says that no answer is heard
abbrev pub SaysUnheard : Admitted → ℕ → List SentMessage → Log → Log → Type 0
SaysUnheard admitted time sent was is =
    Records was.record (flat_map (unheard_text admitted time) sent) is.record × (is ≡ record was { «record» = is.record })
