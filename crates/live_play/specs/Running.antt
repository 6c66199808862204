-- How a gateway runs live.
use Rattle.std.specs.Prelude.{◌≡◌, ⊤, ◌⊎◌, ℕ, zero, suc, ◌+◌, ◌<◌, ◌≤◌, List, [], ◌∷◌, ◌++◌, length, map, Option, Some, None, IfSome}
use Rattle.std.specs.declared.net.socket_addr.SocketAddrV4.{SocketAddrV4}
use Rattle.live_io.specs.Sending.{Sent, Grows}
use Rattle.transmission.specs.declared.output.OutDatagram.{OutDatagram}
use Rattle.plain_machine.specs.declared.setup.Setup.{Setup}
use Rattle.gateway_core.specs.declared.sent.SentMessage.{SentMessage}
use Rattle.plain_machine.specs.Event.{GatewayEvent}
use Rattle.gateway_core.specs.GatewayState.{GatewayState}
use Rattle.gateway_core.specs.Outgoing.{own_messages, other_messages}
use Rattle.gateway_core.specs.Stands.{Stands, Took}
use Rattle.machine_rules.specs.declared.refusal.Refusal.{Refusal}
use Rattle.machine_rules.specs.declared.refusal.Refusal.TheVariants.{OutOfMemory}
use Rattle.rgw_scripts.specs.Moves.{give, ask, sends, refuses, line_shown, printed, told as answer_of}
use Rattle.rgw_scripts.specs.Printing.{printed_line, refusal_line}
use Rattle.rgw_scripts.specs.Status.{LineStatus}
use Rattle.traces.specs.declared.script.Script.{Script}
use Rattle.traces.specs.declared.telling.Mark.{Mark}
use Rattle.traces.specs.Telling.{told_text}
use Rattle.traces.specs.Writing.{Entry, Input, arrived, typed, passed, showed, became, datagrams_in, IsPlay, taken_after, sent_in, written, script_after, clock_text, at_clock}
use Rattle.live_play.specs.Readable.{first_unread, AreByTicks}

-- the gateway, the moments that its trace has come to, all that this was told, and all that was handed out
pub record Live : Type 0 where
  pub gateway : GatewayState
  pub script : Script
  pub told : Option (List ℕ)
  pub handed : Option (List Sent)

abbrev pub live : GatewayState → Script → Option (List ℕ) → Option (List Sent) → Live
live gateway script told handed = record { gateway = gateway; script = script; told = told; handed = handed }

-- a datagram as it is handed over: of its moment nothing is told
abbrev pub sent_of : OutDatagram → Sent
sent_of datagram = record { to = datagram.to; bytes = datagram.bytes }

-- a place up to the last one, that is read again
abbrev pub IsPlace : ℕ → ℕ → Type 0
IsPlace last place = (place ≤ last) × (place < first_unread)

-- Behind what was shown it is said what became of its datagrams: of each at most once, in their order; and of no other ones. Said was it
-- of those up to the first place, and the last place is that of the last datagram.
abbrev pub AreInPlace : ℕ → ℕ → List Entry → Type 0
AreInPlace after last [] = ⊤
AreInPlace after last (showed input move shown ∷ entries) = AreInPlace 0 (length (datagrams_in shown)) entries
AreInPlace after last (became mark place ∷ entries) = (after < place) × IsPlace last place × AreInPlace place last entries

-- It went on by these entries: they are a play of its gateway, what was handed out is what they sent, and its trace was told their
-- text. Its clock went on by ticks alone.
pub record Ran (was : Live) (entries : List Entry) (is : Live) : Type 0 where
  pub setup : is.gateway.setup ≡ was.gateway.setup
  pub stands : (before : List GatewayEvent) → Stands was.gateway before →
      Stands is.gateway (taken_after was.gateway.setup before entries)
  pub play : (before : List GatewayEvent) → Stands was.gateway before → IsPlay was.gateway.setup before entries
  pub handed : Grows was.handed (map sent_of (sent_in entries)) is.handed
  pub told : Grows was.told (written was.script entries) is.told
  pub script : IfSome is.told (λ text. is.script ≡ script_after was.script entries)
  pub marks : AreInPlace 0 0 entries
  pub ticks : AreByTicks entries

-- what came in is no datagram, or one whose source is so
abbrev pub IsFrom : (SocketAddrV4 → Type 0) → Input → Type 0
IsFrom speaks (arrived source bytes) = speaks source
IsFrom speaks (typed line) = ⊤
IsFrom speaks (passed moment) = ⊤

-- each datagram that came at these entries has such a source
abbrev pub AreFrom : (SocketAddrV4 → Type 0) → List Entry → Type 0
AreFrom speaks [] = ⊤
AreFrom speaks (showed input move shown ∷ entries) = IsFrom speaks input × AreFrom speaks entries
AreFrom speaks (became mark place ∷ entries) = AreFrom speaks entries

-- what came in at each of these entries is so
abbrev pub AreOf : (Input → Type 0) → List Entry → Type 0
AreOf says [] = ⊤
AreOf says (showed input move shown ∷ entries) = says input × AreOf says entries
AreOf says (became mark place ∷ entries) = AreOf says entries

-- it went on by entries, and all that came in is so
pub record RanOf (says : Input → Type 0) (was is : Live) : Type 0 where
  pub entries : List Entry
  pub ran : Ran was entries is
  pub inputs : AreOf says entries

-- these entries say what became of datagrams, and nothing else: of each at most once, in their order
abbrev pub AreMarks : ℕ → ℕ → List Entry → Type 0
AreMarks after last [] = ⊤
AreMarks after last (showed input move shown ∷ entries) = ⊥
AreMarks after last (became mark place ∷ entries) = (after < place) × IsPlace last place × AreMarks place last entries

-- behind so many others, datagrams were handed out, and this became of them
pub record HandsOut (was : Live) (before : ℕ) (datagrams : List OutDatagram) (marks : List Entry) (is : Live) : Type 0 where
  pub are : AreMarks before (before + length datagrams) marks
  pub gateway : is.gateway ≡ was.gateway
  pub handed : Grows was.handed (map sent_of datagrams) is.handed
  pub told : Grows was.told (written was.script marks) is.told
  pub script : is.script ≡ was.script

-- what is noted of the datagram at a place: what is to be, if anything is; but nothing at a place that isn't read again
abbrev pub IsNoted : Option Mark → ℕ → List Entry → Type 0
IsNoted None place noted = noted ≡ []
IsNoted (Some mark) place noted =
    ((place < first_unread) × (noted ≡ became mark place ∷ [])) ⊎ ((first_unread ≤ place) × (noted ≡ []))

-- behind so many others this was said of datagrams, in their order: that is noted of them, and nothing else
abbrev pub AreNoted : ℕ → List (Option Mark) → List Entry → Type 0
AreNoted before [] marks = marks ≡ []
AreNoted before (mark ∷ said) marks =
    (noted others : List Entry) × IsNoted mark (before + 1) noted × (marks ≡ noted ++ others) × AreNoted (before + 1) said others

-- of messages that go out in their order, those that are left behind several datagrams
abbrev pub messages_behind : List OutDatagram → List SentMessage → List SentMessage
messages_behind [] messages = messages
messages_behind (datagram ∷ more) messages = messages_behind more (other_messages datagram messages)

-- These datagrams, in which these messages stand, were handed to an outlet, one after the other, each with its own messages, and nothing
-- else was done to it; and this it said of each.
abbrev pub HandsEach :
    {O : Type 0} → (O → SocketAddrV4 → List ℕ → List SentMessage → Option Mark → O → Type 0)
    → List OutDatagram → List SentMessage → O → List (Option Mark) → O → Type 0
HandsEach hands [] messages from [] to = to ≡ from
HandsEach hands [] messages from (mark ∷ said) to = ⊥
HandsEach hands (datagram ∷ more) messages from [] to = ⊥
HandsEach {O} hands (datagram ∷ more) messages from (mark ∷ said) to =
    (next : O) × hands from datagram.to datagram.bytes (own_messages datagram messages) mark next
    × HandsEach hands more (other_messages datagram messages) next said to

-- so datagrams were handed out to an outlet, and their trace has what this said of them
pub record HandsBy {O : Type 0}
    (hands : O → SocketAddrV4 → List ℕ → List SentMessage → Option Mark → O → Type 0)
    (was : Live) (from : O) (before : ℕ) (datagrams : List OutDatagram) (messages : List SentMessage) (is : Live) (to : O) : Type 0 where
  pub said : List (Option Mark)
  pub marks : List Entry
  pub noted : AreNoted before said marks
  pub out : HandsOut was before datagrams marks is
  pub each : HandsEach hands datagrams messages from said to

-- an outlet was told of an event, by the gateway that took it, and then what is sent at it was handed to it, with what that gateway tells
-- of each message
pub record HandsFrom {O : Type 0}
    (turns : O → GatewayState → O → Type 0) (hands : O → SocketAddrV4 → List ℕ → List SentMessage → Option Mark → O → Type 0)
    (was : Live) (from : O) (datagrams : List OutDatagram) (is : Live) (to : O) : Type 0 where
  pub turned : O
  pub told : turns from is.gateway turned
  pub by : HandsBy hands was turned 0 datagrams is.gateway.account.sent is to

-- this is printed of what a line is, whatever events the gateway stands for, or of that there is none
pub record IsAnswer (g : GatewayState) (line : ℕ) (answered : List ℕ) : Type 0 where
  pub status : Option LineStatus
  pub shows : (before : List GatewayEvent) → Stands g before → line_shown g.setup before line ≡ answer_of status
  pub text : answered ≡ printed (answer_of status)

-- what is printed of so many lines, one behind the other from the first, where the gateway has taken these events
unfoldable pub lines_shown : Setup → List GatewayEvent → ℕ → List ℕ
lines_shown setup events zero = []
lines_shown setup events (suc lines) = lines_shown setup events lines ++ printed (line_shown setup events (suc lines))

-- It took an event that came in so: its entry was told, all that was sent at it was handed out, and behind the entry stands what became
-- of that, and nothing else.
pub record Takes (was : Live) (input : Input) (event : GatewayEvent) (is : Live) : Type 0 where
  pub outputs : List OutDatagram
  pub marks : List Entry
  pub took : Took was.gateway (event ∷ []) is.gateway [] outputs
  pub are : AreMarks 0 (length outputs) marks
  pub ran : Ran was (showed input (give event) (sends outputs) ∷ marks) is

-- It took an event so, and an outlet was told of that and handed what was sent at it, one after the other, each datagram with what is
-- told of its messages, and nothing else was done to it: what stands behind the entry is what the outlet said of each.
pub record TakesBy {O : Type 0}
    (turns : O → GatewayState → O → Type 0) (hands : O → SocketAddrV4 → List ℕ → List SentMessage → Option Mark → O → Type 0)
    (was : Live) (from : O) (input : Input) (event : GatewayEvent) (is : Live) (to : O) : Type 0 where
  pub takes : Takes was input event is
  pub turned : O
  pub told : turns from is.gateway turned
  pub said : List (Option Mark)
  pub noted : AreNoted 0 said takes.marks
  pub each : HandsEach hands takes.outputs is.gateway.account.sent turned said to

-- An act that a line said was refused: that is an entry, and why is printed; or nothing was told, where memory was refused, for the act
-- or for saying why it can't be done.
abbrev pub Refuses : Live → List ℕ → GatewayEvent → Refusal → List ℕ → Live → Type 0
Refuses was line event refusal text is =
    ((refusal ≡ OutOfMemory) × Ran was [] is)
    ⊎ ((refusal ≡ OutOfMemory → ⊥)
    × Ran was (showed (typed line) (give event) (refuses refusal) ∷ []) is
    × (text ≡ printed_line (refusal_line refusal)))

-- What a line is was asked, as a line said: what is printed is an entry.
pub record Asked (was : Live) (line : List ℕ) (number : ℕ) (text : List ℕ) (is : Live) : Type 0 where
  pub answer : IsAnswer was.gateway number text
  pub gateway : is.gateway ≡ was.gateway
  pub ran : Ran was (showed (typed line) (ask number) (answer_of answer.status) ∷ []) is

-- the answer to an act that was refused: why, told and printed; or want of memory, and a trace was told of nothing
abbrev pub TellsRefusal : List ℕ → Refusal → Refusal → List ℕ → Option (List ℕ) → Script → Option (List ℕ) → Script → Type 0
TellsRefusal line refusal answer text were was are is =
    ((answer ≡ OutOfMemory) × (are ≡ were) × (is ≡ was))
    ⊎ ((answer ≡ refusal) × (refusal ≡ OutOfMemory → ⊥)
    × Grows were (clock_text was ++ printed_line line ++ told_text (printed_line (refusal_line refusal))) are
    × IfSome are (λ text. is ≡ at_clock was)
    × (text ≡ printed_line (refusal_line refusal)))
