-- When a desk comes to its end, and how the program ends then.
use Rattle.std.specs.Prelude.{◌≡◌, ◌⊎◌, ◌||◌, ℕ, zero, suc, Bool, true, false, bytes_eq, codes, List, [], ◌∷◌, Option, IsSomeAnd}
use Rattle.std.specs.Net.Addr.{IsLoopbackV4, IsLoopbackV6, MatchIp}
use Rattle.std.specs.Net.Socket.{socket_ip}
use Rattle.mg_bytes.specs.Lines.{line_of}
use Rattle.live_io.specs.Typing.{left_of}
use Rattle.live_io.specs.declared.lines.Lines.{Lines}
use Rattle.plain_machine.specs.Event.{GatewayEvent}
use Rattle.plain_machine.specs.Lists.{plain}
use Rattle.gateway_core.specs.GatewayState.{GatewayState}
use Rattle.gateway_core.specs.Stands.{Stands}
use Rattle.turns.specs.Clock.{has_come}
use Rattle.live_system.specs.declared.ending.CommonEnding.{CommonEnding}
use Rattle.live_system.specs.declared.ending.CommonEnding.TheVariants.{OutOfMemory}
use Rattle.output_queues.specs.declared.written.Written.{Written}
use Rattle.live_system.specs.Ending.{served_ending}
use Rattle.output_queues.specs.Recording.{is_refused}
use Rattle.output_queues.specs.Written.{faults_in}
use Rattle.live_journal.specs.declared.journal.Journal.{Journal}
use Rattle.live_journal.specs.declared.trace.Trace.{Trace}
use Rattle.telephone_control.specs.Losses.{counts_text}
use Rattle.live_gateway.specs.declared.desk.Desk.{Desk}

-- ticks of the gateway have come to the end, or they haven't, whatever events it stands for
abbrev pub EndsAt : Option ℕ → GatewayState → Bool → Type 0
EndsAt end gateway is_over = (events : List GatewayEvent) → Stands gateway events → is_over ≡ has_come end (plain gateway.setup events).now

-- what was recorded was written so often, one time behind the other
abbrev pub WroteTimes : {W : Type 0} → (W → W → Type 0) → ℕ → W → W → Type 0
WroteTimes writes zero was is = is ≡ was
WroteTimes {W} writes (suc count) was is = (between : W) × WroteTimes writes count was between × writes between is

-- what was recorded at a desk was written, at the time of its last turn, behind what its trace was told as it ended
abbrev pub WritesLast :
    {S W : Type 0} → (W → Journal → Trace → ℕ → W → Journal → Trace → Type 0) → Desk S Trace → W → Desk S Trace → W → Type 0
WritesLast writes was before is after =
    (told : Trace) × writes before was.exchange.journal told was.exchange.now.time after is.exchange.journal is.play.teller

-- the first of these lines asks for the end
abbrev pub is_stop : List (List ℕ) → Bool
is_stop [] = false
is_stop (piece ∷ pieces) = bytes_eq (line_of piece) (codes "stop")

-- so does the line that is answered next, and it came from this machine
abbrev pub AsksForEnd : Lines → Type 0
AsksForEnd lines =
    (is_stop (left_of lines) ≡ true)
    × IsSomeAnd lines.sender (λ sender. MatchIp (socket_ip sender) IsLoopbackV4 IsLoopbackV6)

-- memory was refused for something that is recorded: for the trace, the log or the capture
abbrev pub is_record_refused : Trace → Journal → Bool
is_record_refused trace journal =
    is_refused trace.record.state || (is_refused journal.log.value.record.state || is_refused journal.capture.value.record.state)

-- this is what was counted at a desk, by all events that its gateway stands for
abbrev pub IsCounted : {S T : Type 0} → Desk S T → List ℕ → Type 0
IsCounted desk text = (events : List GatewayEvent) → Stands desk.play.gateway.value events → text
    ≡ counts_text desk.exchange.journal desk.exchange.faults desk.play.gateway.value.setup (plain desk.play.gateway.value.setup events)

-- What was recorded at a desk is written to its end by who was told what was counted, as last words, and the program ends as became of that
-- and of its records; or memory was refused for those words, and nobody is told any.
abbrev pub EndsWith : {S W : Type 0} → (List ℕ → W → Written → W → Type 0) → Desk S Trace → W → W → CommonEnding → Type 0
EndsWith ends desk was is ending =
    ((is ≡ was) × (ending ≡ OutOfMemory))
    ⊎ ((last : List ℕ) × (written : Written) × IsCounted desk last × ends last was written is
    × (ending ≡ served_ending (is_record_refused desk.play.teller desk.exchange.journal) (faults_in written)))

-- What is around a desk that ends changes, its lines, and what is recorded and told of that: what was counted stays, and what the page is
-- shown. Nothing else changes, but in its play; and the gateway of that stays.
pub record OnlyEnds {S T : Type 0} (was is : Desk S T) : Type 0 where
  pub gateway : is.play.gateway ≡ was.play.gateway
  pub counted : is.exchange.journal.tally ≡ was.exchange.journal.tally
  pub shown : is.exchange.journal.board ≡ was.exchange.journal.board
  pub exchange : is.exchange ≡ record was.exchange {
    around = is.exchange.around;
    journal = is.exchange.journal;
    is_offering = is.exchange.is_offering;
  }
  pub rest : is ≡ record was { play = is.play; exchange = is.exchange; lines = is.lines }
