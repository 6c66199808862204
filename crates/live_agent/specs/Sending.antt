-- What goes over a wire where lines are settled, and where an agent says something: datagrams that are sent one behind another, of which
-- each counts once.
use Rattle.std.specs.Prelude.{◌≡◌, ℕ, Bool, true, false, List, [], ◌∷◌, Option, Some, None, Result, Ok, Err}
use Rattle.std.specs.declared.net.socket_addr.SocketAddrV4.{SocketAddrV4}
use Rattle.agent_log.specs.Counts.{with_handed_out}
use Rattle.impairment.specs.declared.network.BadNetwork.{BadNetwork}
use Rattle.impairment.specs.declared.packet.Way.TheVariants.{Out}
use Rattle.machine_rules.specs.declared.refusal.Refusal.{Refusal}
use Rattle.live_io.specs.Around.{Around}
use Rattle.transmission.specs.declared.output.OutDatagram.{OutDatagram}
use Rattle.agent_gateways.specs.declared.switchboard.Switchboard.{Switchboard}
use Rattle.live_agent.specs.declared.wire.Wire.{Wire}
use Rattle.live_agent.specs.Handing.{Leaves, OffersTo}
use Rattle.live_agent.specs.Tallying.{with_command, with_refusal, CountsSent, OnlyCounts, OnlyNotes, OnlyRecords}

-- Lines to which something has happened are settled: of a board that changes the gateways and the exchange alone. So does a tick.
abbrev pub SettlesLines : Switchboard → Switchboard → Type 0
SettlesLines was is = is ≡ record was { gateways = is.gateways; office = is.office }

-- What is around it may have changed, the network that spoils what goes over it, and its journal. Nothing else of it has: neither what was
-- typed, nor how many were read, nor its clock and its end.
abbrev pub SendsOver : {S : Type 0} → Wire S → Wire S → Type 0
SendsOver was is = is ≡ record was { around = is.around; network = is.network; journal = is.journal }

-- where no network spoils it a datagram is put onto the machine's; else it is offered to that, and what becomes of it is noted in the log
abbrev pub GoesOut : {S : Type 0} → Around S → SocketAddrV4 → List ℕ → Option BadNetwork → Wire S → Wire S → Type 0
GoesOut around to bytes None was is = Leaves around to bytes was is
GoesOut around to bytes (Some network) was is =
    OffersTo Out to bytes was.now.clock (Some network) is.network was.journal.value.tally is.journal.value.tally
    × OnlyNotes was.journal.value is.journal.value × (is ≡ record was { network = is.network; journal = is.journal })

-- a datagram is sent to there, again or for the first time: it counts once, is recorded in the log and the capture, and goes out
pub record SendsOne {S : Type 0} (around : Around S) (is_repeat : Bool) (to : SocketAddrV4) (bytes : List ℕ) (was is : Wire S)
    : Type 0 where
  pub over : SendsOver was is
  pub counts : CountsSent is_repeat was.network was.journal.value.tally is.journal.value.tally
  pub noted : Wire S
  pub notes : noted.journal.value.tally ≡ with_handed_out is_repeat was.journal.value.tally
  pub records : OnlyRecords was.journal.value noted.journal.value
  pub rest : noted ≡ record was { journal = noted.journal }
  pub goes : GoesOut around to bytes was.network noted is

-- so are these, one behind another
abbrev pub SendsAll : {S : Type 0} → Around S → Bool → List OutDatagram → Wire S → Wire S → Type 0
SendsAll around is_repeat [] was is = is ≡ was
SendsAll {S} around is_repeat (datagram ∷ more) was is =
    (sent : Wire S) × SendsOne around is_repeat datagram.to datagram.bytes was sent × SendsAll around is_repeat more sent is

-- what an agent says is sent; or it refused that, which counts, and nothing is: whether it went on
abbrev pub SendsOutputs : {S : Type 0} → Around S → Bool → Result (List OutDatagram) Refusal → Bool → Wire S → Wire S → Type 0
SendsOutputs around is_repeat (Ok outputs) went_on was is = (went_on ≡ true) × SendsAll around is_repeat outputs was is
SendsOutputs around is_repeat (Err refusal) went_on was is =
    (went_on ≡ false) × (is ≡ record was { journal = is.journal })
    × (is.journal.value ≡ record was.journal.value { tally = with_refusal was.journal.value.tally })

-- a command was issued: that counts, and nothing is told of it; and what it is goes out for the first time
pub record SendsCommand {S : Type 0} (around : Around S) (datagram : OutDatagram) (was is : Wire S) : Type 0 where
  pub counted : Wire S
  pub counts : counted.journal.value.tally ≡ with_command was.journal.value.tally
  pub alone : OnlyCounts was.journal.value counted.journal.value
  pub rest : counted ≡ record was { journal = counted.journal }
  pub goes : SendsOne around false datagram.to datagram.bytes counted is
