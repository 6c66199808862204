-- What counts of what goes over a wire.
use Rattle.std.specs.Prelude.{◌≡◌, ◌⊎◌, ⊤, ℕ, ◌==◌, Bool, if◌then◌else◌, Option, Some, None, Result, Ok, Err}
use Rattle.std.specs.declared.net.socket_addr.SocketAddrV4.{SocketAddrV4}
use Rattle.agent_log.specs.declared.journal.Journal.{Journal}
use Rattle.agent_log.specs.declared.tally.Tally.{Tally}
use Rattle.agent_log.specs.Counts.{one_more, with_handed_out}
use Rattle.impairment.specs.declared.fate.Fate.{Fate}
use Rattle.impairment.specs.declared.fate.Fate.TheVariants.{Lost, Once, Twice}
use Rattle.impairment.specs.declared.network.BadNetwork.{BadNetwork}
use Rattle.impairment.specs.declared.packet.Way.{Way}
use Rattle.impairment.specs.declared.packet.Way.TheVariants.{Out}
use Rattle.impairment.specs.Fates.{fate_on}
use Rattle.live_io.specs.declared.surroundings.Fault.{Fault}

-- a command was issued; something was refused for want of memory; a datagram didn't leave, or none could be looked for
abbrev pub with_command : Tally → Tally
with_command tally = record tally { commands = one_more tally.commands }

abbrev pub with_refusal : Tally → Tally
with_refusal tally = record tally { refused = one_more tally.refused }

abbrev pub with_send_fault : Tally → Tally
with_send_fault tally = record tally { send_faults = one_more tally.send_faults }

abbrev pub with_receive_fault : Tally → Tally
with_receive_fault tally = record tally { receive_faults = one_more tally.receive_faults }

-- what becomes of a packet counts, unless it goes on at once
abbrev pub with_fate : Fate → Tally → Tally
with_fate Lost tally = record tally { lost = one_more tally.lost }
with_fate (Once late) tally = if late == 0 then tally else record tally { late = one_more tally.late }
with_fate (Twice first second) tally = record tally { copied = one_more tally.copied }

-- a packet is offered on a way to the network that spoils it, if there is one: that takes it, or memory is refused for it
abbrev pub CountsOffer : Way → Option BadNetwork → Tally → Tally → Type 0
CountsOffer way None was is = is ≡ was
CountsOffer way (Some network) was is =
    (is ≡ with_fate (fate_on way network.spoiling network.generators) was) ⊎ (is ≡ with_refusal was)

-- a datagram is put onto the machine's network: it leaves, or doesn't
abbrev pub CountsLeaving : Tally → Tally → Type 0
CountsLeaving was is = (is ≡ was) ⊎ (is ≡ with_send_fault was)

-- one that was handed to it counts where it doesn't leave
abbrev pub leaving_counted : Result ⊤ Fault → Tally → Tally
leaving_counted (Ok sent) tally = tally
leaving_counted (Err fault) tally = with_send_fault tally

-- a datagram is sent, again or for the first time: it counts once, and what becomes of it
abbrev pub CountsSent : Bool → Option BadNetwork → Tally → Tally → Type 0
CountsSent is_repeat None was is = CountsLeaving (with_handed_out is_repeat was) is
CountsSent is_repeat (Some network) was is = CountsOffer Out (Some network) (with_handed_out is_repeat was) is

-- one that was looked for and couldn't be read counts as a fault
abbrev pub looked_counted : Result (Option (SocketAddrV4 × ℕ)) Fault → Tally → Tally
looked_counted (Ok found) tally = tally
looked_counted (Err fault) tally = with_receive_fault tally

-- a wait that fails counts as one, too
abbrev pub waited_counted : Result ⊤ Fault → Tally → Tally
waited_counted (Ok waited) tally = tally
waited_counted (Err fault) tally = with_receive_fault tally

-- What changes of a journal beside what counts

-- nothing
abbrev pub OnlyCounts : Journal → Journal → Type 0
OnlyCounts was is = is ≡ record was { tally = is.tally }

-- what is noted in the log
abbrev pub OnlyNotes : Journal → Journal → Type 0
OnlyNotes was is = is ≡ record was { tally = is.tally; log = is.log }

-- and what is captured
abbrev pub OnlyRecords : Journal → Journal → Type 0
OnlyRecords was is = is ≡ record was { tally = is.tally; log = is.log; capture = is.capture }

-- what is told
abbrev pub OnlyTells : Journal → Journal → Type 0
OnlyTells was is = is ≡ record was { tally = is.tally; told = is.told }

-- and what is noted in the log
abbrev pub OnlyTellsAndNotes : Journal → Journal → Type 0
OnlyTellsAndNotes was is = is ≡ record was { tally = is.tally; told = is.told; log = is.log }
