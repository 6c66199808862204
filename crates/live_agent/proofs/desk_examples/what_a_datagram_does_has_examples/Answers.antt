use Rattle.std.proofs.Common.{◌≡◌, ℕ, Bool, List, [], Option, Result, Ok, ap, subst, ◌∙◌}
use Rattle.std.specs.Prelude.{IfNone, IfSome, slice_get}
use Rattle.agent_gateways.specs.Steps.{WaitsIn}
use Rattle.std.specs.declared.net.socket_addr.SocketAddrV4.{SocketAddrV4}
use Rattle.agent_log.specs.declared.journal.Journal.{Journal}
use Rattle.agent_log.specs.Counts.{with_notification}
use Rattle.live_io.specs.declared.surroundings.Fault.{Fault}
use Rattle.agent_gateways.specs.declared.gateway.Gateway.{Gateway}
use Rattle.agent_gateways.specs.declared.switchboard.Switchboard.{Switchboard}
use Rattle.agent_gateways.specs.Tallying.{counted_if}
use Rattle.live_agent.specs.Wiring.{read_at}
use Rattle.live_agent.specs.declared.wire.Wire.{Wire}
use Rattle.live_agent.proofs.desk_examples.what_a_datagram_does_has_examples.Goals as goal

pub returns-clause-stranger : goal.returns-clause-stranger
returns-clause-stranger c = λ source board now was is hears. (
  hears.0,
  ap (λ (journal : Journal). journal.tally) hears.2,
  ap (λ (journal : Journal). journal.log) hears.2,
  ap (λ (journal : Journal). journal.told) hears.2,
)

pub returns-clause-two : goal.returns-clause-two
returns-clause-two c = λ board now was is hears. (hears.0, hears.1, hears.2)

pub returns-clause-text : goal.returns-clause-text
returns-clause-text c = λ board now was is hears. (hears.heard, hears.told.journal.value, hears.hears)

pub returns-clause-something : goal.returns-clause-something
returns-clause-something c = λ board now was is settles. settles.lines

pub returns-clause-no_line : goal.returns-clause-no_line
returns-clause-no_line c = λ board now was is takes. takes.0

pub returns-clause-handed : goal.returns-clause-handed
returns-clause-handed c = λ board now was is takes. takes.1

pub returns-clause-sends : goal.returns-clause-sends
returns-clause-sends c = λ was is over.
    (ap (λ (wire : Wire ℕ). wire.lines) over, ap (λ (wire : Wire ℕ). wire.read) over, ap (λ (wire : Wire ℕ). wire.end) over)

pub returns-clause-ticks : goal.returns-clause-ticks
returns-clause-ticks c = λ was is over. (ap (λ (wire : Wire ℕ). wire.lines) over, ap (λ (wire : Wire ℕ). wire.read) over)

pub returns-clause-clock : goal.returns-clause-clock
returns-clause-clock c = λ was is over. ap (λ (wire : Wire ℕ). wire.now.clock) over

pub returns-clause-behind : goal.returns-clause-behind
returns-clause-behind c = λ was is over. ap (λ (wire : Wire ℕ). wire.is_behind) over

pub returns-clause-not_behind : goal.returns-clause-not_behind
returns-clause-not_behind c = λ was is over. ap (λ (wire : Wire ℕ). wire.is_behind) over

pub returns-clause-steps : goal.returns-clause-steps
returns-clause-steps c = λ source outputs board now steps. ap (λ (one : Switchboard). one.office) steps.rest

pub returns-clause-counts_none : goal.returns-clause-counts_none
returns-clause-counts_none c = λ board now was is takes none.
    takes.counts ∙ ap (λ (found : Bool). counted_if found with_notification was.journal.value.tally) none

pub returns-clause-counts : goal.returns-clause-counts
returns-clause-counts c = λ board now was is takes some.
    takes.counts ∙ ap (λ (found : Bool). counted_if found with_notification was.journal.value.tally) some

pub returns-clause-logs_nothing : goal.returns-clause-logs_nothing
returns-clause-logs_nothing c = λ board now was is takes.
    (ap (λ (journal : Journal). journal.log) takes.tells, ap (λ (journal : Journal). journal.capture) takes.tells)

pub returns-clause-looks_for_one : goal.returns-clause-looks_for_one
returns-clause-looks_for_one c = λ board now was is looks none.
    looks.reads ∙ ap (λ (outcome : Result (Option (SocketAddrV4 × ℕ)) Fault). read_at outcome was.read) none

pub returns-clause-nobody_steps : goal.returns-clause-nobody_steps
returns-clause-nobody_steps c = λ source outputs board now none steps.
    subst (λ (gateways : List Gateway). IfNone (slice_get gateways 0) (outputs ≡ Ok [])) none steps.nobody

pub returns-clause-waits_then : goal.returns-clause-waits_then
returns-clause-waits_then c = λ line board now was is takes some taken.
    subst (λ (one : Option ℕ). IfSome one (λ found. WaitsIn found takes.taken.office)) taken (takes.waits some)

pub returns-clause-room : goal.returns-clause-room
returns-clause-room c = λ board now was is looks. looks.long
