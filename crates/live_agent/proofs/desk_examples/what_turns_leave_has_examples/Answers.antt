use Rattle.std.proofs.Common.{ℕ, Bool, ◌∙◌, ap}
use Rattle.std.specs.Prelude.{⊤, Result}
use Rattle.live_system.specs.Waiting.{longest_wait}
use Rattle.live_io.specs.declared.surroundings.Fault.{Fault}
use Rattle.live_agent.specs.Tallying.{waited_counted}
use Rattle.live_agent.specs.Wiring.{longest_until}
use Rattle.agent_log.specs.declared.journal.Journal.{Journal}
use Rattle.agent_gateways.specs.declared.switchboard.Switchboard.{Switchboard}
use Rattle.live_agent.specs.declared.wire.Wire.{Wire}
use Rattle.live_agent.proofs.desk_examples.what_turns_leave_has_examples.Goals as goal

pub returns-clause-looks : goal.returns-clause-looks
returns-clause-looks c = λ board now was is does. (does.0, ap (λ (wire : Wire ℕ). wire.lines) does.1.3)

pub returns-clause-waits : goal.returns-clause-waits
returns-clause-waits c = λ board now was is does. (does.0, ap (λ (wire : Wire ℕ). wire.end) does.1.2.3)

pub returns-clause-notes : goal.returns-clause-notes
returns-clause-notes c = λ pause board now was is does. (does.0, ap (λ (wire : Wire ℕ). wire.around) does.1.2)

pub returns-clause-ticks : goal.returns-clause-ticks
returns-clause-ticks c = λ board now was is does. ap (λ (one : Switchboard). one.notifying) does.lines

pub returns-clause-settles : goal.returns-clause-settles
returns-clause-settles c = λ board now so.
    (ap (λ (one : Switchboard). one.stations) so, ap (λ (one : Switchboard). one.notifying) so)

pub returns-clause-fails : goal.returns-clause-fails
returns-clause-fails c = λ was is waits. ap (λ (journal : Journal). journal.told) waits.2

pub returns-clause-failed : goal.returns-clause-failed
returns-clause-failed c = λ fault was is waits.
    waits.1.2 ∙ ap (λ (outcome : Result ⊤ Fault). waited_counted outcome was.journal.value.tally) waits.1.1

pub returns-clause-went_well : goal.returns-clause-went_well
returns-clause-went_well c = λ was is waits.
    waits.1.2 ∙ ap (λ (outcome : Result ⊤ Fault). waited_counted outcome was.journal.value.tally) waits.1.1

pub returns-clause-lasts : goal.returns-clause-lasts
returns-clause-lasts c = λ was is free waits. waits.1.1 ∙ ap (λ (b : Bool). longest_wait b 700) free

pub returns-clause-offers : goal.returns-clause-offers
returns-clause-offers c = λ was is waiting waits. waits.1.1 ∙ ap (λ (b : Bool). longest_wait b 700) waiting

pub returns-clause-until : goal.returns-clause-until
returns-clause-until c = λ was is until free. until.2.1.1 ∙ ap (λ (b : Bool). longest_wait b (longest_until 1200 until.0 500)) free

pub returns-clause-pauses : goal.returns-clause-pauses
returns-clause-pauses c = λ pause was is notes. ap (λ (journal : Journal). journal.tally) notes.1

pub returns-clause-paused : goal.returns-clause-paused
returns-clause-paused c = λ was is notes. notes.0

pub returns-clause-quiet : goal.returns-clause-quiet
returns-clause-quiet c = λ traffic was is waits. waits.0
