use Rattle.std.proofs.Common.{ℕ, Result, Ok, Err, ap}
use Rattle.live_io.specs.declared.surroundings.Fault.{Fault}
use Rattle.live_agent.specs.declared.wire.Wire.{Wire}
use Rattle.live_agent.proofs.next_examples.what_is_done_next_has_examples.Goals as goal

pub returns-clause-stands : goal.returns-clause-stands
returns-clause-stands c = λ board now was is schedule next does. does.situation

abbrev moment_in : Result ℕ Fault → ℕ
moment_in (Ok moment) = moment
moment_in (Err fault) = 0

pub returns-clause-asked : goal.returns-clause-asked
returns-clause-asked c = λ board now was is schedule next does. (ap moment_in does.situation.read_so, does.dated)

pub returns-clause-begins : goal.returns-clause-begins
returns-clause-begins c = λ board now was is schedule next does.
    let begins = does.begins in (
      ap (λ (wire : Wire ℕ). wire.around) begins,
      ap (λ (wire : Wire ℕ). wire.network) begins,
      ap (λ (wire : Wire ℕ). wire.now.clock) begins,
      ap (λ (wire : Wire ℕ). wire.read) begins,
      ap (λ (wire : Wire ℕ). wire.end) begins,
      ap (λ (wire : Wire ℕ). wire.is_offering) begins,
    )

pub returns-clause-settles : goal.returns-clause-settles
returns-clause-settles c = λ board now was is schedule next does. does.settles

pub returns-clause-turn : goal.returns-clause-turn
returns-clause-turn c = λ board now was is schedule next does. does.does
