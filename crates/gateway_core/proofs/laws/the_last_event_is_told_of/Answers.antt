use Rattle.std.proofs.Common.{◌≡◌, [], refl}
use Rattle.plain_machine.specs.declared.setup.Setup.{Setup}
use Rattle.plain_machine.specs.Machine.{opening}
use Rattle.gateway_core.specs.Outcomes.{outcomes_after, last_outcomes}
use Rattle.gateway_core.proofs.StandLemmas.{outcomes_on}
use Rattle.gateway_core.proofs.laws.the_last_event_is_told_of.Goals as goal

nothing_told : (setup : Setup) → last_outcomes setup [] ≡ []
unfolding outcomes_after
nothing_told setup = refl

pub returns-clause-none : goal.returns-clause-none
returns-clause-none c = λ setup. nothing_told setup

pub returns-clause-last : goal.returns-clause-last
returns-clause-last c = λ setup before event. outcomes_on setup (opening setup) [] before event
