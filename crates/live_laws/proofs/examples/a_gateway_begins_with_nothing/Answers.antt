use Rattle.std.proofs.Common.{◌≡◌, sym, ap}
use Rattle.std.proofs.lemmas.Bool.{true≢false}
use Rattle.impairment.specs.declared.draws.Generators.{Generators}
use Rattle.message_counts.specs.declared.reporting.Faults.{Faults}
use Rattle.live_laws.proofs.examples.a_gateway_begins_with_nothing.Goals as goal

pub returns-clause-no_page : goal.returns-clause-no_page
returns-clause-no_page c = λ board begins. true≢false begins.0

pub returns-clause-page : goal.returns-clause-page
returns-clause-page c = λ begins. true≢false (sym begins.0)

pub returns-clause-unasked : goal.returns-clause-unasked
returns-clause-unasked c = λ board begins. begins.1.1

pub returns-clause-unspoilt : goal.returns-clause-unspoilt
returns-clause-unspoilt c = λ domain way begins. true≢false begins.0

pub returns-clause-unsent : goal.returns-clause-unsent
returns-clause-unsent c = λ spoiling domain way begins. begins.1.0

pub returns-clause-spoilt : goal.returns-clause-spoilt
returns-clause-spoilt c = λ spoiling domain way begins. begins.1.1.0

pub returns-clause-drawn : goal.returns-clause-drawn
returns-clause-drawn c = λ spoiling domain way begins. ap (λ (generators : Generators). generators.outgoing) begins.1.1.1

pub returns-clause-unused : goal.returns-clause-unused
returns-clause-unused c = λ exchange unused. (ap (λ (faults : Faults). faults.send) unused.1, unused.0)

pub returns-clause-unplayed : goal.returns-clause-unplayed
returns-clause-unplayed c = λ play unplayed. unplayed.1

pub returns-clause-untyped : goal.returns-clause-untyped
returns-clause-untyped c = λ lines untyped. untyped
