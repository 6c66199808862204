use Rattle.std.proofs.Common.{Bool, ◌∙◌, ap}
use Rattle.std.specs.Prelude.{⊤, Result}
use Rattle.live_system.specs.Waiting.{longest_wait}
use Rattle.live_io.specs.declared.surroundings.Fault.{Fault}
use Rattle.live_gateway.specs.Exchanging.{faults_behind}
use Rattle.live_laws.proofs.turning_examples.what_a_wait_comes_to_has_examples.Goals as goal

pub returns-clause-lasts : goal.returns-clause-lasts
returns-clause-lasts c = λ was is free waits. waits.waited.1 ∙ ap (λ (b : Bool). longest_wait b 700) free

pub returns-clause-offers : goal.returns-clause-offers
returns-clause-offers c = λ was is waiting waits. waits.waited.1 ∙ ap (λ (b : Bool). longest_wait b 700) waiting

pub returns-clause-failed : goal.returns-clause-failed
returns-clause-failed c = λ fault was is waits.
    waits.waited.2 ∙ ap (λ (outcome : Result ⊤ Fault). faults_behind outcome was.exchange.faults) waits.waited.1

pub returns-clause-went_well : goal.returns-clause-went_well
returns-clause-went_well c = λ was is waits.
    waits.waited.2 ∙ ap (λ (outcome : Result ⊤ Fault). faults_behind outcome was.exchange.faults) waits.waited.1

pub returns-clause-until : goal.returns-clause-until
returns-clause-until c = λ visitors left was is free leaves. leaves.0.waited.1 ∙ ap (λ (b : Bool). longest_wait b 700) free

pub returns-clause-looks : goal.returns-clause-looks
returns-clause-looks c = λ visitors left was is free leaves. leaves.0.waited.1 ∙ ap (λ (b : Bool). longest_wait b 0) free
