use Rattle.std.proofs.Common.{◌≡◌, [], refl, ap}
use Rattle.output_queues.specs.Written.{faults_in}
use Rattle.output_queues.specs.declared.written.Written.{Written}
use Rattle.log_format.specs.File.{file_head}
use Rattle.output_queues.specs.declared.record.RecordState.TheVariants.{On}
use Rattle.told_messages.specs.declared.strangers.Quiet.{Quiet}
use Rattle.live_laws.proofs.TurnExampleLemmas.{noted_on}
use Rattle.live_laws.proofs.examples.a_gateway_records_what_is_asked_for.Goals as goal

pub returns-clause-unlogged : goal.returns-clause-unlogged
returns-clause-unlogged c = λ domain log begins. begins.0

pub returns-clause-logged : goal.returns-clause-logged
returns-clause-logged c = λ log begins. (begins.0, begins.1)

pub returns-clause-left_out : goal.returns-clause-left_out
returns-clause-left_out c = λ log begins. begins.2

pub returns-clause-unowed : goal.returns-clause-unowed
returns-clause-unowed c = λ log begins. (begins.3, begins.4)

pub returns-clause-silent : goal.returns-clause-silent
returns-clause-silent c = λ log begins. (begins.6, ap (λ (quiet : Quiet). quiet.untold) begins.7)

pub returns-clause-uncaptured : goal.returns-clause-uncaptured
returns-clause-uncaptured c = λ here capture begins. (begins.0.0, begins.3)

pub returns-clause-captured : goal.returns-clause-captured
returns-clause-captured c = λ name here capture begins. (begins.1, begins.2)

pub returns-clause-head : goal.returns-clause-head
returns-clause-head c = λ name here capture begins on.
    noted_on On [] file_head capture.record.state capture.record.out.items refl on begins.0

pub returns-clause-written : goal.returns-clause-written
returns-clause-written c = λ settings domain journal begins.
    (ap (λ (w : Written). w.dropped) begins.2, ap (λ (w : Written). faults_in w) begins.2)

pub returns-clause-asked : goal.returns-clause-asked
returns-clause-asked c = λ settings domain journal begins. (begins.0.0, begins.1.1)
