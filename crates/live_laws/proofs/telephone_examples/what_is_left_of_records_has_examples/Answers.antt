use Rattle.std.proofs.Common.{ℕ, Option, ◌∙◌, ap}
use Rattle.std.specs.Global.{Box}
use Rattle.output_queues.specs.declared.outlet.Outlet.{Outlet}
use Rattle.told_messages.specs.declared.log.Log.{Log}
use Rattle.live_journal.specs.Writing.{capture_faults}
use Rattle.live_journal.specs.declared.capture.Capture.{Capture}
use Rattle.live_laws.proofs.TelephoneExampleLemmas.{begins_with_its_head, keeps_all}
use Rattle.live_laws.proofs.telephone_examples.what_is_left_of_records_has_examples.Goals as goal

pub returns-clause-log : goal.returns-clause-log
returns-clause-log c = λ was is keeps. (keeps.0.0, keeps.0.1, ap (λ (l : Log). l.domain) keeps.1)

pub returns-clause-no_file : goal.returns-clause-no_file
returns-clause-no_file c = keeps_all

pub returns-clause-file : goal.returns-clause-file
returns-clause-file c = λ file was is keeps. (keeps.0, ap (λ (k : Capture). k.name) keeps.1)

pub returns-clause-written : goal.returns-clause-written
returns-clause-written c = λ outlets written is. (is.1, is.2)

pub returns-clause-unwritten : goal.returns-clause-unwritten
returns-clause-unwritten c = λ outlets written none is. is.3 ∙ ap (λ (file : Option (Box (Outlet ℕ))). capture_faults file) none

pub returns-clause-off : goal.returns-clause-off
returns-clause-off c = λ state are begins. begins

pub returns-clause-on : goal.returns-clause-on
returns-clause-on c = begins_with_its_head

pub returns-clause-refused : goal.returns-clause-refused
returns-clause-refused c = λ state are begins. begins.0

pub returns-clause-captured : goal.returns-clause-captured
returns-clause-captured c = λ was is packet captures. (ap (λ (k : Capture). k.here) captures.1, ap (λ (k : Capture). k.name) captures.1)
