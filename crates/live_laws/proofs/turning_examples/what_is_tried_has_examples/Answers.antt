use Rattle.std.proofs.Common.{ℕ, ap}
use Rattle.live_gateway.specs.declared.desk.Desk.{Desk}
use Rattle.live_laws.proofs.TurnExampleLemmas.{taken_keeps, tried_counts, freely_ticks, freely_done, heard_or_unremembered}
use Rattle.live_laws.proofs.turning_examples.what_is_tried_has_examples.Goals as goal

pub returns-clause-taken : goal.returns-clause-taken
returns-clause-taken c = taken_keeps

pub returns-clause-tried : goal.returns-clause-tried
returns-clause-tried c = tried_counts

pub returns-clause-ticked : goal.returns-clause-ticked
returns-clause-ticked c = freely_ticks

pub returns-clause-heard : goal.returns-clause-heard
returns-clause-heard c = heard_or_unremembered

pub returns-clause-done : goal.returns-clause-done
returns-clause-done c = freely_done

pub returns-clause-acted : goal.returns-clause-acted
returns-clause-acted c = λ was is acts. (
  ap (λ (desk : Desk ℕ ℕ). desk.end) acts.rest,
  ap (λ (desk : Desk ℕ ℕ). desk.admission) acts.rest,
)
