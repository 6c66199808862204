use Rattle.audits.proofs.PickLaws.{picked_at, picked_distinct}
use Rattle.audits.proofs.laws.a_report_has_what_is_asked_for.Goals as goal

pub returns-clause-asked : goal.returns-clause-asked
returns-clause-asked c = picked_at

pub returns-clause-once : goal.returns-clause-once
returns-clause-once c = picked_distinct
