use Rattle.audits.proofs.PickLaws.{picked_begins}
use Rattle.audits.proofs.laws.a_report_has_the_order_of_f.Goals as goal

pub returns : goal.returns
returns c = picked_begins
