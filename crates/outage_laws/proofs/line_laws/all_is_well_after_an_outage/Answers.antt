use Rattle.outage_laws.proofs.ServesLaws.{young_quick}
use Rattle.outage_laws.proofs.SlowQuarantines.{well_out_always, well_rests_always}
use Rattle.outage_laws.proofs.WellLaws.{is_well, well_answered}
use Rattle.outage_laws.proofs.line_laws.all_is_well_after_an_outage.Goals as goal

pub returns-clause-well : goal.returns-clause-well
returns-clause-well c = λ setup steps since within run young fair roomy reach late.
    is_well setup steps since within run.0 run.1 (young_quick within young) fair roomy reach late

pub returns-clause-answered : goal.returns-clause-answered
returns-clause-answered c = λ setup steps since within line before after endpoint run young fair roomy reach took there late.
    well_answered setup steps since within run.0 run.1 (young_quick within young) fair roomy reach line before after endpoint took there late

pub returns-clause-out : goal.returns-clause-out
returns-clause-out c = λ setup steps since within line asking before after was endpoint run fair roomy reach took at there late asked last.
    well_out_always setup steps since within line asking before after was endpoint run.0 run.1 fair roomy reach took at there late asked last

pub returns-clause-rests : goal.returns-clause-rests
returns-clause-rests c = λ setup steps since within line asking before after was endpoint run fair roomy reach took at there late asked last rests.
    well_rests_always setup steps since within line asking before after was endpoint run.0 run.1 fair roomy reach took at there late asked last rests
