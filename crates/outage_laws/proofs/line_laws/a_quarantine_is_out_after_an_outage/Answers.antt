use Rattle.outage_laws.proofs.LineWindowLaws.{answered_behind}
use Rattle.outage_laws.proofs.ServesLaws.{young_quick}
use Rattle.outage_laws.proofs.SlowQuarantines.{out_always, rests_always}
use Rattle.outage_laws.proofs.line_laws.a_quarantine_is_out_after_an_outage.Goals as goal

pub returns-clause-answered : goal.returns-clause-answered
returns-clause-answered c = λ setup steps since within line before after endpoint run young fair roomy reach took serving there late.
    answered_behind setup steps since within line before after endpoint run.0 run.1 (young_quick within young) fair roomy reach took serving there late

pub returns-clause-out : goal.returns-clause-out
returns-clause-out c = λ setup steps since within line asking before after was endpoint run fair roomy reach took serving at there late asked last.
    out_always setup steps since within line asking before after was endpoint run.0 run.1 fair roomy reach took serving at there late asked last

pub returns-clause-rests : goal.returns-clause-rests
returns-clause-rests c = λ setup steps since within line asking before after was endpoint run fair roomy reach took serving at there late asked last rests.
    rests_always setup steps since within line asking before after was endpoint run.0 run.1 fair roomy reach took serving at there late asked last rests
