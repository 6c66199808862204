use Rattle.outage_laws.proofs.LineServesLaws.{agent_is_there, agent_is_there_by}
use Rattle.outage_laws.proofs.ServesLaws.{young_quick}
use Rattle.outage_laws.proofs.line_laws.a_line_has_its_agent_again_after_an_outage.Goals as goal

pub returns-clause-behind_the_last : goal.returns-clause-behind_the_last
returns-clause-behind_the_last c = λ setup steps since within line endpoint run young fair roomy reach at late.
    agent_is_there setup steps since within line endpoint run.0 run.1 (young_quick within young) fair roomy reach at late

pub returns-clause-behind_any : goal.returns-clause-behind_any
returns-clause-behind_any c = λ setup steps since within wait line endpoint run fair roomy reach at among few late.
    agent_is_there_by setup steps since within wait line endpoint run.0 run.1 fair roomy reach at among few late
