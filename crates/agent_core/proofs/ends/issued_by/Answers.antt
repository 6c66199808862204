use Rattle.agent_core.proofs.EndLemmas.{issue_done}
use Rattle.agent_core.proofs.ends.issued_by.Goals as goal

pub returns-clause-ends : goal.returns-clause-ends
returns-clause-ends c = λ before s. issue_done _ (c.in-Ok.ensures.ends before s)
