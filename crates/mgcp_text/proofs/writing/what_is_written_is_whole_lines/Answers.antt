use Rattle.mgcp_text.proofs.WholeLemmas.{whole_written}
use Rattle.mgcp_text.proofs.writing.what_is_written_is_whole_lines.Goals as goal

pub returns-clause-ends : goal.returns-clause-ends
returns-clause-ends c = λ said can. (whole_written said can).ends

pub returns-clause-apart : goal.returns-clause-apart
returns-clause-apart c = λ said can. (whole_written said can).apart
