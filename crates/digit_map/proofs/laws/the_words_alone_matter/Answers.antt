use Rattle.digit_map.proofs.VerdictLaws.{same_verdict, same_critical}
use Rattle.digit_map.proofs.laws.the_words_alone_matter.Goals as goal

pub returns-clause-verdict : goal.returns-clause-verdict
returns-clause-verdict c = same_verdict

pub returns-clause-critical : goal.returns-clause-critical
returns-clause-critical c = same_critical
