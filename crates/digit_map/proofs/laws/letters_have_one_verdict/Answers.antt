use Rattle.digit_map.proofs.VerdictLaws.{verdict_is, verdict_only}
use Rattle.digit_map.proofs.laws.letters_have_one_verdict.Goals as goal

pub returns-clause-some : goal.returns-clause-some
returns-clause-some c = verdict_is

pub returns-clause-only : goal.returns-clause-only
returns-clause-only c = verdict_only
