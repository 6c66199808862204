use Rattle.sdp_subset.proofs.SpellingLaws.{reads_some, reads_only}
use Rattle.sdp_subset.proofs.laws.one_reading.Goals as goal

pub returns-clause-some : goal.returns-clause-some
returns-clause-some c = reads_some

pub returns-clause-only : goal.returns-clause-only
returns-clause-only c = reads_only
