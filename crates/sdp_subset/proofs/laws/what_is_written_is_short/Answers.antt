use Rattle.sdp_subset.proofs.WholeLemmas.{two_written, any_written}
use Rattle.sdp_subset.proofs.laws.what_is_written_is_short.Goals as goal

pub returns-clause-two : goal.returns-clause-two
returns-clause-two c = two_written

pub returns-clause-any : goal.returns-clause-any
returns-clause-any c = any_written
