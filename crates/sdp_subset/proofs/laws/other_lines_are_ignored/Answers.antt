use Rattle.sdp_subset.proofs.AsideLaws.{aside_same}
use Rattle.sdp_subset.proofs.laws.other_lines_are_ignored.Goals as goal

pub returns : goal.returns
returns c = aside_same
