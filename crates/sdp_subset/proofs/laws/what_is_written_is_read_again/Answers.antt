use Rattle.sdp_subset.proofs.WrittenLaws.{read_again}
use Rattle.sdp_subset.proofs.laws.what_is_written_is_read_again.Goals as goal

pub returns : goal.returns
returns c = read_again
