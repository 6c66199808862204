use Rattle.mgcp_text.proofs.RoundLaws.{read_again}
use Rattle.mgcp_text.proofs.writing.what_is_written_is_read_again.Goals as goal

pub returns : goal.returns
returns c = read_again
