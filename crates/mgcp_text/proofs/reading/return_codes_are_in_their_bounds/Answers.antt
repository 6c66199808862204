use Rattle.mgcp_text.proofs.IdLemmas.{read_code}
use Rattle.mgcp_text.proofs.reading.return_codes_are_in_their_bounds.Goals as goal

pub returns : goal.returns
returns c = read_code
