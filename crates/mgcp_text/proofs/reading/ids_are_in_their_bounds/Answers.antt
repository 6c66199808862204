use Rattle.mgcp_text.proofs.IdLemmas.{read_id}
use Rattle.mgcp_text.proofs.reading.ids_are_in_their_bounds.Goals as goal

pub returns : goal.returns
returns c = read_id
