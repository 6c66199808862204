use Rattle.connections.proofs.IdentifierLemmas.{one_number}
use Rattle.connections.proofs.laws.an_identifier_names_one_number.Goals as goal

pub returns : goal.returns
returns c = one_number
