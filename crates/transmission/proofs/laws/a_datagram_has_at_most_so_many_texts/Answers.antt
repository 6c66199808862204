use Rattle.transmission.proofs.TextLaws.{few_texts}
use Rattle.transmission.proofs.laws.a_datagram_has_at_most_so_many_texts.Goals as goal

pub returns : goal.returns
returns c = few_texts
