use Rattle.live_laws.proofs.DescriptionLaws.{described_there}
use Rattle.live_laws.proofs.call_laws.a_description_is_that_of_the_other_end.Goals as goal

pub returns : goal.returns
returns c = described_there
