use Rattle.impairment.proofs.WayLaws.{own_draws}
use Rattle.impairment.proofs.laws.each_way_has_its_own_draws.Goals as goal

pub returns : goal.returns
returns c = own_draws
