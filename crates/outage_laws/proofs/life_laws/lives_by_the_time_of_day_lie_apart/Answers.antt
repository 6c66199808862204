use Rattle.outage_laws.proofs.CountedLives.{by_time_they_lie_apart}
use Rattle.outage_laws.proofs.life_laws.lives_by_the_time_of_day_lie_apart.Goals as goal

pub returns : goal.returns
returns c = by_time_they_lie_apart
