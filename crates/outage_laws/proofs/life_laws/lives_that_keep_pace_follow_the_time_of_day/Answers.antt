use Rattle.std.proofs.Common.{◌≡◌, ℕ, true, List}
use Rattle.outage_laws.proofs.CountedLives.{paced_follow, paced_lie_apart, paced_left}
use Rattle.outage_laws.proofs.life_laws.lives_that_keep_pace_follow_the_time_of_day.Goals as goal

pub returns : goal.returns
returns c = record { follow = paced_follow; apart = paced_lie_apart; numbers_left = paced_left }
