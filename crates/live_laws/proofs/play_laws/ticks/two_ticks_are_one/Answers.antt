use Rattle.live_laws.proofs.TickLaws.{joined_machine, joined_sent}
use Rattle.live_laws.proofs.play_laws.ticks.two_ticks_are_one.Goals as goal

pub returns-clause-machine : goal.returns-clause-machine
returns-clause-machine c = joined_machine

pub returns-clause-sent : goal.returns-clause-sent
returns-clause-sent c = joined_sent
