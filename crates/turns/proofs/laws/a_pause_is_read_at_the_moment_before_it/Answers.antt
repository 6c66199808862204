use Rattle.turns.proofs.ScheduleLaws.{pause_without_ticks, pause_has_enough, pause_is_not_far}
use Rattle.turns.proofs.laws.a_pause_is_read_at_the_moment_before_it.Goals as goal

pub returns-clause-no_tick : goal.returns-clause-no_tick
returns-clause-no_tick c = pause_without_ticks

pub returns-clause-most : goal.returns-clause-most
returns-clause-most c = pause_has_enough

pub returns-clause-not_far : goal.returns-clause-not_far
returns-clause-not_far c = pause_is_not_far
