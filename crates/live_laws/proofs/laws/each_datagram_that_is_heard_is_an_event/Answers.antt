use Rattle.std.proofs.Common.{refl}
use Rattle.live_io.proofs.TrafficLemmas.{known}
use Rattle.live_play.proofs.RunLemmas.{ran_stays}
use Rattle.live_gateway.proofs.DeskLemmas.{refused_by}
use Rattle.live_laws.proofs.LiveLaws.{all_are_taken, none_refused}
use Rattle.live_laws.proofs.laws.each_datagram_that_is_heard_is_an_event.Goals as goal

pub returns-clause-taken : goal.returns-clause-taken
returns-clause-taken c = λ admission was is entries came missing were are went had has none. (
  known was.came.received is.came.received came were are went.received had has,
  all_are_taken admission was is entries came missing went none,
)

pub returns-clause-none_missing : goal.returns-clause-none_missing
returns-clause-none_missing c = none_refused

pub returns-clause-refuses_an_act : goal.returns-clause-refuses_an_act
returns-clause-refuses_an_act c = λ admission was. refused_by admission was was (ran_stays was.live) refl
