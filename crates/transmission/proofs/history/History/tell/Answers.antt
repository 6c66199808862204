use Rattle.std.proofs.Common.{rules}
use Rattle.transmission.specs.Looking.{look_of}
use Rattle.transmission.proofs.history.History.tell.Goals as goal

pub returns-in-Some : goal.returns-in-Some
unfolding look_of
returns-in-Some c = search rules

pub returns-in-Some-2 : goal.returns-in-Some-2
unfolding look_of
returns-in-Some-2 c = search rules
