use Rattle.std.proofs.Common.{rules}
use Rattle.timers.proofs.TreeLemmas.{opened}
use Rattle.timers.proofs.winners.Winners.new.Goals as goal

pub returns : goal.returns
returns c = opened c.args.leaves c.resize.new.self.items (search rules)
