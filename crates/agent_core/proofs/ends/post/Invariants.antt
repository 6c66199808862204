use Rattle.std.proofs.Common.{◌≡◌, ◌++◌, map}
use Rattle.std.specs.Vec.Iter.{into_iter_items}
use Rattle.agent_core.specs.World.{posted_as}
use Rattle.agent_core.proofs.ends.post.Given as goal

abbrev pub invariant-loop-out : goal.invariant-loop-out
invariant-loop-out l = l.posted.items ++ map (posted_as l.end l.sender) (into_iter_items l.out-iterator) ≡ l.fn.posted.items ++ map (posted_as l.fn.sent.end l.fn.sent.sender) l.fn.sent.outputs
