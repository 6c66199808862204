use Rattle.std.proofs.Common.{◌≡◌, ◌*◌, ◌<◌, ◌^◌, length, drop, slice_set}
use Rattle.timers.proofs.TreeLemmas.{IsTreeBut}
use Rattle.timers.proofs.winners.Winners.put.Given as goal

-- the tree is one but at this node, and the leaf has what it is given
abbrev pub invariant-loop-node : goal.invariant-loop-node
invariant-loop-node l = record {
  size : length l.self-inside.nodes.items ≡ 2 * l.self-inside.leaves;
  some : 0 < l.self-inside.leaves;
  few : l.self-inside.leaves < 2 ^ 32;
  within : l.node < l.self-inside.leaves;
  tree : IsTreeBut l.node l.self-inside.leaves l.self-inside.nodes.items;
  leaves : drop l.self-inside.leaves l.self-inside.nodes.items ≡ slice_set l.fn.self l.leaf l.fn.item;
}

abbrev pub decreases-loop-node : goal.decreases-loop-node
decreases-loop-node l = l.node
