use Rattle.std.proofs.Common.{◌≡◌, ◌<◌, ◌≤◌, ◌+◌, ◌*◌, length, slice_set, None, ap, sym, ◌∙◌, arith}
use Rattle.std.proofs.lemmas.List.{drop-set-add, drop-set-lt, get_or_default}
use Rattle.std.proofs.lemmas.Grind.{common_steps}
use Rattle.timers.proofs.TreeLemmas.{at, won_by, leaf_changed, node_mended, whole}
use Rattle.timers.proofs.winners.Winners.put.Goals as goal

pub loop-node-init : goal.loop-node-init
loop-node-init c =
    let leaves = c.self.inside.leaves in
    let nodes = c.self.inside.nodes.items in
    let size : length nodes ≡ 2 * leaves = c.self.invariant.size in
    let within : c.args.leaf < leaves = grind (arith, common_steps, size, c.self.view_is, c.requires) in
    record {
      size = grind (arith, common_steps, size);
      some = c.self.invariant.some;
      few = c.self.invariant.few;
      within = omega arith;
      tree = leaf_changed leaves (leaves + c.args.leaf) nodes c.args.item c.self.invariant (omega arith);
      leaves =
          drop-set-add leaves nodes c.args.leaf c.args.item
          ∙ ap (λ x. slice_set x c.args.leaf c.args.item) c.self.view_is;
    }

pub loop-node-preserved : goal.loop-node-preserved
loop-node-preserved c =
    let leaves = c.loop-node.self-inside.leaves in
    let nodes = c.loop-node.self-inside.nodes.items in
    let node = c.loop-node.node in
    let size : length nodes ≡ 2 * leaves = c.loop-node.invariant.size in
    let below : node < leaves = c.loop-node.invariant.within in
    let inside : node < length nodes = omega arith in
    let some : 1 ≤ node = omega arith in
    record {
      size = grind (arith, common_steps, size);
      some = c.loop-node.invariant.some;
      few = c.loop-node.invariant.few;
      within = omega arith;
      tree =
          node_mended node leaves nodes c.earlier-winner.result c.loop-node.invariant.tree some inside
          (won_by nodes node c.index.result.now c.index-in-loop-node.result.now c.earlier-winner.result (omega arith)
          c.index.ensures c.index-in-loop-node.ensures c.earlier-winner.ensures);
      leaves = drop-set-lt leaves nodes node c.earlier-winner.result below ∙ c.loop-node.invariant.leaves;
    }

pub invariant_of-self-then-is_same : goal.invariant_of-self-then-is_same
invariant_of-self-then-is_same c =
    let leaves = c.loop-node.self-inside.leaves in
    let nodes = c.loop-node.self-inside.nodes.items in
    let node = c.loop-node.node in
    let size : length nodes ≡ 2 * leaves = c.loop-node.invariant.size in
    let below : node < leaves = c.loop-node.invariant.within in
    let inside : node < length nodes = omega arith in
    let has : c.index-in-loop-node-2.result.now ≡ at nodes node =
    c.index-in-loop-node-2.ensures ∙ get_or_default nodes node c.index-in-loop-node-2.result.now None inside in
    let same : c.earlier-winner.result ≡ c.index-in-loop-node-2.result.now = c.is_same.ensures.0 c.if-is_same.true in
    record {
      size = size;
      some = c.loop-node.invariant.some;
      few = c.loop-node.invariant.few;
      won =
          whole node leaves nodes c.loop-node.invariant.tree
          (sym (same ∙ has)
          ∙ won_by nodes node c.index.result.now c.index-in-loop-node.result.now c.earlier-winner.result (omega arith)
          c.index.ensures c.index-in-loop-node.ensures c.earlier-winner.ensures);
    }
