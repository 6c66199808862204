use Rattle.std.proofs.Common.{ap, ◌∙◌, arith, None, ◌<◌, ◌≡◌, ◌*◌, length}
use Rattle.std.proofs.lemmas.List.{get_or_default}
use Rattle.timers.specs.Leaves.{first_of}
use Rattle.timers.proofs.TreeLemmas.{root_first}
use Rattle.timers.proofs.winners.Winners.first.Goals as goal

pub returns : goal.returns
returns c =
    let nodes = c.self.inside.nodes.items in
    let size : length nodes ≡ 2 * c.self.inside.leaves = c.self.invariant.size in
    let some : 0 < c.self.inside.leaves = c.self.invariant.some in
    c.index.ensures
    ∙ get_or_default nodes 1 c.index.result.now None (omega arith)
    ∙ root_first c.self.inside.leaves nodes c.self.invariant
    ∙ ap first_of c.self.view_is
