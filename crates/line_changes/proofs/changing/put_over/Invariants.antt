use Rattle.std.proofs.Common.{◌≡◌, ◌++◌, drop}
use Rattle.std.specs.List.{flat_map}
use Rattle.line_changes.specs.Changes.{over}
use Rattle.line_changes.proofs.changing.put_over.Given as goal

abbrev pub invariant-loop-connection : goal.invariant-loop-connection
invariant-loop-connection l =
    l.out.items ++ flat_map (over l.are) (drop l.connection-index l.were) ≡ l.fn.out.items ++ flat_map (over l.are) l.were
