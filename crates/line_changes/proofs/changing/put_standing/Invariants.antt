use Rattle.std.proofs.Common.{◌≡◌, ◌++◌, drop}
use Rattle.std.specs.List.{flat_map}
use Rattle.line_changes.specs.Changes.{standing}
use Rattle.line_changes.proofs.changing.put_standing.Given as goal

abbrev pub invariant-loop-connection : goal.invariant-loop-connection
invariant-loop-connection l =
    l.out.items ++ flat_map (standing l.were) (drop l.connection-index l.are) ≡ l.fn.out.items ++ flat_map (standing l.were) l.are
