use Rattle.std.proofs.Common.{◌≡◌, ◌++◌, drop}
use Rattle.std.specs.List.{flat_map}
use Rattle.line_changes.specs.Changes.{begun}
use Rattle.line_changes.proofs.changing.put_begun.Given as goal

abbrev pub invariant-loop-active : goal.invariant-loop-active
invariant-loop-active l =
    l.out.items ++ flat_map (begun l.were) (drop l.active-index l.are) ≡ l.fn.out.items ++ flat_map (begun l.were) l.are
