use Rattle.std.proofs.Common.{◌≡◌, ◌++◌, drop}
use Rattle.std.specs.List.{flat_map}
use Rattle.line_changes.specs.Changes.{ended}
use Rattle.line_changes.proofs.changing.put_ended.Given as goal

abbrev pub invariant-loop-active : goal.invariant-loop-active
invariant-loop-active l =
    l.out.items ++ flat_map (ended l.are) (drop l.active-index l.were) ≡ l.fn.out.items ++ flat_map (ended l.are) l.were
