use Rattle.std.proofs.Common.{◌≡◌, ◌++◌, drop}
use Rattle.line_changes.specs.Seen.{seen_from}
use Rattle.line_changes.proofs.seen.seen_connections.Given as goal

abbrev pub invariant-loop-held : goal.invariant-loop-held
invariant-loop-held l =
    l.list.items ++ seen_from l.address l.port (drop l.held-index l.places) ≡ seen_from l.address l.first_port l.places
