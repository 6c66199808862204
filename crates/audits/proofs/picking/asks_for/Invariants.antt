use Rattle.std.proofs.Common.{◌≡◌}
use Rattle.mg_bytes.specs.Items.{items_of}
use Rattle.audits.specs.Picking.{asks_for}
use Rattle.audits.proofs.picking.asks_for.Given as goal

abbrev pub invariant-loop-item : goal.invariant-loop-item
invariant-loop-item l = asks_for l.code l.items ≡ asks_for l.code (items_of l.list)
