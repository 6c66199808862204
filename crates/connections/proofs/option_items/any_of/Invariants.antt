use Rattle.std.proofs.Common.{◌≡◌}
use Rattle.std.specs.List.{list_any}
use Rattle.connections.specs.Options.{is_of}
use Rattle.connections.proofs.option_items.any_of.Given as goal

abbrev pub invariant-loop-item : goal.invariant-loop-item
invariant-loop-item l = list_any (is_of l.name) l.item-iterator ≡ list_any (is_of l.name) l.fn.items
