use Rattle.std.proofs.Common.{◌≡◌}
use Rattle.std.specs.List.{list_all}
use Rattle.mg_bytes.specs.Items.{items_of}
use Rattle.connections.specs.Options.{is_once}
use Rattle.connections.proofs.option_items.are_options.Given as goal

abbrev pub invariant-loop-item : goal.invariant-loop-item
invariant-loop-item l = list_all (is_once (items_of l.list)) l.item-iterator ≡ list_all (is_once (items_of l.list)) (items_of l.list)
