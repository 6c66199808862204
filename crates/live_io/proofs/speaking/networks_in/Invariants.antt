use Rattle.std.proofs.Common.{◌≡◌, []}
use Rattle.mg_bytes.specs.Items.{items_of}
use Rattle.live_io.specs.Speaking.{networks_from}
use Rattle.live_io.proofs.speaking.networks_in.Given as goal

abbrev pub invariant-loop-item : goal.invariant-loop-item
invariant-loop-item l = networks_from l.networks.items l.item-iterator ≡ networks_from [] (items_of l.text)
