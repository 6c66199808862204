use Rattle.std.proofs.Common.{◌≡◌, length}
use Rattle.std.specs.Prelude.{None}
use Rattle.connections.specs.Options.{with_names, names_of}
use Rattle.connections.proofs.option_items.codecs_in.Given as goal

abbrev pub invariant-loop-name : goal.invariant-loop-name
invariant-loop-name l = with_names l.codecs (names_of l.rest) ≡ with_names None (names_of l.value)

abbrev pub decreases-loop-name : goal.decreases-loop-name
decreases-loop-name l = length l.rest
