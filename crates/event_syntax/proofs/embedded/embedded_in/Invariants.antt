use Rattle.std.proofs.Common.{◌≡◌}
use Rattle.packages.specs.Cuts.{items}
use Rattle.event_syntax.specs.Embedding.{nothing_embedded, with_parts}
use Rattle.event_syntax.proofs.embedded.embedded_in.Given as goal

abbrev pub invariant-loop-part : goal.invariant-loop-part
invariant-loop-part l = with_parts l.request l.part-iterator ≡ with_parts nothing_embedded (items l.inside)
