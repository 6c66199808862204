use Rattle.std.proofs.Common.{◌≡◌}
use Rattle.std.specs.List.{list_all}
use Rattle.packages.specs.Cuts.{entries}
use Rattle.event_syntax.specs.EventSpelling.{is_detected}
use Rattle.event_syntax.proofs.event_spelling.are_detected.Given as goal

abbrev pub invariant-loop-entry : goal.invariant-loop-entry
invariant-loop-entry l = list_all is_detected l.entry-iterator ≡ list_all is_detected (entries l.value)
