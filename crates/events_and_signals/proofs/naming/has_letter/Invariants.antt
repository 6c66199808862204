use Rattle.std.proofs.Common.{◌≡◌, length}
use Rattle.std.specs.List.{list_any}
use Rattle.event_syntax.specs.Ranges.{chosen}
use Rattle.events_and_signals.specs.Naming.{is_same_letter, has_letter}
use Rattle.events_and_signals.proofs.naming.has_letter.Given as goal

abbrev pub invariant-loop-rest : goal.invariant-loop-rest
invariant-loop-rest l =
    list_any (λ other. is_same_letter other l.letter) (chosen l.rest l.left) ≡ has_letter l.fn.set l.letter

abbrev pub decreases-loop-rest : goal.decreases-loop-rest
decreases-loop-rest l = length l.rest
