use Rattle.std.proofs.Common.{◌≡◌, ◌++◌, drop}
use Rattle.std.specs.List.{flat_map}
use Rattle.message_counts.specs.Reporting.{entry_text}
use Rattle.message_counts.proofs.reporting.put_numbers.Given as goal

abbrev pub invariant-loop-before : goal.invariant-loop-before
invariant-loop-before l =
    l.text ++ flat_map entry_text (drop l.before-index l.numbers) ≡ l.fn.text ++ flat_map entry_text l.numbers
