use Rattle.std.proofs.Common.{◌≡◌, ◌++◌, drop}
use Rattle.std.specs.List.{flat_map}
use Rattle.agent_log.specs.Counts.{entry_text}
use Rattle.agent_log.proofs.tally.put_entries.Given as goal

abbrev pub invariant-loop-before : goal.invariant-loop-before
invariant-loop-before l =
    l.out ++ flat_map entry_text (drop l.before-index l.entries) ≡ l.fn.out ++ flat_map entry_text l.entries
