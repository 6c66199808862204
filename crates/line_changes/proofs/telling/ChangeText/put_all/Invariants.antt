use Rattle.std.proofs.Common.{◌≡◌, take}
use Rattle.line_changes.specs.Telling.{with_changes}
use Rattle.line_changes.proofs.telling.ChangeText.put_all.Given as goal

abbrev pub invariant-loop-change : goal.invariant-loop-change
invariant-loop-change l = l.self ≡ with_changes l.moment l.line l.fn.self (take l.change-index l.changes)
