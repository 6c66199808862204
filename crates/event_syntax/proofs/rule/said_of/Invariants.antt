use Rattle.std.proofs.Common.{◌≡◌}
use Rattle.packages.specs.Cuts.{items}
use Rattle.event_syntax.specs.Actions.{said_of, so_far_seen}
use Rattle.event_syntax.proofs.ActionLemmas.{said_behind}
use Rattle.event_syntax.proofs.rule.said_of.Given as goal

abbrev pub invariant-loop-action : goal.invariant-loop-action
invariant-loop-action l = said_behind (so_far_seen l.so_far) l.action-iterator ≡ said_of (items l.actions)
