use Rattle.std.proofs.Common.{◌≡◌}
use Rattle.mg_bytes.specs.Items.{items_of}
use Rattle.line_control.specs.Hooks.{hook_among}
use Rattle.line_control.proofs.hooks.hook_in.Given as goal

abbrev pub invariant-loop-state : goal.invariant-loop-state
invariant-loop-state l = hook_among l.state-iterator ≡ hook_among (items_of l.states)
