use Rattle.std.proofs.Common.{◌≡◌, ◌+◌, [], take, drop}
use Rattle.command_forms.specs.Params.{params_fault}
use Rattle.command_forms.proofs.params.params_fault.Given as goal

abbrev pub invariant-loop-place : goal.invariant-loop-place
invariant-loop-place l = params_fault l.row (l.place + 1) (take l.place l.params) (drop l.place l.params) ≡ params_fault l.row 1 [] l.params
