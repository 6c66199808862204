use Rattle.std.proofs.Common.{◌≡◌, ◌++◌, drop}
use Rattle.telephone_control.specs.Picturing.{verbs_from}
use Rattle.telephone_control.proofs.picture.verbs_of.Given as goal

abbrev pub invariant-loop-place : goal.invariant-loop-place
invariant-loop-place l = l.views.items ++ verbs_from l.place (drop l.place l.commands) ≡ verbs_from 0 l.commands
