use Rattle.std.proofs.Common.{◌≡◌, ◌++◌, drop}
use Rattle.telephone_control.specs.Picturing.{codes_from}
use Rattle.telephone_control.proofs.picture.codes_of.Given as goal

abbrev pub invariant-loop-code : goal.invariant-loop-code
invariant-loop-code l = l.views.items ++ codes_from l.code (drop l.code l.tally.sent.answers.items) ≡ codes_from 0 l.tally.sent.answers.items
