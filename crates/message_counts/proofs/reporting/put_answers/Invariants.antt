use Rattle.std.proofs.Common.{◌≡◌, ◌++◌, drop}
use Rattle.message_counts.specs.Reporting.{answers_from}
use Rattle.message_counts.proofs.reporting.put_answers.Given as goal

abbrev pub invariant-loop-code : goal.invariant-loop-code
invariant-loop-code l =
    l.text ++ answers_from l.code (drop l.code l.answers) ≡ l.initial.text ++ answers_from 0 l.answers
