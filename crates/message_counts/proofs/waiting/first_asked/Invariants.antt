use Rattle.std.proofs.Common.{◌≡◌, drop}
use Rattle.message_counts.specs.Waiting.{first_asked}
use Rattle.message_counts.proofs.waiting.first_asked.Given as goal

abbrev pub invariant-loop-message : goal.invariant-loop-message
invariant-loop-message l = first_asked (drop l.message-index l.sent) ≡ first_asked l.sent
