use Rattle.std.proofs.Common.{rules, arith}
use Rattle.std.proofs.lemmas.Grind.{common_steps}
use Rattle.message_counts.proofs.sent_counts.SentCounts.add_message.Goals as goal

pub returns-in-Command : goal.returns-in-Command
returns-in-Command c = first_of (search rules, grind (arith, common_steps))
