use Rattle.std.proofs.Common.{rules, arith}
use Rattle.std.proofs.lemmas.Grind.{common_steps}
use Rattle.small_rules.proofs.answering.is_final.Goals as goal

pub returns-then-code-ge-LEAST_FINAL : goal.returns-then-code-ge-LEAST_FINAL
returns-then-code-ge-LEAST_FINAL c = first_of (search rules, grind (arith, common_steps))
