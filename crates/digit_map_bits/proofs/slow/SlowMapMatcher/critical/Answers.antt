use Rattle.digit_map.proofs.VerdictLaws.{critical_from}
use Rattle.digit_map_bits.proofs.slow.SlowMapMatcher.critical.Goals as goal

pub returns-clause-critical : goal.returns-clause-critical
returns-clause-critical c = λ map letters after. critical_from _ _ _ _ _ c.is_critical.ensures after.0 after.1
