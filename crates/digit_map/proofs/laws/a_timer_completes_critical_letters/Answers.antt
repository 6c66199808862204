use Rattle.digit_map.proofs.VerdictLaws.{critical_computed}
use Rattle.digit_map.proofs.laws.a_timer_completes_critical_letters.Goals as goal

pub returns : goal.returns
returns c = critical_computed
