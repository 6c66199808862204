use Rattle.transmission.proofs.RecallLaws.{young_purged}
use Rattle.transmission.proofs.history_laws.a_purge_drops_nothing_young.Goals as goal

pub returns : goal.returns
returns c = λ purged now entries le. young_purged entries purged now le
