use Rattle.transmission.specs.Kept.{settled_at}
use Rattle.transmission.proofs.PurgeLaws.{still_settled, still_purged}
use Rattle.transmission.proofs.history_laws.undo_goes_back_to_the_purge.Goals as goal

pub returns-clause-settled : goal.returns-clause-settled
returns-clause-settled c = λ moment purged more. still_settled more (settled_at moment purged)

pub returns-clause-moment : goal.returns-clause-moment
returns-clause-moment c = λ moment purged more. still_purged more (settled_at moment purged)
