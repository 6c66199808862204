use Rattle.connections.proofs.VersionLaws.{next_version_of, same_version, same_description, told_if_changed, untold_if_unchanged}
use Rattle.connections.proofs.laws.a_version_has_one_description.Goals as goal

pub returns-clause-next : goal.returns-clause-next
returns-clause-next c = next_version_of

pub returns-clause-stays : goal.returns-clause-stays
returns-clause-stays c = same_version

pub returns-clause-same : goal.returns-clause-same
returns-clause-same c = same_description

pub returns-clause-told : goal.returns-clause-told
returns-clause-told c = told_if_changed

pub returns-clause-untold : goal.returns-clause-untold
returns-clause-untold c = untold_if_unchanged
