use Rattle.connections.proofs.OrderLaws.{refused_creation, refused_change, refused_deletion}
use Rattle.connections.proofs.laws.what_is_refused_changes_nothing.Goals as goal

pub returns-clause-creation : goal.returns-clause-creation
returns-clause-creation c = refused_creation

pub returns-clause-change : goal.returns-clause-change
returns-clause-change c = refused_change

pub returns-clause-deletion : goal.returns-clause-deletion
returns-clause-deletion c = refused_deletion
