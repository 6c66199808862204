use Rattle.live_laws.proofs.RefusalLaws.{refused_request, refused_deletion, refused_creation, refused_change}
use Rattle.live_laws.proofs.RowLaws.{few_in_a_row}
use Rattle.live_laws.proofs.call_laws.what_is_refused_is_on_record.Goals as goal

pub returns-clause-request : goal.returns-clause-request
returns-clause-request c = refused_request

pub returns-clause-deletion : goal.returns-clause-deletion
returns-clause-deletion c = refused_deletion

pub returns-clause-creation : goal.returns-clause-creation
returns-clause-creation c = refused_creation

pub returns-clause-change : goal.returns-clause-change
returns-clause-change c = refused_change

pub returns-clause-in_a_row : goal.returns-clause-in_a_row
returns-clause-in_a_row c = few_in_a_row
