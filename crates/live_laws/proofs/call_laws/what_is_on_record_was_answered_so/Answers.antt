use Rattle.live_laws.proofs.RecordLaws.{accepted_where_asked, ended_where_bare}
use Rattle.live_laws.proofs.call_laws.what_is_on_record_was_answered_so.Goals as goal

pub returns-clause-asked : goal.returns-clause-asked
returns-clause-asked c = accepted_where_asked

pub returns-clause-gone : goal.returns-clause-gone
returns-clause-gone c = ended_where_bare
