use Rattle.audits.proofs.SessionLaws.{read_is_session}
use Rattle.audits.proofs.showing_laws.what_is_read_is_a_session.Goals as goal

pub returns : goal.returns
returns c = λ text session e. read_is_session text session e
