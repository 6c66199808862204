use Rattle.page_server.proofs.AnsweringLaws.{told_strange}
use Rattle.page_server.proofs.laws.another_host_is_told_nothing.Goals as goal

pub returns : goal.returns
returns c = λ old new request response h is names. told_strange old request response new h is names
