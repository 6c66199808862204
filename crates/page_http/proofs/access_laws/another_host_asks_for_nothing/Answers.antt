use Rattle.page_http.proofs.AskingLaws.{asked_strange, nameless}
use Rattle.page_http.proofs.access_laws.another_host_asks_for_nothing.Goals as goal

pub returns-clause-asked : goal.returns-clause-asked
returns-clause-asked c = asked_strange

pub returns-clause-nameless : goal.returns-clause-nameless
returns-clause-nameless c = nameless
