use Rattle.page_server.proofs.CrowdLemmas.{opened_few, served_few}
use Rattle.page_server.proofs.laws.an_address_has_no_more_visitors_than_it_may.Goals as goal

pub returns-clause-opened : goal.returns-clause-opened
returns-clause-opened c = opened_few

pub returns-clause-served : goal.returns-clause-served
returns-clause-served c = served_few
