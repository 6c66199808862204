use Rattle.page_http.proofs.SeatingLaws.{none_few, seated_few}
use Rattle.page_http.proofs.access_laws.an_address_has_no_more_places_than_it_may.Goals as goal

pub returns-clause-none : goal.returns-clause-none
returns-clause-none c = none_few

pub returns-clause-few : goal.returns-clause-few
returns-clause-few c = λ seats host now few. seated_few seats host now few
