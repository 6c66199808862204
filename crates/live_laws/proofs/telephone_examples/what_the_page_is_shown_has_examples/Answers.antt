use Rattle.live_laws.proofs.TelephoneExampleLemmas.{shows_and_counts_nothing}
use Rattle.live_laws.proofs.telephone_examples.what_the_page_is_shown_has_examples.Goals as goal

pub returns-clause-beside : goal.returns-clause-beside
returns-clause-beside c = λ was is same. (same.0, same.3)

pub returns-clause-no_page : goal.returns-clause-no_page
returns-clause-no_page c = λ is shows. shows

pub returns-clause-page : goal.returns-clause-page
returns-clause-page c = λ was shows. shows

pub returns-clause-shown : goal.returns-clause-shown
returns-clause-shown c = λ was is shows. (shows.0, shows.1.acts, shows.1.ring)

pub returns-clause-counts : goal.returns-clause-counts
returns-clause-counts c = shows_and_counts_nothing
