use Rattle.live_laws.proofs.TelephoneExampleLemmas.{no_capture_written}
use Rattle.live_laws.proofs.telephone_examples.what_the_page_is_shown_of_counts_has_examples.Goals as goal

pub returns-clause-files : goal.returns-clause-files
returns-clause-files c = no_capture_written
