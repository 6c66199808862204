use Rattle.page_http.proofs.AskingLaws.{counts_by_name, never_at_home}
use Rattle.page_http.proofs.access_laws.a_name_tells_no_more_than_counts.Goals as goal

pub returns-clause-by_name : goal.returns-clause-by_name
returns-clause-by_name c = counts_by_name

pub returns-clause-anywhere : goal.returns-clause-anywhere
returns-clause-anywhere c = never_at_home
