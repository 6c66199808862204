use Rattle.endpoint_names.proofs.WrittenLemmas.{line_read, all_read, any_read}
use Rattle.endpoint_names.proofs.laws.a_written_name_is_read_again.Goals as goal

pub returns-clause-line : goal.returns-clause-line
returns-clause-line c = line_read

pub returns-clause-all : goal.returns-clause-all
returns-clause-all c = all_read

pub returns-clause-any : goal.returns-clause-any
returns-clause-any c = any_read
