use Rattle.audits.proofs.ShowLaws.{line_written, connection_written, fitting_same, fitting_short, line_code, connection_code, fitting_code}
use Rattle.audits.proofs.showing_laws.what_is_reported_can_be_written.Goals as goal

pub returns-clause-line : goal.returns-clause-line
returns-clause-line c = line_written

pub returns-clause-connection : goal.returns-clause-connection
returns-clause-connection c = connection_written

pub returns-clause-as_wanted : goal.returns-clause-as_wanted
returns-clause-as_wanted c = fitting_same

pub returns-clause-fits : goal.returns-clause-fits
returns-clause-fits c = fitting_short

pub returns-clause-line_code : goal.returns-clause-line_code
returns-clause-line_code c = line_code

pub returns-clause-connection_code : goal.returns-clause-connection_code
returns-clause-connection_code c = connection_code

pub returns-clause-fitting_code : goal.returns-clause-fitting_code
returns-clause-fitting_code c = fitting_code
