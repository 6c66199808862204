use Rattle.log_format.proofs.LineLaws.{message_is_line, note_is_line, notice_is_line, given_up_is_line, refused_is_line}
use Rattle.log_format.proofs.laws.a_line_is_one_line.Goals as goal

pub returns-clause-message : goal.returns-clause-message
returns-clause-message c = message_is_line

pub returns-clause-note : goal.returns-clause-note
returns-clause-note c = note_is_line

pub returns-clause-notice : goal.returns-clause-notice
returns-clause-notice c = notice_is_line

pub returns-clause-given_up : goal.returns-clause-given_up
returns-clause-given_up c = given_up_is_line

pub returns-clause-refused : goal.returns-clause-refused
returns-clause-refused c = refused_is_line
