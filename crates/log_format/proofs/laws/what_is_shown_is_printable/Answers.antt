use Rattle.log_format.proofs.EscapingLaws.{shown_text, escaped_text, plain_shown}
use Rattle.log_format.proofs.laws.what_is_shown_is_printable.Goals as goal

pub returns-clause-value : goal.returns-clause-value
returns-clause-value c = shown_text

pub returns-clause-bytes : goal.returns-clause-bytes
returns-clause-bytes c = escaped_text

pub returns-clause-plain : goal.returns-clause-plain
returns-clause-plain c = plain_shown
