use Rattle.std.proofs.Common.{sym, ◌∙◌, true≢false}
use Rattle.page_server.proofs.examples.who_can_be_read_and_written_to_has_examples.Goals as goal

pub returns-clause-readable : goal.returns-clause-readable
returns-clause-readable c = λ visitor told wants. (told, wants)

pub returns-clause-unreadable : goal.returns-clause-unreadable
returns-clause-unreadable c = λ visitor none can. true≢false (sym can.0 ∙ none)

pub returns-clause-wants_more : goal.returns-clause-wants_more
returns-clause-wants_more c = λ visitor can. can.1

pub returns-clause-writable : goal.returns-clause-writable
returns-clause-writable c = λ visitor told waits. (told, waits)

pub returns-clause-unwritable : goal.returns-clause-unwritable
returns-clause-unwritable c = λ visitor none can. true≢false (sym can.0 ∙ none)

pub returns-clause-nothing_waits : goal.returns-clause-nothing_waits
returns-clause-nothing_waits c = λ visitor can. can.1
