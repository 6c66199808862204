use Rattle.mgcp_text.proofs.EndedLemmas.{line_from}
use Rattle.mgcp_text.proofs.writing.after_line.Goals as goal

pub returns-in-Some : goal.returns-in-Some
returns-in-Some c = line_from c.args.text.now c.args.line.now c.in-Some.rest.now c.after_prefix-in-Some.result c.in-Some.ensures c.after_prefix-in-Some.ensures
