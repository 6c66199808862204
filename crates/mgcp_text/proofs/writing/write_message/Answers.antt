use Rattle.mgcp_text.proofs.RoundLaws.{ok_reads}
use Rattle.mgcp_text.proofs.writing.write_message.Goals as goal

pub returns-clause-reads : goal.returns-clause-reads
returns-clause-reads c = ok_reads c.args.said.now c.message_text.result c.requires c.message_text.ensures
