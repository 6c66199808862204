use Rattle.mgcp_text.proofs.ValueLaws.{word_writable}
use Rattle.mgcp_text.proofs.writing.words_can_be_written.Goals as goal

pub returns : goal.returns
returns c = word_writable
