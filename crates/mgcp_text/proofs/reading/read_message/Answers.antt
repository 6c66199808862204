use Rattle.mgcp_text.specs.Reading.{outcome_of}
use Rattle.mgcp_text.proofs.SpellingLaws.{reads_from_value}
use Rattle.mgcp_text.proofs.reading.read_message.Goals as goal

pub returns-clause-reads : goal.returns-clause-reads
returns-clause-reads c = reads_from_value c.args.text.now (outcome_of c.read_first.result) c.read_first.ensures.value
