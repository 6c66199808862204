use Rattle.live_laws.proofs.CodeLaws.{same_words}
use Rattle.live_laws.proofs.return_code_examples.each_return_code_has_a_row.Goals as goal

pub returns-clause-words : goal.returns-clause-words
returns-clause-words c = same_words
