use Rattle.mg_bytes.proofs.PieceLemmas.{concat-cut, length-cut}
use Rattle.mg_bytes.proofs.split.lines.Goals as goal

pub returns-clause-whole : goal.returns-clause-whole
returns-clause-whole c = concat-cut c.args.text.now

pub returns-clause-few : goal.returns-clause-few
returns-clause-few c = length-cut c.args.text.now
