use Rattle.digit_map.proofs.ReadingLaws.{read_bare, read_again, read_spelled}
use Rattle.digit_map.proofs.laws.blanks_mean_nothing.Goals as goal

pub returns-clause-same : goal.returns-clause-same
returns-clause-same c = read_bare

pub returns-clause-again : goal.returns-clause-again
returns-clause-again c = read_again

pub returns-clause-spelled : goal.returns-clause-spelled
returns-clause-spelled c = read_spelled
