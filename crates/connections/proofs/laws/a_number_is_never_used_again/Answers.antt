use Rattle.connections.proofs.LifeLaws.{next_number, never_less, never_past, numbers_rise}
use Rattle.connections.proofs.laws.a_number_is_never_used_again.Goals as goal

pub returns-clause-next : goal.returns-clause-next
returns-clause-next c = next_number

pub returns-clause-never_less : goal.returns-clause-never_less
returns-clause-never_less c = never_less

pub returns-clause-never_past : goal.returns-clause-never_past
returns-clause-never_past c = never_past

pub returns-clause-again : goal.returns-clause-again
returns-clause-again c = numbers_rise
