use Rattle.machine_laws.proofs.NumberLaws.{numbers_apart, names_apart, never_again}
use Rattle.machine_laws.proofs.connection_laws.a_number_is_never_given_twice_on_a_line.Goals as goal

pub returns-clause-apart : goal.returns-clause-apart
returns-clause-apart c = numbers_apart

pub returns-clause-named : goal.returns-clause-named
returns-clause-named c = names_apart

pub returns-clause-again : goal.returns-clause-again
returns-clause-again c = never_again
