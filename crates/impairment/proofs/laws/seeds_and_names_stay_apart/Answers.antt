use Rattle.impairment.proofs.NamingLaws.{seeds_apart, names_apart, letters_apart}
use Rattle.impairment.proofs.laws.seeds_and_names_stay_apart.Goals as goal

pub returns-clause-seeds : goal.returns-clause-seeds
returns-clause-seeds c = seeds_apart

pub returns-clause-names : goal.returns-clause-names
returns-clause-names c = names_apart

pub returns-clause-ways : goal.returns-clause-ways
returns-clause-ways c = letters_apart
