use Rattle.machine_laws.proofs.LineDeeds.{meant_is_emptied, others_are_kept, free_stays}
use Rattle.machine_laws.proofs.connection_laws.a_deletion_empties_what_it_means.Goals as goal

pub returns-clause-meant : goal.returns-clause-meant
returns-clause-meant c = meant_is_emptied

pub returns-clause-others : goal.returns-clause-others
returns-clause-others c = others_are_kept

pub returns-clause-free : goal.returns-clause-free
returns-clause-free c = free_stays
