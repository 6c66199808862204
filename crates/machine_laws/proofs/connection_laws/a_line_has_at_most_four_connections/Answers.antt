use Rattle.machine_laws.proofs.NumberLaws.{four_places, four_at_most, line_life}
use Rattle.machine_laws.proofs.connection_laws.a_line_has_at_most_four_connections.Goals as goal

pub returns-clause-places : goal.returns-clause-places
returns-clause-places c = four_places

pub returns-clause-most : goal.returns-clause-most
returns-clause-most c = four_at_most

pub returns-clause-life : goal.returns-clause-life
returns-clause-life c = line_life
