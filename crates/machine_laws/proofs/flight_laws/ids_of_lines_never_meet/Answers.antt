use Rattle.machine_laws.proofs.FlightLaws.{next_below, own_apart, own_id_some}
use Rattle.machine_laws.proofs.flight_laws.ids_of_lines_never_meet.Goals as goal

pub returns-clause-below : goal.returns-clause-below
returns-clause-below c = next_below

pub returns-clause-own : goal.returns-clause-own
returns-clause-own c = own_apart

pub returns-clause-own_some : goal.returns-clause-own_some
returns-clause-own_some c = own_id_some
