use Rattle.machine_laws.proofs.FlightLaws.{no_command_at_an_act, no_command_at_a_deed, no_command_when_due, no_command_at_another_response, no_own_command_at_another_response}
use Rattle.machine_laws.proofs.flight_laws.a_line_has_one_command_in_flight.Goals as goal

pub returns-clause-act : goal.returns-clause-act
returns-clause-act c = no_command_at_an_act

pub returns-clause-deed : goal.returns-clause-deed
returns-clause-deed c = no_command_at_a_deed

pub returns-clause-due : goal.returns-clause-due
returns-clause-due c = no_command_when_due

pub returns-clause-response : goal.returns-clause-response
returns-clause-response c = no_command_at_another_response

pub returns-clause-own : goal.returns-clause-own
returns-clause-own c = no_own_command_at_another_response
