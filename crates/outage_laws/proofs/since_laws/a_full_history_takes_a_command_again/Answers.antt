use Rattle.outage_laws.proofs.YoungLemmas.{all_make_room, each_makes_room, fewer_by, has_room}
use Rattle.outage_laws.proofs.since_laws.a_full_history_takes_a_command_again.Goals as goal

pub returns-clause-each : goal.returns-clause-each
returns-clause-each c = each_makes_room

pub returns-clause-by_as_many : goal.returns-clause-by_as_many
returns-clause-by_as_many c = fewer_by

pub returns-clause-all : goal.returns-clause-all
returns-clause-all c = all_make_room

pub returns-clause-room : goal.returns-clause-room
returns-clause-room c = has_room
