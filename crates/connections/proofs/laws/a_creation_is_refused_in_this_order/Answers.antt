use Rattle.connections.proofs.OrderLaws.{no_place, no_number, no_codec, no_mode, stands}
use Rattle.connections.proofs.laws.a_creation_is_refused_in_this_order.Goals as goal

pub returns-clause-no_place : goal.returns-clause-no_place
returns-clause-no_place c = no_place

pub returns-clause-no_number : goal.returns-clause-no_number
returns-clause-no_number c = no_number

pub returns-clause-no_codec : goal.returns-clause-no_codec
returns-clause-no_codec c = no_codec

pub returns-clause-no_mode : goal.returns-clause-no_mode
returns-clause-no_mode c = no_mode

pub returns-clause-stands : goal.returns-clause-stands
returns-clause-stands c = stands
