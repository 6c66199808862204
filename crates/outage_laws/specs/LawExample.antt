-- What the worked examples of what laws ask for speak of: commands as they began, firsts, and lives that follow the time of day.
use Rattle.std.specs.Prelude.{ℕ, List, [], ◌∷◌, ◌++◌}
use Rattle.transmission.specs.Arrival.{Arrival}
use Rattle.transmission.specs.HistoryExample.{comes}
use Rattle.retransmission.specs.Flight.{InFlight, sent_first}
use Rattle.mg_line.specs.declared.phone.Act.TheVariants.{OffHook}
use Rattle.plain_machine.specs.Event.{GatewayEvent, phone}
use Rattle.plain_machine.specs.Example.{agent_route, announced_under, disconnected, ready}
use Rattle.plain_machine.specs.Message.{Begun}
use Rattle.agent_core.specs.World.{delivering, dialling, ticking}
use Rattle.world_laws.specs.DeliveryExample.{lifted}
use Rattle.outage_laws.specs.Example.{announcement}
use Rattle.outage_laws.specs.Lives.{Life, LivesStep, restarting, stepping}
use Rattle.outage_laws.specs.LifeExample.{first_life, in_one_life}

-- A gateway alone

-- it serves, and line 1 is lifted
abbrev pub lifted_alone : List GatewayEvent
lifted_alone = ready ++ phone 1 OffHook ∷ []

-- the notification of that, and the announcement, as it is in flight
abbrev pub lifted_later : Begun
lifted_later = record lifted { moment = 1000 }

abbrev pub announced_flight : InFlight
announced_flight = sent_first 1 agent_route announcement.text 1

-- After an outage

-- the gateway announces itself again, and so does line 1
abbrev pub announced_anew : Begun
announced_anew = record { id = 2; moment = 23502; text = announced_under 2 }

abbrev pub line_announced : Begun
line_announced = record { id = 10000001; moment = 28501; text = disconnected 10000001 }

-- two commands that came at 5 and at 10
abbrev pub two_came : List Arrival
two_came = comes 1 5 65 ∷ comes 2 10 66 ∷ []

-- Lives

-- a gateway starts again 1,001 ms after its start, with the number of that moment, and announces itself; line 1 is lifted again
abbrev pub by_the_day : List LivesStep
by_the_day = first_life ++ stepping (ticking 1001) ∷ restarting 20 ∷ in_one_life (ticking 1002 ∷ delivering 5 ∷ delivering 6 ∷ dialling 1 OffHook ∷ [])

-- the answer to the notification of its first life, packet 3, comes to the second
abbrev pub answered_late : List LivesStep
answered_late = by_the_day ++ stepping (delivering 3) ∷ []

-- the number of each life is drawn as it starts
abbrev pub at_start : Life → ℕ
at_start life = life.start
