-- The worlds of the worked examples: the agent audits line 1 of rgw.example.net.
use Rattle.std.specs.Prelude.{ℕ, ◌+◌, ◌*◌, codes, List, [], ◌∷◌, ◌++◌, drop, length, map, Option, option_and_then, option_map}
use Rattle.std.specs.List.{range_with_len}
use Rattle.plain_machine.specs.Example.{two_lines, response, rqnt}
use Rattle.world_laws.specs.OnceExample.{asks_for_all}
use Rattle.plain_machine.specs.declared.setup.Setup.{Setup}
use Rattle.plain_machine.specs.Machine.{endpoint_at}
use Rattle.plain_machine.specs.Message.{Begun}
use Rattle.mg_line.specs.declared.phone.Act.TheVariants.{OffHook, Key}
use Rattle.mg_line.specs.declared.phone.Key.TheVariants.{Five, Six}
use Rattle.plain_machine.specs.Event.{GatewayEvent, phone, tick}
use Rattle.agent_core.specs.World.{WorldStep, gateway_in, delivering, dialling, issuing, plain_world, ticking}
use Rattle.world_laws.specs.Example.{world, announced, audits}
use Rattle.world_laws.specs.DialledExample as both_ends

-- the audit as it is issued, in packet 2
abbrev pub audit : Begun
audit = record { id = 1; moment = 1; text = codes "AUEP 1 aaln/1@rgw.example.net MGCP 1.0\r\n" }

abbrev pub asked : List WorldStep
asked = announced ++ audits ∷ []

-- the audit and its answer are handed over at once
abbrev pub answered : List WorldStep
answered = asked ++ delivering 2 ∷ delivering 3 ∷ []

-- line 1 is lifted, and its notification is packet 2
abbrev pub notified : List WorldStep
notified = announced ++ dialling 1 OffHook ∷ []

-- its text
abbrev pub notification : List ℕ
notification = codes "NTFY 10000000 aaln/1@rgw.example.net MGCP 1.0\r\nX: 0\r\nO: L/hd\r\n"

-- as it began
abbrev pub lifted : Begun
lifted = record { id = 10000000; moment = 1; text = notification }

-- the id of a command and the moment at which it began
abbrev pub key_begun : Begun → ℕ × ℕ
key_begun b = (b.id, b.moment)

-- the notification is handed over at once, and so is its answer
abbrev pub brought : List WorldStep
brought = notified ++ delivering 2 ∷ delivering 3 ∷ []

-- the id of the command of line 1 that is in flight, if there is one
abbrev pub flying_after : List WorldStep → Option ℕ
flying_after steps =
    option_map (λ flight. flight.id)
    (option_and_then (λ endpoint. endpoint.post.pending) (endpoint_at (gateway_in two_lines (world steps)).endpoints 1))

-- line 1 reports to an address that isn't the agent's, and its notification is packet 4
abbrev pub redirected : List WorldStep
redirected =
    announced ++ issuing (codes "RQNT") (codes "aaln/1@rgw.example.net") (codes "X: A0\r\nN: ca@[127.0.0.9]:2727\r\n")
    ∷ delivering 2 ∷ delivering 3 ∷ dialling 1 OffHook ∷ []

-- the clock goes on second by second up to this one, from 1,001 ms on
abbrev pub up_to : ℕ → List WorldStep
up_to last = map (λ second. ticking (second * 1000 + 1)) (range_with_len 1 last)

-- of the eight copies, packets 2 to 9, the last comes alone, at 20,001; its answer is packet 10
abbrev pub last_copy : List WorldStep
last_copy = asked ++ up_to 20 ++ delivering 9 ∷ ticking 21001 ∷ ticking 22001 ∷ ticking 23001 ∷ []

-- line 1, which was asked for all that its telephone does, is lifted: its notification, packet 4, is kept back
abbrev pub kept_back : List WorldStep
kept_back = both_ends.asked ++ dialling 1 OffHook ∷ []

-- A line in step that has something in its quarantine

-- a request for one notification, of whatever the telephone does
abbrev pub in_step : ℕ → GatewayEvent
in_step id = rqnt id (codes "aaln/1") (codes "X: C2\r\nR: L/hd(N),L/hu(N),L/hf(N),D/[0-9*#ABCD](N)\r\n")

-- line 1 is asked so and lifted, and dials 5 and 6 before that is answered
abbrev pub held : List GatewayEvent
held = in_step 7 ∷ phone 1 OffHook ∷ phone 1 (Key Five) ∷ phone 1 (Key Six) ∷ []

-- it is answered and asked for the next, in loop; both are answered, and a ms passes
abbrev pub freed : List GatewayEvent
freed = response 200 10000000 ∷ asks_for_all 8 (codes "aaln/1") ∷ response 200 10000001 ∷ response 200 10000002 ∷ tick 1001 ∷ []

-- what the gateway took of the world above up to there, and behind that
abbrev pub took_first : List WorldStep → List GatewayEvent
took_first steps = (world steps).gateway_took

-- behind these, up to the end of those
abbrev pub took_between : List WorldStep → List WorldStep → List GatewayEvent
took_between first steps = drop (length (took_first first)) (took_first steps)

-- line 1 is asked in step for all that its telephone does, is lifted, and dials 5; its notification, packet 4, is handed over, and so is
-- the answer, and then a ms passes
abbrev pub asked_in_step : List WorldStep
asked_in_step =
    announced ++ issuing (codes "RQNT") (codes "aaln/1@rgw.example.net")
    (codes "X: C2\r\nR: L/hd(N),L/hu(N),L/hf(N),D/[0-9*#ABCD](N)\r\n") ∷ delivering 2 ∷ delivering 3 ∷ []

abbrev pub dialled_in_step : List WorldStep
dialled_in_step = asked_in_step ++ dialling 1 OffHook ∷ dialling 1 (Key Five) ∷ []

abbrev pub unasked : List WorldStep
unasked = dialled_in_step ++ delivering 4 ∷ delivering 5 ∷ ticking 2 ∷ []

-- what a gateway with another setup took, up to there and behind that, and its line 1 after these events
abbrev pub took_with : Setup → List WorldStep → List GatewayEvent
took_with setup steps = (plain_world setup steps).gateway_took

abbrev pub took_between_with : Setup → List WorldStep → List WorldStep → List GatewayEvent
took_between_with setup first steps = drop (length (took_with setup first)) (took_with setup steps)

-- the notification and its repeats, packets 4 to 11, are lost: at 23,501 it is given up, and at 23,550 nothing is in flight
abbrev pub lost : List WorldStep
lost = kept_back ++ up_to 23 ++ ticking 23550 ∷ []
