-- The worlds of the worked examples: line 1 of rgw.example.net is lifted, and its notification is lost at first.
use Rattle.std.specs.Prelude.{ℕ, codes, List, [], ◌∷◌, ◌++◌, map}
use Rattle.mg_line.specs.declared.phone.Act.TheVariants.{Key, OffHook}
use Rattle.mg_line.specs.declared.phone.Key.TheVariants.{Five, Six}
use Rattle.plain_machine.specs.Event.{GatewayEvent, tick}
use Rattle.plain_machine.specs.Example.{response, two_lines}
use Rattle.plain_machine.specs.Lists.{sent_of}
use Rattle.machine_laws.specs.Belonging.{of_line}
use Rattle.plain_machine.specs.Message.{Begun}
use Rattle.agent_core.specs.World.{WorldStep, delivering, dialling, issuing, ticking}
use Rattle.world_laws.specs.Example.{seconds}
use Rattle.world_laws.specs.DeliveryExample.{asked_in_step, notified, up_to}

-- A gateway alone

-- its announcement, which goes out at 1
abbrev pub announcement : Begun
announcement = record { id = 1; moment = 1; text = codes "RSIP 1 *@rgw.example.net MGCP 1.0\r\nRM: restart\r\n" }

-- when a line sends something, or as line 0 the gateway itself
abbrev pub moments_of : ℕ → List GatewayEvent → List ℕ
moments_of line events = map (λ one. one.moment) (of_line line (sent_of two_lines events))

-- a provisional response to it comes, and one more two seconds later
abbrev pub put_off : List GatewayEvent
put_off = tick 1 ∷ response 100 1 ∷ []

abbrev pub put_off_twice : List GatewayEvent
put_off_twice = put_off ++ tick 2001 ∷ response 100 1 ∷ []

-- One copy of eight

-- of the eight copies of the notification, packets 2 to 9, the last comes alone, at 20,001; its answer is packet 10
abbrev pub last_copy : List WorldStep
last_copy = notified ++ up_to 20

abbrev pub saved : List WorldStep
saved = last_copy ++ delivering 9 ∷ ticking 21001 ∷ delivering 10 ∷ []

-- none of them comes
abbrev pub all_lost : List WorldStep
all_lost = notified ++ up_to 23 ++ ticking 23501 ∷ []

-- After an outage

-- the gateway's announcement, packets 0 to 7, is lost, and given up at 23,501; 1 ms later it goes out anew, packet 8, which is handed
-- over 300 ms later; and so is its answer, packet 9, while the announcement goes out again, packet 10
abbrev pub unserved : List WorldStep
unserved = seconds 24 ++ ticking 23501 ∷ ticking 23502 ∷ ticking 23802 ∷ delivering 8 ∷ ticking 24102 ∷ []

abbrev pub serving_late : List WorldStep
serving_late = unserved ++ delivering 9 ∷ []

-- A line behind an outage

-- the eight copies of its notification are lost; given up at 23,501, line 1 announces itself at 28,501, in packet 10, which is handed over
-- 300 ms later; and so is its answer, packet 11, while the announcement goes out again, packet 12
abbrev pub unconnected : List WorldStep
unconnected =
    all_lost ++ ticking 24001 ∷ ticking 25001 ∷ ticking 26001 ∷ ticking 27001 ∷ ticking 28001 ∷ ticking 28501 ∷ ticking 28801
    ∷ delivering 10 ∷ ticking 29101 ∷ []

abbrev pub connected_late : List WorldStep
connected_late = unconnected ++ delivering 11 ∷ []

-- and line 2 is lifted
abbrev pub another_lifted : List WorldStep
another_lifted = connected_late ++ dialling 2 OffHook ∷ []

-- Line 1 is in step and lifted, and dials 5 and 6 meanwhile; its notification, packets 4 to 11, is lost. A packet takes 100 ms from then
-- on: its announcement, packet 12, goes out at 28,501, and is answered at 28,701.
abbrev pub connected_in_step : List WorldStep
connected_in_step =
    asked_in_step ++ dialling 1 OffHook ∷ dialling 1 (Key Five) ∷ dialling 1 (Key Six) ∷ up_to 23
    ++ ticking 23501 ∷ ticking 24001 ∷ ticking 25001 ∷ ticking 26001 ∷ ticking 27001 ∷ ticking 28001 ∷ ticking 28501
    ∷ ticking 28601 ∷ delivering 12 ∷ ticking 28701 ∷ delivering 13 ∷ ticking 28702 ∷ []

-- the agent asks for the next
abbrev pub asks_in_step : WorldStep
asks_in_step = issuing (codes "RQNT") (codes "aaln/1@rgw.example.net") (codes "X: C2\r\nR: L/hd(N),L/hu(N),L/hf(N),D/[0-9*#ABCD](N)\r\n")

-- it does so at once, in packet 14; with its answer the notification of 5 goes out, packet 15, and that is answered, in packet 16
abbrev pub notified_since : List WorldStep
notified_since = connected_in_step ++ asks_in_step ∷ ticking 28802 ∷ delivering 14 ∷ ticking 28902 ∷ delivering 15 ∷ []

abbrev pub asked_once : List WorldStep
asked_once = notified_since ++ ticking 29002 ∷ delivering 16 ∷ []

-- the same of 6, in packets 17 to 19
abbrev pub asked_again : List WorldStep
asked_again =
    asked_once ++ asks_in_step ∷ ticking 29102 ∷ delivering 17 ∷ ticking 29202 ∷ delivering 18 ∷ ticking 29302
    ∷ delivering 19 ∷ ticking 29303 ∷ []
