-- What comes to the gateway of the worked examples, which has two lines.
use Rattle.std.specs.Prelude.{ℕ, List, [], ◌∷◌, ◌++◌, codes, decimal, Option, option_map}
use Rattle.connections.specs.Life.{numbers_in}
use Rattle.transmission.specs.declared.span.IdSpan.{IdSpan}
use Rattle.events_and_signals.specs.declared.active.ActiveSignal.{ActiveSignal}
use Rattle.mg_line.specs.declared.phone.Act.TheVariants.{OffHook, Key}
use Rattle.mg_line.specs.declared.phone.Key.TheVariants.{Five, Six, Seven, Eight}
use Rattle.plain_machine.specs.Event.{GatewayEvent, phone, tick}
use Rattle.plain_machine.specs.Example.{agent, two_lines, ready, from_agent, crcx, naming_other, rqnt, response}
use Rattle.plain_machine.specs.Lists.{plain, sent_of, signals_of, connections_of}
use Rattle.plain_machine.specs.Message.{Sent}
use Rattle.machine_laws.specs.Apart.{ReadCommand}
use Rattle.machine_laws.specs.Belonging.{of_line}
use Rattle.machine_laws.specs.OwnEvents.{own_events}

-- a line is asked for two digits under this id
abbrev pub asks_for_two : ℕ → List ℕ → GatewayEvent
asks_for_two id local = rqnt id local (codes "X: B1\r\nR: L/hd(I),D/X(D)\r\nD: (xx)\r\n")

-- lines 1 and 2 dial two digits each, at the same time
abbrev pub both_dial : List GatewayEvent
both_dial = ready ++ asks_for_two 1701 (codes "aaln/1") ∷ asks_for_two 1702 (codes "aaln/2")
    ∷ phone 1 OffHook ∷ phone 2 OffHook ∷ phone 1 (Key Five) ∷ phone 2 (Key Seven) ∷ phone 2 (Key Eight)
    ∷ phone 1 (Key Six) ∷ response 200 10000000 ∷ tick 1500 ∷ []

-- line 1 alone does
abbrev pub one_dials : List GatewayEvent
one_dials = ready ++ asks_for_two 1701 (codes "aaln/1")
    ∷ phone 1 OffHook ∷ phone 1 (Key Five) ∷ phone 1 (Key Six) ∷ response 200 10000000 ∷ tick 1500 ∷ []

-- an audit of the hook state of a line
abbrev pub audit_text : ℕ → List ℕ → List ℕ
audit_text id local =
    codes "AUEP " ++ decimal id ++ codes " " ++ local ++ codes "@rgw.example.net MGCP 1.0\r\nF: ES\r\n"

-- line 2 is lifted, and then both lines are audited under one id
abbrev pub under_one_id : List GatewayEvent
under_one_id = ready ++ phone 2 OffHook ∷ from_agent (audit_text 3401 (codes "aaln/1"))
    ∷ from_agent (audit_text 3401 (codes "aaln/2")) ∷ []

-- line 2 is lifted, and then all lines are to ring, which it refuses
abbrev pub all_are_to_ring : List GatewayEvent
all_are_to_ring = ready ++ phone 2 OffHook ∷ rqnt 7 (codes "*") (codes "X: 1\r\nS: L/rg\r\n") ∷ []

-- line 1 is audited; a command to line 2 confirms the answer to that; and then the audit comes again
abbrev pub confirmed_by_another : List GatewayEvent
confirmed_by_another = ready ++ from_agent (audit_text 7 (codes "aaln/1"))
    ∷ rqnt 8 (codes "aaln/2") (codes "X: 1\r\nK: 7\r\n") ∷ from_agent (audit_text 7 (codes "aaln/1")) ∷ []

-- the messages of a line at these events, and at those of its own among them
abbrev pub sent_at : ℕ → List GatewayEvent → List Sent
sent_at line events = of_line line (sent_of two_lines events)

abbrev pub sent_alone : ℕ → List GatewayEvent → List Sent
sent_alone line events = sent_at line (own_events two_lines line events)

-- the signals of a line then
abbrev pub signals_at : ℕ → List GatewayEvent → Option (List ActiveSignal)
signals_at line events = signals_of (plain two_lines events) line

-- a command that reads as this line, if as one, under this id, which confirms these
abbrev pub read_command : Option ℕ → ℕ → List IdSpan → ReadCommand
read_command line id confirms =
    record { asked = record { source = agent; moment = 0; id = id; confirms = confirms }; line = line }

-- a connection is created on each of two lines
abbrev pub both_call : List GatewayEvent
both_call = ready ++ crcx 1 (codes "aaln/1") [] ∷ crcx 2 (codes "aaln/2") [] ∷ []

-- line 1 has four connections, as many as there may be, and then one is created on any one line
abbrev pub chosen_among_lines : List GatewayEvent
chosen_among_lines = ready ++ crcx 1 (codes "aaln/1") [] ∷ crcx 2 (codes "aaln/1") [] ∷ crcx 3 (codes "aaln/1") []
    ∷ crcx 4 (codes "aaln/1") [] ∷ crcx 5 (codes "$") [] ∷ []

-- the numbers of the connections of a line then
abbrev pub numbers_at : ℕ → List GatewayEvent → Option (List ℕ)
numbers_at line events = option_map numbers_in (connections_of (plain two_lines events) line)

-- both lines are lifted and asked for digits before the gateway serves; its announcement is answered then, and the answer
-- names another agent
abbrev pub lifted_early : List GatewayEvent
lifted_early = phone 1 OffHook ∷ phone 2 OffHook ∷ asks_for_two 1701 (codes "aaln/1") ∷ asks_for_two 1702 (codes "aaln/2")
    ∷ tick 1 ∷ naming_other 200 1 ∷ []
