-- What comes to the gateway of the worked examples, which has two lines.
use Rattle.std.specs.Prelude.{ℕ, List, [], ◌∷◌, ◌++◌, codes, Option, option_map}
use Rattle.std.specs.Option.{unwrap_or}
use Rattle.packages.specs.declared.observed.Observed.{Observed}
use Rattle.packages.specs.declared.observed.Observed.TheVariants.{Happened}
use Rattle.mg_bytes.specs.declared.letter.Letter.TheVariants as letters
use Rattle.packages.specs.declared.event.LineEvent.TheVariants as events
use Rattle.mg_line.specs.declared.phone.Act.TheVariants.{OffHook, OnHook, Key}
use Rattle.mg_line.specs.declared.phone.Key.TheVariants.{Five, Six}
use Rattle.mg_line.specs.Line.{LineState, opening_line}
use Rattle.plain_machine.specs.Event.{GatewayEvent, phone}
use Rattle.plain_machine.specs.Example.{two_lines, ready, rqnt, response}
use Rattle.plain_machine.specs.Lists.{plain}
use Rattle.plain_machine.specs.Machine.{endpoint_at}
use Rattle.world_laws.specs.Course.{CourseStep, course_from, course_of}
use Rattle.world_laws.specs.Dialled.{IsAskedForAll}
use Rattle.world_laws.specs.Keeping.{happened_in}

-- off hook, on hook, and two keys
abbrev pub lifted : Observed
lifted = Happened events.OffHook

abbrev pub five : Observed
five = Happened (events.Letter letters.Five)

abbrev pub six : Observed
six = Happened (events.Letter letters.Six)

-- all that a telephone does is asked for, and notified event by event
abbrev pub asks_for_all : ℕ → List ℕ → GatewayEvent
asks_for_all id local =
    rqnt id local (codes "X: C2\r\nR: L/hd(N),L/hu(N),L/hf(N),D/[0-9*#ABCD](N)\r\nQ: loop,process\r\n")

-- line 1 is lifted, dials 5 and 6, and is hung up; the first notification is answered between these
abbrev pub dials : List GatewayEvent
dials = phone 1 OffHook ∷ phone 1 (Key Five) ∷ response 200 10000000 ∷ phone 1 (Key Six) ∷ phone 1 OnHook ∷ []

-- one in which keys are collected by a digit map, up to two of them
abbrev pub keys_are_collected : GatewayEvent
keys_are_collected = rqnt 7 (codes "aaln/1")
    (codes "X: 1\r\nR: L/hd(N),L/hu(N),L/hf(N),D/[0-9*#ABCD](D)\r\nD: (xx)\r\nQ: loop\r\n")

-- the course of line 1, where the gateway serves before these events
abbrev pub course_then : List GatewayEvent → List CourseStep
course_then events = course_of two_lines 1 (ready ++ events)

abbrev pub left_then : List GatewayEvent → Option (List Observed)
left_then events =
    option_map (λ endpoint. happened_in endpoint.line.quarantined.events) (endpoint_at (plain two_lines (ready ++ events)).endpoints 1)

-- line 1 then
abbrev pub line_then : List GatewayEvent → LineState
line_then events =
    unwrap_or (option_map (λ endpoint. endpoint.line) (endpoint_at (plain two_lines (ready ++ events)).endpoints 1)) opening_line

-- whether line 1 was asked for all at these events, before its telephone did anything, and since
abbrev pub AskedForAll : List GatewayEvent → List GatewayEvent → Type 0
AskedForAll before after =
    IsAskedForAll (course_then before) (course_from two_lines (plain two_lines (ready ++ before)) 1 after) (line_then (before ++ after))
