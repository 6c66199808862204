-- What comes to the gateway of the worked examples, which has two lines; and requests of which walks begin.
use Rattle.std.specs.Prelude.{List, [], ◌∷◌, ◌++◌, codes}
use Rattle.events_and_signals.specs.declared.request.Request.{Request}
use Rattle.mg_line.specs.declared.phone.Act.TheVariants.{OffHook, Key}
use Rattle.mg_line.specs.declared.phone.Key.TheVariants.{Five, Six}
use Rattle.mg_line.specs.Scenario.{requests, with_map}
use Rattle.plain_machine.specs.Event.{GatewayEvent, phone}
use Rattle.plain_machine.specs.Example.{ready, response}
use Rattle.machine_laws.specs.IsolationExample.{asks_for_two}
use Rattle.world_laws.specs.OnceExample.{course_then, line_then}
use Rattle.told_laws.specs.Walking.{nothing_asked, Walks, Stays}

-- line 1 is lifted, which is answered, and keys 5 and 6 are pressed
abbrev pub dials_two : List GatewayEvent
dials_two = phone 1 OffHook ∷ response 200 10000000 ∷ phone 1 (Key Five) ∷ phone 1 (Key Six) ∷ []

-- requests that have keys collected, a lifting told at once, and a lifting told with others; the last discards besides
abbrev pub has_keys_collected : Request
has_keys_collected = requests (codes "A1") (codes "D/[0-9](D)")

abbrev pub has_lifting_told : Request
has_lifting_told = requests (codes "A1") (codes "L/hd(N)")

-- what is told of line 1 then walks through what was done at it
abbrev pub WalksThen : List GatewayEvent → Type 0
WalksThen events = Walks nothing_asked [] (course_then events) (Stays (line_then events))

-- two digits are asked for, and a lifting isn't to be told
abbrev pub wants_both : Request
wants_both = with_map (codes "(xx)") (requests (codes "B1") (codes "L/hd(I),D/X(D)"))

-- line 1 is asked so, lifted, and dials 5 and 6
abbrev pub dials_both : List GatewayEvent
dials_both = ready ++ asks_for_two 1701 (codes "aaln/1") ∷ phone 1 OffHook ∷ phone 1 (Key Five) ∷ phone 1 (Key Six) ∷ []
