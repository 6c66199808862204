-- The worlds of the worked examples: two lines, and the agent that they report to.
use Rattle.std.specs.Prelude.{◌++◌, codes, List, [], ◌∷◌, drop, length}
use Rattle.std.specs.Option.{unwrap_or}
use Rattle.packages.specs.declared.observed.Observed.{Observed}
use Rattle.mg_line.specs.declared.phone.Act.TheVariants.{OffHook, Key}
use Rattle.mg_line.specs.declared.phone.Key.TheVariants.{Five}
use Rattle.plain_machine.specs.declared.endpoint.Endpoint.{Endpoint}
use Rattle.plain_machine.specs.Event.{GatewayEvent}
use Rattle.plain_machine.specs.Example.{two_lines}
use Rattle.plain_machine.specs.Machine.{opening_endpoint, endpoint_at}
use Rattle.world_laws.specs.Course.{course_of}
use Rattle.world_laws.specs.Dialled.{done_in}
use Rattle.world_laws.specs.Keeping.{happened_in}
use Rattle.call_agent.specs.Agent.{observed_on}
use Rattle.agent_core.specs.World.{World, WorldStep, issuing, dialling, ticking, delivering, agent_in, gateway_in, plain_world}
use Rattle.world_laws.specs.Reached.{taken_in}
use Rattle.world_laws.specs.Untaken.{untaken}

-- A world

-- the gateway announces itself, packet 0, and is answered; then line 1 is asked for all that its telephone does, packet 2,
-- and accepts that, packet 3
abbrev pub asked : List WorldStep
asked = ticking 1 ∷ delivering 0 ∷ delivering 1
    ∷ issuing (codes "RQNT") (codes "aaln/1@rgw.example.net")
    (codes "X: C2\r\nR: L/hd(N),L/hu(N),L/hf(N),D/[0-9*#ABCD](N)\r\nQ: loop,process\r\n")
    ∷ delivering 2 ∷ delivering 3 ∷ []

-- it is lifted, packet 4, and dials 5
abbrev pub dialled : List WorldStep
dialled = asked ++ dialling 1 OffHook ∷ dialling 1 (Key Five) ∷ []

-- the notification arrives, twice, and the answers, packets 5 and 6, are on their way
abbrev pub taken : List WorldStep
taken = dialled ++ delivering 4 ∷ delivering 4 ∷ []

-- the first of these arrives, and the key is notified, packet 7
abbrev pub answered : List WorldStep
answered = taken ++ delivering 5 ∷ []

-- what the gateway took up to that request, and since
abbrev pub up_to_the_request : List GatewayEvent
up_to_the_request = (plain_world two_lines asked).gateway_took

abbrev pub since_the_request : List GatewayEvent
since_the_request = drop (length up_to_the_request) (plain_world two_lines answered).gateway_took

abbrev pub world : List WorldStep → World
world steps = plain_world two_lines steps

-- what the telephone of line 1 did in such a world
abbrev pub done_then : List WorldStep → List Observed
done_then steps = done_in (course_of two_lines 1 (world steps).gateway_took)

-- what the agent was told of line 1
abbrev pub told_then : List WorldStep → List Observed
told_then steps = observed_on 1 (agent_in two_lines (world steps))

abbrev pub endpoint_then : List WorldStep → Endpoint
endpoint_then steps = unwrap_or (endpoint_at (gateway_in two_lines (world steps)).endpoints 1) (opening_endpoint two_lines 1)

-- what is on its way
abbrev pub untaken_then : List WorldStep → List Observed
untaken_then steps = untaken (taken_in (world steps)) (endpoint_then steps).post.pending

-- what is quarantined
abbrev pub left_then : List WorldStep → List Observed
left_then steps = happened_in (endpoint_then steps).line.quarantined.events
