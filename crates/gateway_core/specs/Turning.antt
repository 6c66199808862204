-- One turn of a gateway that is served, as its code tells of it.
use Rattle.std.specs.Prelude.{◌≡◌, ℕ, true, cond, List, [], ◌∷◌, map}
use Rattle.transmission.specs.declared.output.OutDatagram.{OutDatagram}
use Rattle.machine_rules.specs.declared.refusal.Refusal.{Refusal}
use Rattle.plain_machine.specs.Event.{GatewayEvent}
use Rattle.gateway_core.specs.declared.served.Served.{Served}
use Rattle.machine_rules.specs.declared.turning.TurnEnd.{TurnEnd}
use Rattle.machine_rules.specs.declared.turning.TurnEnd.TheVariants as ends
use Rattle.gateway_core.specs.GatewayState.{GatewayState}
use Rattle.gateway_core.specs.Stands.{Stands, Took}
use Rattle.gateway_core.specs.Wire.{WireLog, Traffic, Carries, end, counted, gives}
use Rattle.gateway_core.specs.Serving.{Turn, took, refused, failed, given_at, taken_at, outputs_at, send_faults_at, is_failed, handed_of, HasReasons}

-- datagrams that are handed over, so many of them in vain
abbrev pub handing : List OutDatagram → ℕ → Traffic
handing datagrams faults = record {
  given = [];
  handed = map handed_of datagrams;
  receive_faults = 0;
  send_faults = faults;
}

abbrev pub traffic_at : Turn → Traffic
traffic_at turn = record {
  given = given_at turn;
  handed = map handed_of (outputs_at turn);
  receive_faults = cond (is_failed turn) 1 0;
  send_faults = send_faults_at turn;
}

-- a turn went so
pub record Went (turn : Turn) (g : GatewayState) (was : WireLog) (g' : GatewayState) (is : WireLog) : Type 0 where
  pub took : Took g (taken_at turn) g' [] (outputs_at turn)
  pub reason : (before : List GatewayEvent) → Stands g before → HasReasons g.setup before (turn ∷ [])
  pub carried : Carries was (traffic_at turn) is

-- the end came
pub record Ended (g : GatewayState) (was : WireLog) (g' : GatewayState) (is : WireLog) : Type 0 where
  pub same : g' ≡ g
  pub carried : Carries was (gives (end ∷ []) 0) is

-- how a turn ended is what it was
abbrev pub Turned : TurnEnd → GatewayState → WireLog → GatewayState → WireLog → Type 0
Turned (ends.Took faults) g was g' is =
    (came : GatewayEvent) × (outputs : List OutDatagram) × Went (took came outputs faults) g was g' is
Turned ends.Refused g was g' is = (came : GatewayEvent) × (refusal : Refusal) × Went (refused came refusal) g was g' is
Turned ends.Failed g was g' is = Went failed g was g' is
Turned ends.Ended g was g' is = Ended g was g' is

-- what is counted, one turn more
abbrev pub noted : Served → TurnEnd → Served
noted served (ends.Took faults) =
    record served { turns = counted served.turns 1; send_faults = counted served.send_faults faults }
noted served ends.Refused =
    record served { turns = counted served.turns 1; refused = counted served.refused 1 }
noted served ends.Failed =
    record served { turns = counted served.turns 1; receive_faults = counted served.receive_faults 1 }
noted served ends.Ended = record served { turns = counted served.turns 1; ended = true }
