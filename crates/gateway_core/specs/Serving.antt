-- How a gateway is served over a wire.
use Rattle.std.specs.Prelude.{◌≡◌, ℕ, ◌+◌, Bool, true, false, ⊤, List, [], ◌∷◌, ◌++◌, length, map, sum_by, count_by, if◌then◌else◌, Some}
use Rattle.std.specs.List.{flat_map}
use Rattle.transmission.specs.declared.output.OutDatagram.{OutDatagram}
use Rattle.machine_rules.specs.declared.refusal.Refusal.{Refusal}
use Rattle.plain_machine.specs.declared.setup.Setup.{Setup}
use Rattle.plain_machine.specs.Event.{GatewayEvent}
use Rattle.plain_machine.specs.Refusing.{Ends}
use Rattle.plain_machine.specs.Lists.{plain}
use Rattle.gateway_core.specs.declared.served.Served.{Served}
use Rattle.gateway_core.specs.GatewayState.{GatewayState}
use Rattle.gateway_core.specs.Stands.{Stands, Took}
use Rattle.gateway_core.specs.Wire.{Given, Handed, WireLog, Traffic, Carries, event, end, counted}

-- what a turn was, but for the one at which the end came
pub data Turn : Type 0 where
  -- the gateway took what came, and this is what it sent; so many of its sends failed
  took : (came : GatewayEvent) (outputs : List OutDatagram) (send_faults : ℕ) → Turn
  -- it refused what came
  refused : (came : GatewayEvent) (refusal : Refusal) → Turn
  -- the wire failed to give anything
  failed : Turn

abbrev pub given_at : Turn → List Given
given_at (took came outputs send_faults) = event came ∷ []
given_at (refused came refusal) = event came ∷ []
given_at failed = []

abbrev pub taken_at : Turn → List GatewayEvent
taken_at (took came outputs send_faults) = came ∷ []
taken_at (refused came refusal) = []
taken_at failed = []

abbrev pub outputs_at : Turn → List OutDatagram
outputs_at (took came outputs send_faults) = outputs
outputs_at (refused came refusal) = []
outputs_at failed = []

abbrev pub send_faults_at : Turn → ℕ
send_faults_at (took came outputs send_faults) = send_faults
send_faults_at (refused came refusal) = 0
send_faults_at failed = 0

abbrev pub is_refused : Turn → Bool
is_refused (took came outputs send_faults) = false
is_refused (refused came refusal) = true
is_refused failed = false

abbrev pub is_failed : Turn → Bool
is_failed (took came outputs send_faults) = false
is_failed (refused came refusal) = false
is_failed failed = true

-- a datagram as it is handed over: of its moment nothing is told
abbrev pub handed_of : OutDatagram → Handed
handed_of datagram = record { to = datagram.to; bytes = datagram.bytes }

-- Over turns, after which the end came or didn't

abbrev pub taken_in : List Turn → List GatewayEvent
taken_in turns = flat_map taken_at turns

abbrev pub outputs_in : List Turn → List OutDatagram
outputs_in turns = flat_map outputs_at turns

abbrev pub send_faults_in : List Turn → ℕ
send_faults_in turns = sum_by send_faults_at turns

abbrev pub end_if : Bool → List Given
end_if ended = if ended then end ∷ [] else []

-- what went over the wire: all that the gateway sent was handed to it in order, whether or not a send failed
abbrev pub traffic_in : List Turn → Bool → Traffic
traffic_in turns ended = record {
  given = flat_map given_at turns ++ end_if ended;
  handed = map handed_of (outputs_in turns);
  receive_faults = count_by is_failed turns;
  send_faults = send_faults_in turns;
}

-- what the gateway refuses it refuses as the plain machine does, or for want of memory, where it has taken these events
abbrev pub HasReasons : Setup → List GatewayEvent → List Turn → Type 0
HasReasons setup before [] = ⊤
HasReasons setup before (took came outputs send_faults ∷ turns) = HasReasons setup (before ++ came ∷ []) turns
HasReasons setup before (refused came refusal ∷ turns) =
    Ends (plain setup before) came (Some refusal) × HasReasons setup before turns
HasReasons setup before (failed ∷ turns) = HasReasons setup before turns

-- A gateway was served: these were its turns. It took what came at them but for what it refused, and what went over the wire
-- is theirs; so is what was counted.
pub record Serves (g : GatewayState) (was : WireLog) (went : List Turn) (served : Served) (g' : GatewayState) (is : WireLog) : Type 0 where
  pub took : Took g (taken_in went) g' [] (outputs_in went)
  pub reasons : (before : List GatewayEvent) → Stands g before → HasReasons g.setup before went
  pub carried : Carries was (traffic_in went served.ended) is
  pub turns : served.turns ≡ length went + length (end_if served.ended)
  pub refused : served.refused ≡ count_by is_refused went
  pub receive_faults : served.receive_faults ≡ count_by is_failed went
  pub send_faults : served.send_faults ≡ counted 0 (send_faults_in went)
