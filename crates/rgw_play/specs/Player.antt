-- What moves make of a player.
use Rattle.std.specs.Prelude.{◌≡◌, ◌≢◌, ◌+◌, ◌++◌, List, [], ◌∷◌, count_by, Result, Ok, Err}
use Rattle.std.specs.List.{flat_map}
use Rattle.transmission.specs.declared.output.OutDatagram.{OutDatagram}
use Rattle.machine_rules.specs.declared.refusal.Refusal.{Refusal}
use Rattle.machine_rules.specs.declared.refusal.Refusal.TheVariants.{OutOfMemory}
use Rattle.plain_machine.specs.Event.{GatewayEvent}
use Rattle.gateway_core.specs.Stands.{Stands}
use Rattle.rgw_play.specs.declared.player.Player.{Player}
use Rattle.rgw_scripts.specs.Moves.{Move, Shown, sends, refuses, went, printed, is_refused}

-- what is shown is printed after p's text, and its refusals are counted
pub record Prints (p : Player) (shown : List Shown) (q : Player) : Type 0 where
  pub text : q.out.items ≡ p.out.items ++ flat_map printed shown
  pub counted : q.refused ≡ p.refused + count_by is_refused shown

-- what the gateway gave at an event is printed, its outputs or why it refused; not for want of memory
abbrev pub Finishes : Result (List OutDatagram) Refusal → Player → Player → Type 0
Finishes (Ok outputs) p q = (q.gateway ≡ p.gateway) × Prints p (sends outputs ∷ []) q
Finishes (Err refusal) p q = (refusal ≢ OutOfMemory) × (q.gateway ≡ p.gateway) × Prints p (refuses refusal ∷ []) q

-- from p the moves lead to q: whatever events p's gateway stands for, q's stands for those that are taken then
pub record Moved (p : Player) (moves : List Move) (q : Player) : Type 0 where
  pub setup : q.gateway.setup ≡ p.gateway.setup
  pub stands : (before : List GatewayEvent) → Stands p.gateway before →
      Stands q.gateway (went p.gateway.setup before moves).taken
  pub prints : (before : List GatewayEvent) → Stands p.gateway before →
      Prints p (went p.gateway.setup before moves).shown q
