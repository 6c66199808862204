use Rattle.std.proofs.Common.{ℕ, Option, drop}
use Rattle.agent_gateways.specs.Dues.{FallsDue, FallsDueFrom}
use Rattle.agent_gateways.proofs.switchboard.Switchboard.next_due.Given as goal

-- what falls due at those that are left, behind this, falls due at all
abbrev pub invariant-loop-gateway : goal.invariant-loop-gateway
invariant-loop-gateway l =
    (due : Option ℕ) → FallsDueFrom l.least (drop l.gateway-index l.self.gateways.items) due → FallsDue l.self.gateways.items due
