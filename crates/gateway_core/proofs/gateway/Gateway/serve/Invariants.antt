use Rattle.std.proofs.Common.{◌≡◌, List, length}
use Rattle.gateway_core.specs.Serving.{Turn}
use Rattle.gateway_core.proofs.ServeLemmas.{Serving}
use Rattle.gateway_core.proofs.gateway.Gateway.serve.Given as goal

abbrev pub invariant-loop : goal.invariant-loop
invariant-loop g l = record {
  turns : (turns : List Turn) × Serving l.fn.self (g.W.Wire.log l.fn.wire) turns l.counter l.served l.self (g.W.Wire.log l.wire);
  room : length l.room ≡ 4001;
}
