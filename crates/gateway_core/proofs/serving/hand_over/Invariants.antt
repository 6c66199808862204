use Rattle.std.proofs.Common.{◌≤◌, take}
use Rattle.gateway_core.specs.Wire.{Carries}
use Rattle.gateway_core.specs.Turning.{handing}
use Rattle.gateway_core.proofs.serving.hand_over.Given as goal

abbrev pub invariant-loop-datagram : goal.invariant-loop-datagram
invariant-loop-datagram g l = record {
  log : Carries (g.W.Wire.log l.fn.wire) (handing (take l.datagram-index l.datagrams) l.faults) (g.W.Wire.log l.wire);
  few : l.faults ≤ l.datagram-index;
}
