use Rattle.std.proofs.Common.{◌≡◌, List, length}
use Rattle.impairment.specs.declared.packet.Packet.{Packet}
use Rattle.live_agent.specs.Handing.{SendsEachOn}
use Rattle.live_agent.specs.Sending.{SendsOver}
use Rattle.live_agent.proofs.wire.Wire.handed_over.Given as goal

-- as many went out as were looked for
abbrev pub invariant-loop : goal.invariant-loop
invariant-loop g l = record {
  over : SendsOver l.fn.self l.self;
  out : (packets : List Packet) × (length packets ≡ l.counter) × SendsEachOn g.S.Surroundings.around packets l.fn.self l.self;
}
