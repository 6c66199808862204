use Rattle.std.proofs.Common.{drop}
use Rattle.live_agent.specs.declared.wire.Wire.{Wire}
use Rattle.live_agent.specs.Sending.{SendsAll}
use Rattle.live_agent.proofs.wire.Wire.send_all.Given as goal

-- what sends those that are left sends all
abbrev pub invariant-loop-datagram : goal.invariant-loop-datagram
invariant-loop-datagram g l =
    (is : Wire g.row.S.Denot) → SendsAll g.S.Surroundings.around l.is_repeat (drop l.datagram-index l.datagrams) l.self is
    → SendsAll g.S.Surroundings.around l.is_repeat l.datagrams l.fn.self is
