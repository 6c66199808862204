use Rattle.live_agent.proofs.DatagramLemmas.{sends_next, sends_none}
use Rattle.live_agent.proofs.wire.Wire.send_all.Goals as goal

pub loop-datagram-init : goal.loop-datagram-init
loop-datagram-init g c = λ is sends. sends

pub loop-datagram-preserved : goal.loop-datagram-preserved
loop-datagram-preserved g c = λ is sends.
    c.loop-datagram.invariant is
    (sends_next g.S.Surroundings.around c.args.is_repeat c.args.datagrams.now c.loop-datagram.datagram-index _ c.loop-datagram.self c.send.new.self is
    c.loop-datagram-test.true c.datagram-item.is (rw (c.as_bytes.ensures) at c.send.ensures.one) sends)

pub returns : goal.returns
returns g c =
    c.loop-datagram.invariant c.loop-datagram.self
    (sends_none g.S.Surroundings.around c.args.is_repeat c.args.datagrams.now c.loop-datagram.datagram-index c.loop-datagram.self c.loop-datagram-test.false)
