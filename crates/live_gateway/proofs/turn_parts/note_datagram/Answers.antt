use Rattle.std.proofs.Common.{refl}
use Rattle.live_gateway.proofs.OverLemmas.{explains_taken, explains_refused, noted_alone}
use Rattle.live_gateway.proofs.turn_parts.note_datagram.Goals as goal

pub returns-then-is_taken : goal.returns-then-is_taken
returns-then-is_taken g c =
    explains_taken _ _ _ _ _ _ c.if-is_taken.true
    (rw (c.deref_mut.ensures.value) at c.explain.ensures.told, rw (c.deref_mut.ensures.value) at c.explain.ensures.rest) refl

pub returns-else-is_taken : goal.returns-else-is_taken
returns-else-is_taken g c =
    explains_refused _ _ _ _ _ _ c.if-is_taken.false c.untaken.ensures.logged
    (noted_alone c.args.exchange.now c.untaken.new.self c.untaken.ensures.rest)
