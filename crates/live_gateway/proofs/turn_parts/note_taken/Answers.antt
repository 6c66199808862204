use Rattle.std.proofs.Common.{refl}
use Rattle.live_gateway.proofs.OverLemmas.{notes_taken, notes_refused}
use Rattle.live_gateway.proofs.turn_parts.note_taken.Goals as goal

pub returns-then-is_taken : goal.returns-then-is_taken
returns-then-is_taken g c =
    notes_taken _ _ _ _ _ c.if-is_taken.true
    (rw (c.deref_mut.ensures.value) at c.unheard.ensures.record, rw (c.deref_mut.ensures.value) at c.unheard.ensures.rest) refl

pub returns-else-is_taken : goal.returns-else-is_taken
returns-else-is_taken g c = notes_refused _ _ _ c.args.exchange.now _ c.if-is_taken.false c.count.ensures
