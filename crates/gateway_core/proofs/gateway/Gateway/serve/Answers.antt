use Rattle.std.proofs.Common.{[], refl, sym, ◌∙◌, inl, arith}
use Rattle.gateway_core.proofs.StandLemmas.{took_none}
use Rattle.gateway_core.proofs.ServeLemmas.{serves_nothing, carries_nothing, turned_on, turned_out, end_noted}
use Rattle.gateway_core.proofs.gateway.Gateway.serve.Goals as goal

pub loop-init : goal.loop-init
loop-init g c = record {
  turns = (
    [],
    record {
      serves = serves_nothing c.args.self.now (g.W.Wire.log c.args.wire.now) _ (took_none _ _ _ _ refl refl refl refl (λ m same. same)) (carries_nothing _) refl refl refl refl refl;
      count = refl;
      running = refl;
    },
  );
  room = refl;
}

pub loop-preserved : goal.loop-preserved
loop-preserved g c = record {
  turns = turned_on _ _ _ _ _ _ _ _ _ _ c.loop.invariant.turns (omega (arith, c.loop-test.true, c.ranges.turns.fits)) c.turn-turn.ensures.turn c.note.ensures (sym c.is_last.ensures ∙ c.if-is_last.false);
  room = c.turn-turn.ensures.room;
}

pub returns-then-is_last-clause-serves : goal.returns-then-is_last-clause-serves
returns-then-is_last-clause-serves g c = turned_out _ _ _ _ _ _ _ _ _ _ c.loop.invariant.turns (omega (arith, c.loop-test.true, c.ranges.turns.fits)) c.turn-turn.ensures.turn c.note.ensures (sym c.is_last.ensures ∙ c.if-is_last.true)

pub returns-then-is_last-clause-stops : goal.returns-then-is_last-clause-stops
returns-then-is_last-clause-stops g c = inl (end_noted _ _ _ c.note.ensures (sym c.is_last.ensures ∙ c.if-is_last.true))
