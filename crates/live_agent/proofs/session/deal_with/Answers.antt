use Rattle.std.proofs.Common.{refl}
use Rattle.live_agent.proofs.DatagramLemmas.{heard_all, heard_next}
use Rattle.live_agent.proofs.session.deal_with.Goals as goal

pub loop-text-preserved : goal.loop-text-preserved
loop-text-preserved g c = λ now is rest.
    c.loop-text.invariant now is
    (heard_next g.S.Surroundings.around c.args.place _ _ _ c.loop-text.board c.settle.new.board now c.loop-text.wire c.settle.new.wire is c.in-Some-next.ensures.steps
    (record {
      heard = c.hear.new.self;
      told = _;
      hears = rw (c.deref_mut.ensures.value) at c.hear.ensures.hears;
      tells = rw (c.deref_mut.ensures.value) at c.hear.ensures.rest;
      leaves = refl;
      settles = c.settle.ensures;
    }) rest)

pub returns : goal.returns
returns g c = c.loop-text.invariant c.loop-text.board c.loop-text.wire (heard_all g.S.Surroundings.around c.args.place _ c.loop-text.board c.loop-text.wire c.in_default-next.ensures.steps.0)

pub returns-in_default : goal.returns-in_default
returns-in_default g c = heard_all g.S.Surroundings.around c.args.place _ c.args.board.now c.args.wire.now c.in_default.ensures.texts
