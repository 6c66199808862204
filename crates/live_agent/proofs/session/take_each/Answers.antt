use Rattle.std.proofs.Common.{◌≡◌, true, false, refl, rules}
use Rattle.std.specs.Box.{with_value}
use Rattle.live_agent.proofs.DatagramLemmas.{settled_none, settled_some, takes_more}
use Rattle.live_agent.proofs.session.take_each.Goals as goal

pub loop-index-init : goal.loop-index-init
loop-index-init g c = (refl, refl)

pub loop-index-preserved-then-not-take : goal.loop-index-preserved-then-not-take
loop-index-preserved-then-not-take g c =
    let none : c.take.result ≡ false = search rules in
    let told = record c.loop-index.wire { journal = with_value c.loop-index.wire.journal c.take.new.journal } in
    takes_more g.S.Surroundings.around c.args.place c.loop-index.index c.args.board.now c.loop-index.board c.take.new.self c.args.wire.now c.loop-index.wire
    told c.loop-index.invariant (record {
      found = c.take.result;
      taken = c.take.new.self;
      told = told;
      takes = c.take.ensures.takes;
      waits = c.take.ensures.waits;
      rest = c.take.ensures.rest;
      counts = rw (c.deref_mut.ensures.value) at c.take.ensures.tally;
      leaves = refl;
      tells = rw (c.deref_mut.ensures.value) at c.take.ensures.journal;
      settles = settled_none g.S.Surroundings.around c.take.result c.take.new.self told none;
    })

pub loop-index-preserved : goal.loop-index-preserved
loop-index-preserved g c =
    let some : c.take.result ≡ true = search rules in
    let told = record c.loop-index.wire { journal = with_value c.loop-index.wire.journal c.take.new.journal } in
    takes_more g.S.Surroundings.around c.args.place c.loop-index.index c.args.board.now c.loop-index.board c.settle.new.board c.args.wire.now c.loop-index.wire
    c.settle.new.wire c.loop-index.invariant (record {
      found = c.take.result;
      taken = c.take.new.self;
      told = told;
      takes = c.take.ensures.takes;
      waits = c.take.ensures.waits;
      rest = c.take.ensures.rest;
      counts = rw (c.deref_mut.ensures.value) at c.take.ensures.tally;
      leaves = refl;
      tells = rw (c.deref_mut.ensures.value) at c.take.ensures.journal;
      settles = settled_some g.S.Surroundings.around c.take.result c.take.new.self c.settle.new.board told c.settle.new.wire some c.settle.ensures;
    })
