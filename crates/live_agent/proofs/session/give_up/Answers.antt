use Rattle.std.proofs.Common.{◌≡◌, true, false, inl, inr, refl, arith, rules}
use Rattle.std.specs.Box.{with_value}
use Rattle.live_agent.specs.declared.wire.TheConstants.{MOST_AT_ONCE}
use Rattle.live_agent.proofs.TickingLemmas.{given_counted, given_more, given_so}
use Rattle.live_agent.proofs.session.give_up.Goals as goal

pub loop-init : goal.loop-init
loop-init g c = (refl, refl)

pub loop-preserved : goal.loop-preserved
loop-preserved g c =
    let some : c.give_up.result ≡ true = search rules in
    let told = record c.loop.wire { journal = with_value c.loop.wire.journal c.give_up.new.journal } in
    given_more g.S.Surroundings.around c.args.place c.loop.counter c.args.board.now c.loop.board c.settle.new.board c.args.wire.now c.loop.wire c.settle.new.wire
    c.loop.invariant (record {
      given = c.give_up.new.self;
      told = told;
      gives_up = given_so c.give_up.result true c.args.place c.loop.board c.give_up.new.self c.loop.wire told some (record {
        is_found = c.give_up.ensures.found;
        gives_up = c.give_up.ensures.gives_up;
        counts = given_counted c.give_up.result _ _ _ c.give_up.ensures.found (rw (c.deref_mut.ensures.value) at c.give_up.ensures.tally);
        tells = rw (c.deref_mut.ensures.value) at c.give_up.ensures.rest;
        rest = refl;
      });
      settles = c.settle.ensures;
    })

pub returns-then-not-give_up : goal.returns-then-not-give_up
returns-then-not-give_up g c =
    let none : c.give_up.result ≡ false = search rules in
    let told = record c.loop.wire { journal = with_value c.loop.wire.journal c.give_up.new.journal } in
    record {
      count = c.loop.counter;
      given = c.loop.board;
      told = c.loop.wire;
      many = c.loop.invariant;
      last = inl (given_so c.give_up.result false c.args.place c.loop.board c.give_up.new.self c.loop.wire told none (record {
        is_found = c.give_up.ensures.found;
        gives_up = c.give_up.ensures.gives_up;
        counts = given_counted c.give_up.result _ _ _ c.give_up.ensures.found (rw (c.deref_mut.ensures.value) at c.give_up.ensures.tally);
        tells = rw (c.deref_mut.ensures.value) at c.give_up.ensures.rest;
        rest = refl;
      }));
    }

pub returns : goal.returns
returns g c =
    let all : c.loop.counter ≡ MOST_AT_ONCE = omega (arith, c.loop.auto.counter-end, c.loop-test.false) in
    record {
      count = c.loop.counter;
      given = c.loop.board;
      told = c.loop.wire;
      many = c.loop.invariant;
      last = inr (all, refl, refl);
    }
