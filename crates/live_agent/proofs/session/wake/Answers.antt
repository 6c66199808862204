use Rattle.std.proofs.Common.{◌≡◌, true, false, inl, inr, refl, arith, rules}
use Rattle.live_agent.specs.declared.wire.TheConstants.{MOST_AT_ONCE}
use Rattle.live_agent.proofs.TickingLemmas.{woken_more, woken_so}
use Rattle.live_agent.proofs.session.wake.Goals as goal

pub loop-init : goal.loop-init
loop-init c = refl

pub loop-preserved : goal.loop-preserved
loop-preserved c =
    let some : c.wake.result ≡ true = search rules in
    woken_more c.args.place c.loop.counter c.args.board.now c.loop.board c.wake.new.self c.loop.invariant
    (woken_so c.wake.result true c.args.place c.loop.board c.wake.new.self some (record {
      is_found = c.wake.ensures.found;
      line = c.wake.ensures.line;
      lines = c.wake.ensures.lines;
      gateway = c.wake.ensures.gateway;
      own = c.wake.ensures.own;
      others = c.wake.ensures.others;
      rest = c.wake.ensures.rest;
    }))

pub returns-then-not-wake : goal.returns-then-not-wake
returns-then-not-wake c =
    let none : c.wake.result ≡ false = search rules in
    record {
      count = c.loop.counter;
      woken = c.loop.board;
      many = c.loop.invariant;
      last = inl (woken_so c.wake.result false c.args.place c.loop.board c.wake.new.self none (record {
        is_found = c.wake.ensures.found;
        line = c.wake.ensures.line;
        lines = c.wake.ensures.lines;
        gateway = c.wake.ensures.gateway;
        own = c.wake.ensures.own;
        others = c.wake.ensures.others;
        rest = c.wake.ensures.rest;
      }));
    }

pub returns : goal.returns
returns c =
    let all : c.loop.counter ≡ MOST_AT_ONCE = omega (arith, c.loop.auto.counter-end, c.loop-test.false) in
    record { count = c.loop.counter; woken = c.loop.board; many = c.loop.invariant; last = inr (all, refl) }
