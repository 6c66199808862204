use Rattle.std.proofs.Common.{◌≡◌, ◌+◌, ◌-◌, ◌*◌, suc, length, refl, arith, rules, Some}
use Rattle.call_agent.specs.Flying.{if_due, first_flight}
use Rattle.call_agent.proofs.PassLemmas.{flew_step, flew_no_more, flew_out, flew_whole, still_found}
use Rattle.call_agent.proofs.ticking.pass.Goals as goal

pub loop-init : goal.loop-init
loop-init c = record {
  completes = λ is are flew. flew_whole c.args.moment (8 * length c.args.flights.now.is - 0) _ is _ are (omega arith) flew;
  still = record { next = refl; found = refl };
}

pub returns-in_default : goal.returns-in_default
returns-in_default c = c.loop.invariant.completes c.loop.flights c.loop.out.items (flew_no_more _ c.args.moment c.loop.flights _ (search rules))

pub loop-preserved : goal.loop-preserved
loop-preserved c =
    let most = c.most_due-end.ensures in
    let before = c.loop-test.true in
    let more : 8 * length c.args.flights.now.is - c.loop.counter ≡ suc (8 * length c.args.flights.now.is - (c.loop.counter + 1)) = omega (arith, most, before) in
    let due : if_due c.args.moment (first_flight c.loop.flights.is) ≡ Some c.in_ok-flight.flight = search rules in
    record {
      completes = λ is are rest. c.loop.invariant.completes is are
          (flew_step (8 * length c.args.flights.now.is - c.loop.counter) (8 * length c.args.flights.now.is - (c.loop.counter + 1)) c.args.moment c.in_ok-flight.flight c.loop.flights
          c.fly_on.new.flights is c.loop.out.items c.fly_on.new.out.items are more due c.in_ok-fly_on.ensures rest);
      still = still_found _ _ _ c.loop.invariant.still c.in_ok-fly_on.ensures.still;
    }

pub returns : goal.returns
returns c =
    let most = c.most_due-end.ensures in
    let done = c.loop-test.false in
    let none : 8 * length c.args.flights.now.is - c.loop.counter ≡ 0 = omega (arith, most, done) in
    c.loop.invariant.completes c.loop.flights c.loop.out.items (flew_out (8 * length c.args.flights.now.is - c.loop.counter) c.args.moment c.loop.flights c.loop.out.items none)
