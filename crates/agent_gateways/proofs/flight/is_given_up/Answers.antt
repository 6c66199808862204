use Rattle.std.proofs.Common.{◌≡◌, ◌+◌, ◌-◌, suc, zero, true, false, Some, None, ap, ◌∙◌, arith, rules}
use Rattle.retransmission.specs.declared.repeat.Repeat.TheVariants.{Sent, GivenUp}
use Rattle.retransmission.specs.Flight.{InFlight}
use Rattle.agent_gateways.specs.Flights.{most_steps, fallen, falls}
use Rattle.agent_gateways.proofs.FlightLemmas.{fell_on, fell_up, fell_not, fell_out}
use Rattle.agent_gateways.proofs.flight.is_given_up.Goals as goal

pub returns-in-None : goal.returns-in-None
returns-in-None c =
    let before = c.loop-test.true in
    let more : most_steps - c.loop.counter ≡ suc (most_steps - (c.loop.counter + 1)) = omega (arith, before) in
    let none : fallen c.loop.pending c.args.moment ≡ None = search rules in
    ap (λ (m : InFlight). (false, m)) c.fall.ensures.pending
    ∙ fell_not (most_steps - c.loop.counter) (most_steps - (c.loop.counter + 1)) c.loop.pending c.args.moment more none
    ∙ c.loop.invariant

pub returns-in-Some-GivenUp : goal.returns-in-Some-GivenUp
returns-in-Some-GivenUp c =
    let before = c.loop-test.true in
    let more : most_steps - c.loop.counter ≡ suc (most_steps - (c.loop.counter + 1)) = omega (arith, before) in
    let given_up : fallen c.loop.pending c.args.moment ≡ Some GivenUp = search rules in
    ap (λ (m : InFlight). (true, m)) c.fall.ensures.pending
    ∙ fell_up (most_steps - c.loop.counter) (most_steps - (c.loop.counter + 1)) c.loop.pending c.args.moment more given_up
    ∙ c.loop.invariant

pub loop-preserved : goal.loop-preserved
loop-preserved c =
    let before = c.loop-test.true in
    let more : most_steps - c.loop.counter ≡ suc (most_steps - (c.loop.counter + 1)) = omega (arith, before) in
    let sent : fallen c.loop.pending c.args.moment ≡ Some Sent = search rules in
    ap (λ (m : InFlight). falls (most_steps - (c.loop.counter + 1)) m c.args.moment) c.fall.ensures.pending
    ∙ fell_on (most_steps - c.loop.counter) (most_steps - (c.loop.counter + 1)) c.loop.pending c.args.moment more sent
    ∙ c.loop.invariant

pub returns : goal.returns
returns c =
    let done = c.loop-test.false in
    let none : most_steps - c.loop.counter ≡ zero = omega (arith, done) in
    fell_out (most_steps - c.loop.counter) c.loop.pending c.args.moment none ∙ c.loop.invariant
