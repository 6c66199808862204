use Rattle.std.proofs.Common.{◌≡◌, inl, refl, ap, subst, ◌∙◌, ◌+◌, Bool, true, List}
use Rattle.std.specs.Prelude.{not}
use Rattle.plain_machine.specs.Event.{GatewayEvent}
use Rattle.plain_machine.specs.Lists.{plain}
use Rattle.gateway_core.specs.GatewayState.{GatewayState}
use Rattle.gateway_core.specs.Stands.{Stands}
use Rattle.turns.specs.Schedule.{opening}
use Rattle.live_gateway.specs.Ending.{EndsAt}
use Rattle.live_gateway.proofs.DeskLemmas.{stays_so, goes_on_then}
use Rattle.live_gateway.proofs.EndingLemmas.{ends_so}
use Rattle.live_gateway.proofs.FrameLemmas.{made_of, starts_so}
use Rattle.live_gateway.proofs.TurningLemmas.{runs_once_more}
use Rattle.live_gateway.proofs.desk.Desk.run.Goals as goal

pub loop-init : goal.loop-init
loop-init g c = (
  stays_so _ _ _ _ (rw (c.moment-moment.ensures.network, c.moment-moment.ensures.around, c.moment-moment.ensures.refused) refl) refl,
  record {
    begun = record c.args.self.now { exchange = c.moment-moment.new.self; schedule = c.starting_at-self.result };
    starts = record {
      clock = c.moment-moment.ensures.clock.0;
      read_so = c.moment-moment.ensures.clock.1;
      ticked = c.now.result;
      ticked_so = subst (λ (gateway : GatewayState). (events : List GatewayEvent) → Stands gateway events
          → c.now.result ≡ (plain gateway.setup events).now) c.deref.ensures c.now.ensures.value;
      rest = starts_so c.args.self.now c.moment-moment.new.self c.starting_at-self.result opening c.moment-moment.result _
          (made_of c.moment-moment.new.self _ _ _ _ _ _ _ c.moment-moment.ensures.around c.moment-moment.ensures.network
          c.moment-moment.ensures.journal c.moment-moment.ensures.turn.0 c.moment-moment.ensures.read refl c.moment-moment.ensures.turn.1)
          c.starting_at-self.ensures c.moment-moment.ensures.clock.2;
      faults = c.moment-moment.ensures.clock.3;
    };
    turns = refl;
  },
)

pub returns-then-not-goes_on-clause-play : goal.returns-then-not-goes_on-clause-play
returns-then-not-goes_on-clause-play g c =
    goes_on_then _ _ _ _ _ c.loop.invariant.0 (goes_on_then _ _ _ _ _ c.turn-goes_on.ensures.play c.write.ensures.play)

pub returns-then-not-goes_on-clause-end : goal.returns-then-not-goes_on-clause-end
returns-then-not-goes_on-clause-end g c =
    let over = c.turn-goes_on.ensures.over c.if-not-goes_on.true in (
      c.loop.counter + 1,
      runs_once_more _ _ _ _ _ _ _ _ _ _ _ _ _ _ c.loop.invariant.1 c.turn-goes_on.ensures.does c.write.ensures.wrote c.write.ensures.offering
          c.write.ensures.teller c.write.ensures.exchange c.write.ensures.rest,
      inl (
          ends_so c.loop.self.end c.write.new.self.end c.loop.self.play.gateway.value c.write.new.self.play.gateway.value true
          (ap (λ desk. desk.end) c.write.ensures.rest ∙ over.1)
          (ap (λ gateway. gateway.value) c.write.ensures.gateway ∙ ap (λ play. play.gateway.value) over.0)
          (subst (λ (b : Bool). EndsAt c.loop.self.end c.loop.self.play.gateway.value (not b)) c.if-not-goes_on.true c.turn-goes_on.ensures.end)),
    )

pub loop-preserved : goal.loop-preserved
loop-preserved g c = (
  goes_on_then _ _ _ _ _ c.loop.invariant.0 (goes_on_then _ _ _ _ _ c.turn-goes_on.ensures.play c.write.ensures.play),
  runs_once_more _ _ _ _ _ _ _ _ _ _ _ _ _ _ c.loop.invariant.1 c.turn-goes_on.ensures.does c.write.ensures.wrote c.write.ensures.offering
      c.write.ensures.teller c.write.ensures.exchange c.write.ensures.rest,
)

pub returns-clause-play : goal.returns-clause-play
returns-clause-play g c = c.loop.invariant.0
