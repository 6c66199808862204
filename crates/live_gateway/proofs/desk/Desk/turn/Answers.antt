use Rattle.std.proofs.Common.{◌≡◌, ◌<◌, ◌^◌, ℕ, List, refl, ◌∙◌, ap, subst, sym, rules}
use Rattle.std.specs.Prelude.{not}
use Rattle.plain_machine.specs.Event.{GatewayEvent}
use Rattle.plain_machine.specs.Lists.{plain}
use Rattle.gateway_core.specs.GatewayState.{GatewayState}
use Rattle.gateway_core.specs.Stands.{Stands}
use Rattle.live_gateway.specs.Exchanging.{moment_at}
use Rattle.live_gateway.proofs.DeskLemmas.{between}
use Rattle.live_gateway.proofs.EndingLemmas.{not_false, turn_ends}
use Rattle.live_gateway.proofs.FrameLemmas.{begun_alone, dated_before, with_exchange, begins_same, leaves_schedule}
use Rattle.live_gateway.proofs.TurningLemmas.{tick_is_later, tick_is_short}
use Rattle.live_gateway.proofs.desk.Desk.turn.Goals as goal

pub returns-clause-play : goal.returns-clause-play
returns-clause-play g c =
    between g.T.Teller.told g.S.Surroundings.around.traffic _ _ _ _
    c.do_turn-is_taken.ensures.play
    (begins_same g.T.Teller.told g.S.Surroundings.around.traffic c.args.self.now
    (record c.args.self.now { exchange = c.begin.new.self; schedule = c.next-turn.new.self }) c.situation-at.ensures.clock.0
    (with_exchange (record c.args.self.now { schedule = c.next-turn.new.self }) _ _
    (begun_alone c.args.self.now.exchange c.situation-at.new.exchange c.begin.new.self c.situation-at.ensures.rest c.begin.ensures.around c.begin.ensures.network
    c.begin.ensures.journal c.begin.ensures.read c.begin.ensures.offering))
    (c.begin.ensures.faults ∙ c.situation-at.ensures.clock.3))
    refl
    (rw (c.tell.ensures.traffic) refl)
    refl

pub do_turn-is_taken-requires : goal.do_turn-is_taken-requires
do_turn-is_taken-requires g c =
    let here : (events : List GatewayEvent) → Stands c.args.self.now.play.gateway.value events
    → c.now-ticked.result ≡ (plain c.args.self.now.play.gateway.value.setup events).now =
    subst (λ (gateway : GatewayState). (events : List GatewayEvent) → Stands gateway events → c.now-ticked.result ≡ (plain gateway.setup events).now)
    c.deref.ensures c.now-ticked.ensures.value in
    let few : c.situation-at.result.moment < 2 ^ 64 = search rules in
    λ to is. (
      tick_is_short _ c.situation-at.result c.next-turn.result _ to _ few c.next-turn.ensures is c.situation-at.ensures.ticked
          c.situation-at.ensures.short,
      λ events stands. tick_is_later _ c.situation-at.result c.next-turn.result _ to _ few c.next-turn.ensures is
          (c.situation-at.ensures.ticked ∙ here events stands),
    )

pub returns-clause-end : goal.returns-clause-end
returns-clause-end g c =
    let here : (events : List GatewayEvent) → Stands c.args.self.now.play.gateway.value events
    → c.now-ticked.result ≡ (plain c.args.self.now.play.gateway.value.setup events).now =
    subst (λ (gateway : GatewayState). (events : List GatewayEvent) → Stands gateway events → c.now-ticked.result ≡ (plain gateway.setup events).now)
    c.deref.ensures c.now-ticked.ensures.value in
    turn_ends _ _ c.situation-at.result c.next-turn.result c.args.self.now.end c.args.self.now.play.gateway.value _ c.next-turn.ensures
    c.situation-at.ensures.end
    (λ events stands. c.situation-at.ensures.ticked ∙ here events stands)
    (ap not c.is_end.ensures)

pub returns-clause-does : goal.returns-clause-does
returns-clause-does g c =
    let here : (events : List GatewayEvent) → Stands c.args.self.now.play.gateway.value events
    → c.now-ticked.result ≡ (plain c.args.self.now.play.gateway.value.setup events).now =
    subst (λ (gateway : GatewayState). (events : List GatewayEvent) → Stands gateway events → c.now-ticked.result ≡ (plain gateway.setup events).now)
    c.deref.ensures c.now-ticked.ensures.value in
    let at = c.situation-at.result in
    record {
      at = at;
      turn = c.next-turn.result;
      begun = record c.args.self.now { exchange = c.begin.new.self; schedule = c.next-turn.new.self };
      done = c.do_turn-is_taken.new.self;
      situation = record {
        clock = c.situation-at.ensures.clock.0;
        read_so = c.situation-at.ensures.clock.1;
        told = c.situation-at.ensures.ready.0;
        told_so = c.situation-at.ensures.ready.2;
        is_visited = c.situation-at.ensures.ready.1;
        visited_so = c.situation-at.ensures.ready.3;
        own = c.next_due-due.result;
        deadline = c.situation-at.ensures.due.0;
        closes_so = c.situation-at.ensures.due.1;
        moment = subst (λ (n : ℕ). at.moment ≡ moment_at c.situation-at.ensures.clock.0 n) (sym c.situation-at.ensures.ticked) c.situation-at.ensures.clock.2;
        ticked = λ events stands. c.situation-at.ensures.ticked ∙ here events stands;
        by_gateway = rw (c.deref-2.ensures) at c.next_due-due.ensures;
        due = c.situation-at.ensures.due.2;
        end = c.situation-at.ensures.end;
        read = c.situation-at.ensures.read;
        ready = rw (sym c.is_empty-is_line_left.ensures, c.situation-at.ensures.ticked) c.situation-at.ensures.ready.4;
      };
      next = rw (leaves_schedule g.S.Surroundings.around g.V.Visitors.visits.serves at.moment c.next-turn.result c.args.visitors.now c.do_turn-is_taken.new.visitors
          (record c.args.self.now { exchange = c.begin.new.self; schedule = c.next-turn.new.self }) c.do_turn-is_taken.new.self c.do_turn-is_taken.ensures.leaves)
          c.next-turn.ensures;
      before = with_exchange (record c.args.self.now { schedule = c.next-turn.new.self }) _ _
          (begun_alone c.args.self.now.exchange c.situation-at.new.exchange c.begin.new.self c.situation-at.ensures.rest c.begin.ensures.around c.begin.ensures.network
          c.begin.ensures.journal c.begin.ensures.read c.begin.ensures.offering);
      clock = c.begin.ensures.clock;
      dated = dated_before g.S.Surroundings.around.dates c.args.self.now.exchange c.situation-at.new.exchange _ c.situation-at.ensures.rest c.begin.ensures.time;
      faults = c.begin.ensures.faults ∙ c.situation-at.ensures.clock.3;
      does = c.do_turn-is_taken.ensures.does;
      leaves = c.do_turn-is_taken.ensures.leaves;
      taken = c.do_turn-is_taken.result;
      may = c.do_turn-is_taken.ensures.may;
      changes = c.do_turn-is_taken.ensures.changes;
      behind = refl;
      kept = c.tell.ensures.traffic;
      still = c.tell.ensures.watchers;
      watch = rw (c.deref-3.ensures) at c.tell.ensures.watch;
    }

pub returns-clause-over : goal.returns-clause-over
returns-clause-over g c = λ ended. c.do_turn-is_taken.ensures.over (sym c.is_end.ensures ∙ not_false c.is_end.result ended)
