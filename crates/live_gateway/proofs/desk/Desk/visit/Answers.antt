use Rattle.std.proofs.Common.{◌≡◌, ℕ, ◌-◌, List, refl, ◌∙◌, ap, subst}
use Rattle.plain_machine.specs.Event.{GatewayEvent}
use Rattle.plain_machine.specs.Lists.{plain}
use Rattle.gateway_core.specs.GatewayState.{GatewayState}
use Rattle.gateway_core.specs.Stands.{Stands}
use Rattle.telephone_control.specs.Paging.{ShowsPage}
use Rattle.live_gateway.proofs.FrameLemmas.{shown_alone, served_alone, with_exchange}
use Rattle.live_gateway.proofs.desk.Desk.visit.Goals as goal

pub returns : goal.returns
returns g c =
    let here : (events : List GatewayEvent) → Stands c.args.self.now.play.gateway.value events
    → c.now.result ≡ (plain c.args.self.now.play.gateway.value.setup events).now =
    subst (λ (gateway : GatewayState). (events : List GatewayEvent) → Stands gateway events → c.now.result ≡ (plain gateway.setup events).now)
    c.deref.ensures c.now.ensures.value in
    record {
      served = record c.args.self.now { exchange = c.serve_visitor.new.self };
      lag = c.saturating_sub-behind.result;
      shown = c.show.new.journal;
      behind = λ events stands. c.saturating_sub-behind.ensures ∙ ap (λ (n : ℕ). c.args.moment - n) (here events stands);
      shows = subst (λ (gateway : GatewayState).
          ShowsPage gateway c.args.self.now.exchange.faults c.saturating_sub-behind.result c.args.self.now.exchange.journal c.show.new.journal)
          c.deref-2.ensures c.show.ensures;
      before = with_exchange c.args.self.now _ _
          (served_alone c.args.self.now.exchange c.serve_visitor.new.self c.show.new.journal
          (shown_alone c.args.self.now.exchange.journal c.show.new.journal c.show.ensures)
          c.serve_visitor.ensures.rest);
      turn = c.serve_visitor.ensures.served;
      kept = c.serve_visitor.ensures.traffic;
      page = record {
        asked = c.take_from_page-self.ensures.took.0;
        asks = c.take_from_page-self.ensures.took.1;
        rest = refl;
        shown = c.take_from_page-self.ensures.shown;
        took = c.take_from_page-self.ensures.took.2;
      };
    }
