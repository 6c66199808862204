use Rattle.std.proofs.Common.{subst}
use Rattle.gateway_core.specs.GatewayState.{GatewayState}
use Rattle.live_play.proofs.play.LivePlay.hand_out.Goals as goal

pub returns-clause-handed : goal.returns-clause-handed
returns-clause-handed g c = record {
  turned = c.turned.new.self;
  told = subst (λ (gateway : GatewayState). g.O.Outlet.turns c.args.out.now gateway c.turned.new.self) c.deref.ensures c.turned.ensures.turns;
  by = rw (c.turned.ensures.handed, c.sent-messages.ensures.kept, c.deref-2.ensures) at (c.hand_all.ensures.handed c.args.self.now.gateway.value c.args.self.now.script);
}
