use Rattle.std.proofs.Common.{sym, subst}
use Rattle.mgcp_text.specs.declared.message.Message.{Message}
use Rattle.agent_gateways.specs.Hearing.{HearsMessage}
use Rattle.agent_gateways.proofs.switchboard.Switchboard.hear_message.Goals as goal

pub returns-in-Response-clause-hears : goal.returns-in-Response-clause-hears
returns-in-Response-clause-hears c =
    subst (λ (said : Message). HearsMessage said c.args.place c.args.text.now c.args.self.now c.hear_response.new.self) (sym c.in-Response.is)
    c.hear_response.ensures.hears
