use Rattle.std.proofs.Common.{None, refl}
use Rattle.agent_gateways.proofs.TypedCommandLemmas.{issued_meant, issued_typed}
use Rattle.agent_gateways.proofs.switchboard.Switchboard.issue_typed.Goals as goal

pub returns-in_default : goal.returns-in_default
returns-in_default c = issued_typed c.args.text.now None _ c.args.self.now c.args.self.now c.in_default.ensures (refl, refl)

pub returns-in_default-meant : goal.returns-in_default-meant
returns-in_default-meant c =
    issued_typed c.args.text.now _ _ c.args.self.now c.args.self.now c.in-Some.ensures
    (issued_meant _ _ _ None _ c.args.self.now c.args.self.now c.in_default-meant.ensures (refl, refl))

pub returns : goal.returns
returns c =
    issued_typed c.args.text.now _ c.issue_there.result c.args.self.now c.issue_there.new.self c.in-Some.ensures
    (issued_meant _ _ _ _ c.issue_there.result c.args.self.now c.issue_there.new.self c.in-Some-meant.ensures c.issue_there.ensures)
