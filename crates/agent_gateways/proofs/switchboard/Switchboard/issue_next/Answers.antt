use Rattle.std.proofs.Common.{◌≡◌, Some, refl, rules}
use Rattle.agent_gateways.specs.Issuing.{ordered_in}
use Rattle.agent_gateways.specs.Steps.{settled_in}
use Rattle.line_control.specs.Orders.{shown}
use Rattle.agent_gateways.proofs.IssueLemmas.{at_most, issued_order, issues_at, not_ordered, sent_alone, settled_so}
use Rattle.agent_gateways.proofs.switchboard.Switchboard.issue_next.Goals as goal

pub returns-in-Ok-None-clause-office : goal.returns-in-Ok-None-clause-office
returns-in-Ok-None-clause-office c =
    let found : settled_in c.args.index c.args.self.now.office ≡ Some c.in-Some-settled_at.line = search rules in
    issues_at _ c.in-Some-settled_at.line _ _ _ found (search rules) (search rules)

pub returns-in-Ok-None-clause-issued : goal.returns-in-Ok-None-clause-issued
returns-in-Ok-None-clause-issued c =
    let found : settled_in c.args.index c.args.self.now.office ≡ Some c.in-Some-settled_at.line = search rules in
    settled_so _ c.in-Some-settled_at.line _ _ _ found (search rules)

pub returns-in-Ok-None-clause-alone : goal.returns-in-Ok-None-clause-alone
returns-in-Ok-None-clause-alone c =
    let found : settled_in c.args.index c.args.self.now.office ≡ Some c.in-Some-settled_at.line = search rules in
    at_most _ c.in-Some-settled_at.line _ _ found (search rules)

pub returns-in-Err-clause-office : goal.returns-in-Err-clause-office
returns-in-Err-clause-office c =
    let found : settled_in c.args.index c.args.self.now.office ≡ Some c.in-Some-settled_at.line = search rules in
    issues_at _ c.in-Some-settled_at.line _ _ _ found (search rules) (search rules)

pub returns-in-Err-clause-issued : goal.returns-in-Err-clause-issued
returns-in-Err-clause-issued c =
    let found : settled_in c.args.index c.args.self.now.office ≡ Some c.in-Some-settled_at.line = search rules in
    settled_so _ c.in-Some-settled_at.line _ _ _ found (not_ordered c.in-Some-settled_at.line (ordered_in c.in-Some-settled_at.line c.args.self.now.dialling.value.map c.args.self.now.office) c.args.self.now c.order.new.self
    (record c.order.new.self { office = c.forget.new.office }) c.order.ensures.rest refl)

pub returns-in-Err-clause-alone : goal.returns-in-Err-clause-alone
returns-in-Err-clause-alone c =
    let found : settled_in c.args.index c.args.self.now.office ≡ Some c.in-Some-settled_at.line = search rules in
    at_most _ c.in-Some-settled_at.line _ _ found (search rules)

pub returns-in-Ok-clause-office : goal.returns-in-Ok-clause-office
returns-in-Ok-clause-office c =
    let found : settled_in c.args.index c.args.self.now.office ≡ Some c.in-Some-settled_at.line = search rules in
    issues_at _ c.in-Some-settled_at.line _ _ _ found (search rules) (search rules)

pub returns-in-Ok-clause-issued : goal.returns-in-Ok-clause-issued
returns-in-Ok-clause-issued c =
    let found : settled_in c.args.index c.args.self.now.office ≡ Some c.in-Some-settled_at.line = search rules in
    settled_so _ c.in-Some-settled_at.line _ _ _ found (issued_order c.in-Some-settled_at.line (shown c.in-Ok-Some.order) (ordered_in c.in-Some-settled_at.line c.args.self.now.dialling.value.map c.args.self.now.office) c.in-Ok.issued c.args.self.now
    c.order.new.self c.issue.new.self (rw (c.in-Ok-Some.field-0-is) at c.in-Ok-Some.ensures.order) c.order.ensures.rest
    c.in-Ok.ensures.issued)

pub returns-in-Ok-clause-alone : goal.returns-in-Ok-clause-alone
returns-in-Ok-clause-alone c =
    let found : settled_in c.args.index c.args.self.now.office ≡ Some c.in-Some-settled_at.line = search rules in
    at_most _ c.in-Some-settled_at.line _ _ found (sent_alone c.in-Some-settled_at.line c.args.self.now c.order.new.self c.issue.new.self c.issue.new.self c.order.ensures.rest c.issue.ensures.alone refl)
