use Rattle.std.proofs.Common.{arith, rules}
use Rattle.std.proofs.lemmas.Grind.{common_steps, elements}
use Rattle.line_control.specs.Orders.{shown}
use Rattle.agent_gateways.specs.Issuing.{IssuesUnder}
use Rattle.agent_gateways.proofs.IssueLemmas.{issued_under}
use Rattle.agent_gateways.proofs.switchboard.Switchboard.issue.Goals as goal

pub returns-clause-issued : goal.returns-clause-issued
returns-clause-issued c =
    let issued : IssuesUnder c.in-Some.station.now.name (shown c.args.order.now) c.args.line c.issue.result c.in-Some-get_mut.gateway.now
    c.issue.new.self
    = issued_under c.in-Some.station.now.name c.args.order.now.rest c.as_bytes-name.result.now c.as_bytes-rest.result.now
    c.args.order.now.verb.now c.args.line c.issue.result c.in-Some-get_mut.gateway.now c.issue.new.self c.as_bytes-name.ensures c.as_bytes-rest.ensures
    c.issue.ensures.took c.issue.ensures.flight c.issue.ensures.fails c.issue.ensures.err c.issue.ensures.none_flies in
    first_of (search rules, grind (arith, common_steps), grind (arith, elements))
