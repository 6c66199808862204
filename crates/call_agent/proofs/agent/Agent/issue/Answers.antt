use Rattle.call_agent.proofs.StandLemmas.{issues_so, next_id_is, issue_stays, issue_ends}
use Rattle.call_agent.proofs.agent.Agent.issue.Goals as goal

pub returns-clause-ok : goal.returns-clause-ok
returns-clause-ok c = rw (← c.self.view_is)
    (issues_so c.self.inside.setup c.self.inside.state c.issue_under_next_id.new.flights c.args.verb.now c.args.name.now c.args.rest.now c.issue_under_next_id.result c.issue_under_next_id.ensures.ends
    c.issue_under_next_id.ensures.datagram c.issue_under_next_id.ensures.flies)

pub returns-clause-id : goal.returns-clause-id
returns-clause-id c = λ before s. next_id_is c.args.self.now before c.issue_under_next_id.result s (rw (← c.self.view_is) c.issue_under_next_id.ensures.id)

pub returns-clause-err : goal.returns-clause-err
returns-clause-err c = rw (← c.self.view_is) (issue_stays c.self.inside.setup c.self.inside.state c.issue_under_next_id.new.flights c.issue_under_next_id.result c.issue_under_next_id.ensures.err)

pub returns-clause-ends : goal.returns-clause-ends
returns-clause-ends c = λ before s. issue_ends c.args.self.now c.args.verb.now c.args.name.now c.args.rest.now _ before s (rw (← c.self.view_is) c.issue_under_next_id.ensures.ends)
