use Rattle.std.proofs.Common.{◌≡◌, List, [], ◌∷◌, ◌++◌, Some, ap, subst, ◌∙◌, rules}
use Rattle.call_agent.specs.AgentStands.{AgentStands, AgentState, IssueEnds}
use Rattle.call_agent.specs.Hearing.{plain_agent}
use Rattle.call_agent.specs.Issuing.{issue_refusal}
use Rattle.agent_gateways.specs.declared.flight.Flight.{Flight}
use Rattle.agent_gateways.proofs.CopyLemmas.{as_it_was, first_so}
use Rattle.agent_gateways.proofs.IssueLemmas.{fails_so, for_memory}
use Rattle.agent_gateways.proofs.gateway.Gateway.issue.Goals as goal

pub returns-then-is_err-clause-err : goal.returns-then-is_err-clause-err
returns-then-is_err-clause-err c = as_it_was c.args.self.now.agent.value

pub returns-then-is_err-clause-fails : goal.returns-then-is_err-clause-fails
returns-then-is_err-clause-fails c = λ events stands. for_memory _

pub returns-in_default-clause-err : goal.returns-in_default-clause-err
returns-in_default-clause-err c = as_it_was c.args.self.now.agent.value

pub returns-in_default-clause-fails : goal.returns-in_default-clause-fails
returns-in_default-clause-fails c = λ events stands. for_memory _

pub returns-in-Err-clause-fails : goal.returns-in-Err-clause-fails
returns-in-Err-clause-fails c = λ events stands.
    let same : c.deref_mut.result.now ≡ c.args.self.now.agent.value = search rules in
    fails_so _ c.in-Err.fault
    (subst
    (λ (agent : AgentState). AgentStands agent events
    → IssueEnds (issue_refusal (plain_agent agent.setup events) c.args.verb.now c.args.name.now c.args.rest.now) (Some c.in-Err.fault))
    same (c.in-Err.ensures.ends events) stands)

pub returns-clause-flight : goal.returns-clause-flight
returns-clause-flight c = (
  c.begin-flight.result,
  c.begin-flight.ensures.line,
  first_so c.in-Ok.room _ _ _ _ _ c.in-Ok.ensures c.begin-flight.ensures.pending,
  c.push_reserved.ensures.items ∙ ap (λ (flights : List Flight). flights ++ c.begin-flight.result ∷ []) c.reserve.ensures.items,
)
