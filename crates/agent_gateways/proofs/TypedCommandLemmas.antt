-- A command that was typed is issued by whom it means.
use Rattle.std.proofs.Common.{◌≡◌, ℕ, List, Option, Some, Result, subst}
use Rattle.call_agent.specs.declared.issuing.Issued.{Issued}
use Rattle.agent_gateways.specs.declared.switchboard.Switchboard.{Switchboard}
use Rattle.agent_gateways.specs.declared.typed.TypedFault.{TypedFault}
use Rattle.agent_gateways.specs.Meaning.{meant}
use Rattle.agent_gateways.specs.Typed.{Command, typed_in}
use Rattle.agent_gateways.specs.TypedCommands.{IssuesCommand, IssuesMeant, IssuesTyped}

-- by how its text is read
pub issued_typed : (text : List ℕ) (command : Option Command) (result : Result Issued TypedFault) (was is : Switchboard) → command ≡ typed_in text
    → IssuesCommand command result was is → IssuesTyped text result was is
issued_typed text command result was is read issues = subst (λ (one : Option Command). IssuesCommand one result was is) read issues

-- by whom its name means
pub issued_meant : (verb name rest : List ℕ) (found : Option (ℕ × List ℕ)) (result : Result Issued TypedFault) (was is : Switchboard)
    → found ≡ meant was.gateways.items name → IssuesMeant verb rest found result was is
    → IssuesCommand (Some (verb, (name, rest))) result was is
issued_meant verb name rest found result was is means issues =
    subst (λ (one : Option (ℕ × List ℕ)). IssuesMeant verb rest one result was is) means issues
