-- What is issued to a line, by its station and its gateway.
use Rattle.std.proofs.Common.{◌≡◌, ℕ, Bool, List, [], ◌∷◌, Option, Some, None, Ok, Err, Result, inl, inr, refl, sym, ap, subst, ◌∙◌}
use Rattle.std.proofs.lemmas.Option.{same_Some}
use Rattle.std.specs.Prelude.{IfErr, IfOk, OnErr, slice_get}
use Rattle.call_agent.specs.declared.issuing.Issued.{Issued}
use Rattle.call_agent.specs.declared.issuing.IssueFault.{IssueFault}
use Rattle.call_agent.specs.declared.issuing.IssueFault.TheVariants.{OutOfMemory, NoMoreIds, BadCommand}
use Rattle.call_agent.specs.AgentStands.{AgentStays, AgentTook, IssueEnds}
use Rattle.call_agent.specs.Hearing.{issues}
use Rattle.call_agent.specs.Issuing.{IssueRefusal, no_more_ids, bad_command}
use Rattle.agent_gateways.specs.declared.gateway.Gateway.{Gateway}
use Rattle.std.specs.Global.{Box}
use Rattle.line_control.specs.declared.office.Office.{Office}
use Rattle.agent_gateways.specs.declared.switchboard.Switchboard.{Switchboard}
use Rattle.agent_gateways.specs.Issuing.{ordered_in, Fails, FailsBy, Flies, IssuesOrder, IssuesSettled, IssuesTo, IssuesUnder, RefusedBefore, SendsAlone, SendsAtMost}
use Rattle.agent_gateways.specs.Steps.{Issues, IssuesAt, WaitsBehind}
use Rattle.line_control.specs.Orders.{Shown}

-- a command was issued under a name with what stands behind its line, by these texts; or it wasn't
pub issued_under : (name rest given left : List ℕ) (verb : List ℕ) (line : ℕ) (result : Result Issued IssueFault) (was is : Gateway)
    → given ≡ name → left ≡ rest
    → IfOk result (λ issued. AgentTook was.agent.value (issues verb given left) is.agent.value (issued.datagram ∷ []))
    → IfOk result (λ issued. Flies (Some line) issued was is) → IfErr result (λ fault. Fails verb given left fault was)
    → OnErr result (AgentStays was.agent.value is.agent.value) → OnErr result (is.flights.items ≡ was.flights.items)
    → IssuesUnder name (verb, rest) line result was is
issued_under name rest given left verb line (Ok issued) was is name_is rest_is took flies fails stays none = (
  subst (λ (text : List ℕ). AgentTook was.agent.value (issues verb name text) is.agent.value (issued.datagram ∷ [])) rest_is
      (subst (λ (text : List ℕ). AgentTook was.agent.value (issues verb text left) is.agent.value (issued.datagram ∷ [])) name_is took),
  flies,
)
issued_under name rest given left verb line (Err fault) was is name_is rest_is took flies fails stays none = (
  subst (λ (text : List ℕ). Fails verb name text fault was) rest_is
      (subst (λ (text : List ℕ). Fails verb text left fault was) name_is fails),
  stays,
  none,
)

-- what a line was to be sent was issued to it, by a board that has changed in its exchange alone before
pub issued_order : (line : ℕ) (order : Shown) (ordered : Option Shown) (issued : Issued) (was ordering is : Switchboard) → Some order ≡ ordered
    → ordering ≡ record was { office = ordering.office }
    → IssuesTo line order (Ok issued) (slice_get ordering.stations.items line) ordering.gateways.items is.gateways.items
    → IssuesOrder line ordered (Ok (Some issued)) (slice_get was.stations.items line) was.gateways.items is.gateways.items
issued_order line order ordered issued was ordering is ordered_is rest sent =
    subst
    (λ (shown : Option Shown). IssuesOrder line shown (Ok (Some issued)) (slice_get was.stations.items line) was.gateways.items is.gateways.items)
    ordered_is
    (subst
    (λ (board : Switchboard). IssuesTo line order (Ok issued) (slice_get board.stations.items line) board.gateways.items is.gateways.items) rest
    sent)

-- memory was refused for what it was to be sent, whatever that was
before_all : (line : ℕ) (ordered : Option Shown) (fault : IssueFault) (was is : Switchboard)
    → RefusedBefore fault was.gateways.items is.gateways.items
    → IssuesOrder line ordered (Err fault) (slice_get was.stations.items line) was.gateways.items is.gateways.items
before_all line None fault was is before = before
before_all line (Some order) fault was is before = inr before

pub not_ordered : (line : ℕ) (ordered : Option Shown) (was ordering is : Switchboard) → ordering ≡ record was { office = ordering.office }
    → is ≡ record ordering { office = is.office }
    → IssuesOrder line ordered (Err OutOfMemory) (slice_get was.stations.items line) was.gateways.items is.gateways.items
not_ordered line ordered was ordering is rest left =
    before_all line ordered OutOfMemory was is (
      refl,
      ap (λ (board : Switchboard). board.gateways.items) left
          ∙ ap (λ (board : Switchboard). board.gateways.items) rest,
    )

-- what is issued by a board that has changed in its exchange alone before is issued by the gateway of that line alone
pub sent_alone : (line : ℕ) (was ordering issuing is : Switchboard) → ordering ≡ record was { office = ordering.office }
    → SendsAlone (slice_get ordering.stations.items line) ordering.gateways.items issuing.gateways.items
    → is.gateways.items ≡ issuing.gateways.items
    → SendsAlone (slice_get was.stations.items line) was.gateways.items is.gateways.items
sent_alone line was ordering issuing is rest alone same =
    subst (λ (are : List Gateway). SendsAlone (slice_get was.stations.items line) was.gateways.items are) (sym same)
    (subst (λ (board : Switchboard). SendsAlone (slice_get board.stations.items line) board.gateways.items issuing.gateways.items) rest alone)

-- so it is of the line that is settled
pub issues_at : (found : Option ℕ) (line : ℕ) (fails : Bool) (was is : Option (Box Office)) → found ≡ Some line → Issues fails line was is
    → WaitsBehind fails line was is → IssuesAt found fails was is
issues_at found line fails was is settled goes waits =
    subst (λ (one : Option ℕ). IssuesAt one fails was is) (sym settled) (goes, waits)

pub settled_so : (found : Option ℕ) (line : ℕ) (result : Result (Option Issued) IssueFault) (was is : Switchboard) → found ≡ Some line
    → IssuesOrder line (ordered_in line was.dialling.value.map was.office) result (slice_get was.stations.items line) was.gateways.items
    is.gateways.items
    → IssuesSettled found result was is
settled_so found line result was is settled goes =
    subst (λ (one : Option ℕ). IssuesSettled one result was is) (sym settled) goes

pub at_most : (found : Option ℕ) (line : ℕ) (was is : Switchboard) → found ≡ Some line
    → SendsAlone (slice_get was.stations.items line) was.gateways.items is.gateways.items → SendsAtMost found was is
at_most found line was is settled alone = subst (λ (one : Option ℕ). SendsAtMost one was is) (sym settled) alone

-- memory is refused for it
pub for_memory : (refusal : Option IssueRefusal) → FailsBy refusal OutOfMemory
for_memory None = refl
for_memory (Some no_more_ids) = inr refl
for_memory (Some bad_command) = inr refl

-- its agent says why it doesn't issue it
pub fails_so : (refusal : Option IssueRefusal) (fault : IssueFault) → IssueEnds refusal (Some fault) → FailsBy refusal fault
fails_so None fault ends = ends
fails_so (Some no_more_ids) fault ends = inl (same_Some fault NoMoreIds ends)
fails_so (Some bad_command) fault (inl ends) = inl (same_Some fault BadCommand ends)
fails_so (Some bad_command) fault (inr ends) = inr (same_Some fault OutOfMemory ends)
