-- What an answer does to a gateway and an exchange's office of which so much is known.
use Rattle.std.proofs.Common.{◌≡◌, ℕ, List, Option, sym, ap, subst, ◌∙◌}
use Rattle.std.specs.Prelude.{is_none, slice_get}
use Rattle.machine_rules.specs.declared.refusal.Refusal.{Refusal}
use Rattle.plain_machine.specs.Event.{tick}
use Rattle.plain_machine.specs.Refusing.{ends, tick_refusal}
use Rattle.retransmission.specs.Flight.{InFlight}
use Rattle.call_agent.specs.Agent.{AgentMachine}
use Rattle.call_agent.specs.Flying.{first_flight, if_due}
use Rattle.call_agent.specs.Hearing.{AgentEnds}
use Rattle.call_processing.specs.Exchange.{ExchangeState}
use Rattle.line_control.specs.declared.care.Care.{Care}
use Rattle.agent_gateways.specs.declared.gateway.Gateway.{Gateway}
use Rattle.agent_gateways.specs.declared.gateway.Wake.{Wake}
use Rattle.line_control.specs.declared.office.Office.{Office}
use Rattle.agent_gateways.specs.Boards.{Answers, Holds}
use Rattle.line_control.specs.Orders.{again_of, is_outlived}
use Rattle.line_control.specs.Turns.{TakesAnswer}
use Rattle.agent_gateways.specs.Wakes.{behind_woken}

abbrev pub AnswersAt : ℕ → ℕ → ℕ → List ℕ → ExchangeState → List Care → List Wake → ExchangeState → List Care → List Wake → Type 0
AnswersAt line now code text was cares wakes is kept held =
    (mid : List Care)
    × TakesAnswer (is_outlived (slice_get cares line)) line now code text was cares is mid
    × Holds (again_of (slice_get mid line)) line mid wakes kept held

module _ (line now code : ℕ) (text : List ℕ) (gateway after : Gateway) (was is : Office) (cares kept : List Care) (wakes held : List Wake)
    (clock : gateway.ticked ≡ now) (cares_so : was.cares.items ≡ cares) (wakes_so : gateway.wakes.items ≡ wakes)
    (same : is.exchange ≡ was.exchange) (kept_so : is.cares.items ≡ kept) (held_so : after.wakes.items ≡ held) where
  with_held : AnswersAt line now code text was.exchange cares wakes was.exchange kept held
      → AnswersAt line now code text was.exchange cares wakes is.exchange is.cares.items after.wakes.items
  with_held answers =
      subst (λ (x : ExchangeState). AnswersAt line now code text was.exchange cares wakes x is.cares.items after.wakes.items) (sym same)
      (subst (λ (list : List Care). AnswersAt line now code text was.exchange cares wakes was.exchange list after.wakes.items) (sym kept_so)
      (subst (λ (list : List Wake). AnswersAt line now code text was.exchange cares wakes was.exchange kept list) (sym held_so) answers))

  pub answers_so : AnswersAt line now code text was.exchange cares wakes was.exchange kept held → Answers line code text gateway was after is
  answers_so answers =
      subst (λ (n : ℕ). AnswersAt line n code text was.exchange was.cares.items gateway.wakes.items is.exchange is.cares.items after.wakes.items) (sym clock)
      (subst (λ (list : List Care). AnswersAt line now code text was.exchange list gateway.wakes.items is.exchange is.cares.items after.wakes.items) (sym cares_so)
      (subst (λ (list : List Wake). AnswersAt line now code text was.exchange cares list is.exchange is.cares.items after.wakes.items) (sym wakes_so)
      (with_held answers)))

-- what is woken of a gateway of which so much is known
pub behind_so : (gateway : Gateway) (now : ℕ) (wakes : List Wake) → gateway.ticked ≡ now → gateway.wakes.items ≡ wakes
    → behind_woken gateway.ticked gateway.wakes.items ≡ behind_woken now wakes
behind_so gateway now wakes clock wakes_so =
    ap (λ (n : ℕ). behind_woken n gateway.wakes.items) clock ∙ ap (λ (list : List Wake). behind_woken now list) wakes_so

-- how an agent ends at a tick of which so much is known
abbrev pub EndsTick : ℕ → ℕ → List InFlight → Option Refusal → Type 0
EndsTick now to flights given = ends (tick_refusal now to) (is_none (if_due to (first_flight flights))) given

pub agent_ends : (m : AgentMachine) (now to : ℕ) (flights : List InFlight) (given : Option Refusal) → m.now ≡ now → m.flights ≡ flights
    → EndsTick now to flights given → AgentEnds m (tick to) given
agent_ends m now to flights given now_is flights_are so =
    subst (λ (n : ℕ). EndsTick n to m.flights given) (sym now_is)
    (subst (λ (list : List InFlight). EndsTick now to list given) (sym flights_are) so)

pub agent_ended : (m : AgentMachine) (now to : ℕ) (flights : List InFlight) (given : Option Refusal) → m.now ≡ now → m.flights ≡ flights
    → AgentEnds m (tick to) given → EndsTick now to flights given
agent_ended m now to flights given now_is flights_are so =
    subst (λ (list : List InFlight). EndsTick now to list given) flights_are
    (subst (λ (n : ℕ). EndsTick n to m.flights given) now_is so)
