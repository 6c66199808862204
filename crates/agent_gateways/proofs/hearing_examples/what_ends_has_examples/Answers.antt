use Rattle.std.proofs.Common.{ℕ, List, Some, sym, ap, ◌∙◌}
use Rattle.agent_gateways.specs.declared.flight.Flight.{Flight}
use Rattle.agent_gateways.specs.Ended.{first_ended, still_flying}
use Rattle.agent_gateways.proofs.Computing.{on_examples}
use Rattle.agent_gateways.proofs.hearing_examples.what_ends_has_examples.Goals as goal

pub returns-clause-by_its_clock : goal.returns-clause-by_its_clock
unfolding on_examples
returns-clause-by_its_clock c = λ gateway clock flights.
    ap (λ (now : ℕ). first_ended (Some (8, 200)) now gateway.flights.items) clock
    ∙ ap (λ (list : List Flight). first_ended (Some (8, 200)) 100 list) flights

pub returns-clause-sent : goal.returns-clause-sent
returns-clause-sent c = λ was is forgets touches. (forgets, touches)

pub returns-clause-nothing_else : goal.returns-clause-nothing_else
unfolding on_examples
returns-clause-nothing_else c = λ was is clock flights left rest. (
  left ∙ sym (ap (λ (now : ℕ). still_flying (Some (8, 200)) now was.flights.items) clock
      ∙ ap (λ (list : List Flight). still_flying (Some (8, 200)) 100 list) flights),
  rest,
)

pub returns-clause-sent_waits : goal.returns-clause-sent_waits
returns-clause-sent_waits c = λ was is forgets. forgets.1
