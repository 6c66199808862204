use Rattle.std.proofs.Common.{◌≡◌, List, [], ◌∷◌, ◌++◌, Option, None, Result, Ok, Err, inl, refl, sym, ap, ◌∙◌}
use Rattle.std.specs.Prelude.{slice_get}
use Rattle.call_agent.specs.declared.issuing.Issued.{Issued}
use Rattle.call_agent.specs.declared.issuing.IssueFault.{IssueFault}
use Rattle.line_control.specs.declared.care.Care.{Care}
use Rattle.agent_gateways.specs.declared.flight.Flight.{Flight}
use Rattle.line_control.specs.Orders.{ordered}
use Rattle.agent_gateways.proofs.Computing.{on_examples}
use Rattle.agent_gateways.proofs.step_examples.what_a_line_is_sent_has_examples.Goals as goal

-- nothing is issued, for this
abbrev no_more : IssueFault → Result (Option Issued) IssueFault
no_more fault = Err fault

pub returns-clause-no_line : goal.returns-clause-no_line
unfolding on_examples
returns-clause-no_line c = λ office cares. ap (λ (list : List Care). ordered (slice_get list 0) office.value.exchange 0 []) cares

pub returns-clause-duty : goal.returns-clause-duty
unfolding on_examples
returns-clause-duty c = λ office cares. ap (λ (list : List Care). ordered (slice_get list 1) office.value.exchange 1 []) cares

pub returns-clause-exchange : goal.returns-clause-exchange
unfolding on_examples
returns-clause-exchange c = λ office map cares. ap (λ (list : List Care). ordered (slice_get list 0) office.value.exchange 0 map) cares

pub returns-clause-unsent : goal.returns-clause-unsent
returns-clause-unsent c = λ station order gateways impossible. impossible

pub returns-clause-unasked : goal.returns-clause-unasked
returns-clause-unasked c = λ station issued gateways impossible. impossible

pub returns-clause-in_flight : goal.returns-clause-in_flight
returns-clause-in_flight c = λ issued flight other was is line pending were are.
    (flight, line, pending, are ∙ sym (ap (λ (list : List Flight). list ++ flight ∷ []) were))

pub returns-clause-none_settled : goal.returns-clause-none_settled
returns-clause-none_settled c = λ board. (refl, refl)

pub returns-clause-none_settled_none_refused : goal.returns-clause-none_settled_none_refused
returns-clause-none_settled_none_refused c = λ fault board now refused.
    let none : no_more fault ≡ Ok None = refused.0 in absurd cc

pub returns-clause-none_comes : goal.returns-clause-none_comes
returns-clause-none_comes c = λ one other stay.
    let none : one ∷ other ∷ [] ≡ one ∷ [] = stay in absurd cc

pub returns-clause-none_issued : goal.returns-clause-none_issued
returns-clause-none_issued c = λ station gateways. inl refl
