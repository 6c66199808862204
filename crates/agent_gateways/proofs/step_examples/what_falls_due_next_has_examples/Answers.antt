use Rattle.std.proofs.Common.{◌≡◌, ℕ, List, [], ◌∷◌, Option, Some, None, refl, sym, ap, ◌∙◌}
use Rattle.std.specs.Prelude.{min, option_map}
use Rattle.retransmission.specs.Flight.{InFlight}
use Rattle.turns.specs.Clock.{earlier}
use Rattle.call_agent.specs.Flying.{first_flight}
use Rattle.agent_gateways.specs.declared.gateway.Wake.{Wake}
use Rattle.agent_gateways.specs.Example.{wake_at}
use Rattle.agent_gateways.specs.Wakes.{first_moment}
use Rattle.agent_gateways.proofs.step_examples.what_falls_due_next_has_examples.Goals as goal

-- so it is with these in flight and these put off
due_so : (flights are : List InFlight) (wakes put_off : List Wake) (due : Option ℕ) → flights ≡ are → wakes ≡ put_off
    → due ≡ earlier (option_map (λ (flight : InFlight). flight.due) (first_flight are)) (first_moment put_off)
    → due ≡ earlier (option_map (λ (flight : InFlight). flight.due) (first_flight flights)) (first_moment wakes)
due_so flights are wakes put_off due flights_are wakes_are due_is =
    due_is
    ∙ sym (ap (λ (list : List InFlight). earlier (option_map (λ (flight : InFlight). flight.due) (first_flight list)) (first_moment wakes))
    flights_are
    ∙ ap (λ (list : List Wake). earlier (option_map (λ (flight : InFlight). flight.due) (first_flight are)) (first_moment list)) wakes_are)

pub returns-clause-earliest : goal.returns-clause-earliest
returns-clause-earliest c = λ one two three first second third. (Some 700, first, (Some 300, second, (None, third, refl)))

pub returns-clause-put_off : goal.returns-clause-put_off
unfolding first_flight
returns-clause-put_off c = λ gateway wakes flies events stands.
    due_so _ [] _ (wake_at 700 0 ∷ wake_at 900 1 ∷ []) (Some 700) (flies events stands) wakes refl

pub returns-clause-in_flight : goal.returns-clause-in_flight
unfolding first_flight
returns-clause-in_flight c = λ gateway flight wakes flies events stands.
    due_so _ (flight ∷ []) _ [] (Some flight.due) (flies events stands) wakes refl

pub returns-clause-sooner : goal.returns-clause-sooner
unfolding first_flight
returns-clause-sooner c = λ gateway flight due wakes flies events stands.
    due_so _ (flight ∷ []) _ (wake_at 700 0 ∷ []) (Some 600) (flies events stands) wakes
    (sym (ap (λ (moment : ℕ). Some (min moment 700)) due))
