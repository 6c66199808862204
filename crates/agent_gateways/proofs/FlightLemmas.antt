-- What falls due of a command, step by step.
use Rattle.std.proofs.Common.{◌≡◌, ℕ, suc, zero, true, false, Some, None, sym, ap, ◌∙◌}
use Rattle.retransmission.specs.declared.repeat.Repeat.TheVariants.{Sent, GivenUp}
use Rattle.retransmission.specs.Flight.{InFlight}
use Rattle.agent_gateways.specs.Flights.{fallen, behind, goes_on, falls}

pub fell_on : (steps left : ℕ) (message : InFlight) (moment : ℕ) → steps ≡ suc left → fallen message moment ≡ Some Sent
    → falls left (behind message moment) moment ≡ falls steps message moment
unfolding falls
fell_on steps left message moment e sent =
    sym (ap (λ (n : ℕ). falls n message moment) e
    ∙ ap (λ found. goes_on found (behind message moment) (falls left (behind message moment) moment)) sent)

pub fell_up : (steps left : ℕ) (message : InFlight) (moment : ℕ) → steps ≡ suc left → fallen message moment ≡ Some GivenUp
    → (true, behind message moment) ≡ falls steps message moment
unfolding falls
fell_up steps left message moment e given_up =
    sym (ap (λ (n : ℕ). falls n message moment) e
    ∙ ap (λ found. goes_on found (behind message moment) (falls left (behind message moment) moment)) given_up)

pub fell_not : (steps left : ℕ) (message : InFlight) (moment : ℕ) → steps ≡ suc left → fallen message moment ≡ None
    → (false, behind message moment) ≡ falls steps message moment
unfolding falls
fell_not steps left message moment e none =
    sym (ap (λ (n : ℕ). falls n message moment) e
    ∙ ap (λ found. goes_on found (behind message moment) (falls left (behind message moment) moment)) none)

pub fell_out : (steps : ℕ) (message : InFlight) (moment : ℕ) → steps ≡ zero → (false, message) ≡ falls steps message moment
unfolding falls
fell_out steps message moment e = sym (ap (λ (n : ℕ). falls n message moment) e)
