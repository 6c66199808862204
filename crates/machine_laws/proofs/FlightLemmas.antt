-- A command in flight is one that was issued.
use Rattle.std.proofs.Common.{◌≡◌}
use Rattle.retransmission.specs.Flight.{InFlight}
use Rattle.plain_machine.specs.Message.{Begun}

-- it is this command that was issued
pub record IsSame (flight : InFlight) (one : Begun) : Type 0 where
  pub id : one.id ≡ flight.id
  pub text : one.text ≡ flight.text
  pub moment : one.moment ≡ flight.first
