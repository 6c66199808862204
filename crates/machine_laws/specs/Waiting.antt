-- What is said of lines that wait for the answer to their command, at each thing that happens (RFC 3435, 4.4.1 and 4.4.7).
use Rattle.std.specs.Prelude.{◌≡◌, ℕ, ◌<◌, Some}
use Rattle.plain_machine.specs.declared.endpoint.Endpoint.{Endpoint}
use Rattle.plain_machine.specs.Flights.{AreInOrder}
use Rattle.plain_machine.specs.Machine.{Endpoints, endpoint_at}
use Rattle.plain_machine.specs.Posting.{numbers}

abbrev pub next_number : Endpoint → ℕ
next_number endpoint = endpoint.post.number

-- the number of the next command of each line is one of a line's numbers, and so it is of the gateway itself
pub record HaveNumbers (endpoints : Endpoints) : Type 0 where
  pub lines : (line : ℕ) (endpoint : Endpoint) → endpoint_at endpoints line ≡ Some endpoint → next_number endpoint < numbers
  pub own : endpoints.own.number < numbers

-- what is in flight agrees with where announcements are, and so it goes on to do, since the numbers are numbers
pub record KeepOrder (endpoints : Endpoints) : Type 0 where
  pub order : AreInOrder endpoints
  pub next : HaveNumbers endpoints
