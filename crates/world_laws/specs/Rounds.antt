-- How long what a telephone did is quarantined at most (RFC 3435, 4.4.1).
use Rattle.std.specs.Prelude.{◌≡◌, ◌≢◌, ℕ, ◌+◌, ◌*◌, ◌<◌, ◌≤◌, Bool, false, List, [], ◌++◌, filter, Option, Some}
use Rattle.packages.specs.declared.observed.Observed.{Observed}
use Rattle.packages.specs.declared.observed.Observed.TheVariants.{Happened, Ended}
use Rattle.mg_line.specs.State.TheVariants.{Notification, Lockstep}
use Rattle.retransmission.specs.Flight.{InFlight}
use Rattle.plain_machine.specs.declared.setup.Setup.{Setup}
use Rattle.plain_machine.specs.declared.endpoint.Endpoint.{Endpoint}
use Rattle.plain_machine.specs.Event.{GatewayEvent}
use Rattle.plain_machine.specs.Lists.{plain}
use Rattle.plain_machine.specs.Machine.{endpoint_at}
use Rattle.world_laws.specs.Course.{course_from, requests_in}
use Rattle.world_laws.specs.Keeping.{is_of_phone}

-- what of these events a telephone did: without the ends of signals and of timer T
abbrev pub is_of_telephone : Observed → Bool
is_of_telephone (Happened event) = is_of_phone event
is_of_telephone (Ended signal) = false

abbrev pub of_telephone : List Observed → List Observed
of_telephone events = filter is_of_telephone events

-- something is in flight that was first sent in the last so many ms
pub record IsAwaited (now wait : ℕ) (pending : Option InFlight) : Type 0 where
  pub flight : InFlight
  pub flies : pending ≡ Some flight
  pub sent : flight.first ≤ now
  pub lately : now ≤ flight.first + wait

-- Behind the events before, at no time of these, a line that waits for the answer to its command has waited for longer than so many ms
abbrev pub IsAnsweredWithin : Setup → ℕ → List GatewayEvent → List GatewayEvent → ℕ → Type 0
IsAnsweredWithin setup line before events wait =
    (some later : List GatewayEvent) (endpoint : Endpoint) → events ≡ some ++ later → let m = plain setup (before ++ some) in
    endpoint_at m.endpoints line ≡ Some endpoint → endpoint.line.state ≡ Notification → IsAwaited m.now wait endpoint.post.pending

-- nor does one that waits for a request: it accepts one where, from a moment at which it does, more than so many ms pass
abbrev pub IsAskedWithin : Setup → ℕ → List GatewayEvent → List GatewayEvent → ℕ → Type 0
IsAskedWithin setup line before events wait =
    (some between later : List GatewayEvent) (endpoint : Endpoint) → events ≡ (some ++ between) ++ later
    → let m = plain setup (before ++ some) in
    endpoint_at m.endpoints line ≡ Some endpoint → endpoint.line.state ≡ Lockstep
    → m.now + wait < (plain setup ((before ++ some) ++ between)).now → requests_in (course_from setup m line between) ≢ []

-- In a round a line is answered, and asked, and then one event at least goes out of its quarantine: so many ms so many rounds take.
abbrev pub rounds_take : ℕ → ℕ → ℕ → ℕ
rounds_take count answering asking = count * (answering + asking)
