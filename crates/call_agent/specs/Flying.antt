-- What falls due of an agent's commands in flight: each is sent again, or given up (RFC 3435, 3.5.3 and 4.3).
use Rattle.std.specs.Prelude.{ℕ, ◌*◌, zero, suc, List, [], ◌∷◌, ◌++◌, length, Option, Some, None}
use Rattle.retransmission.specs.declared.repeat.Repeat.{Repeat}
use Rattle.retransmission.specs.declared.repeat.Repeat.TheVariants.{Sent, GivenUp}
use Rattle.retransmission.specs.Flight.{InFlight, sent_to, repeat_of, repeated}
use Rattle.transmission.specs.declared.output.OutDatagram.{OutDatagram}
use Rattle.transmission.specs.Transacting.{message_to}
pub use Rattle.call_agent.specs.Choosing.{has_id, sooner, if_due}
unfoldable pub use Rattle.call_agent.specs.Choosing.{first_flight, with_flight, without_flight}
use Rattle.call_agent.specs.Agent.{AgentMachine, AgentEffect}

-- flights, and what was sent of them
pub record Flown : Type 0 where
  pub flights : List InFlight
  pub sent : List OutDatagram

abbrev pub flown : List InFlight → List OutDatagram → Flown
flown flights sent = record { flights = flights; sent = sent }

-- a command goes out once more, at its own moment, or it is given up
abbrev pub flown_on : Repeat → List InFlight → InFlight → Flown
flown_on Sent flights flight =
    flown (with_flight (repeated flight flight.due) flights)
    (message_to (sent_to (repeated flight flight.due)) flight.due flight.text ∷ [])
flown_on GivenUp flights flight = flown (without_flight flight.id flights) []

abbrev pub afterwards : Flown → (List InFlight → Flown) → Flown
afterwards first next = flown (next first.flights).flights (first.sent ++ (next first.flights).sent)

abbrev pub fly_on : Option InFlight → List InFlight → (List InFlight → Flown) → Flown
fly_on None flights next = flown flights []
fly_on (Some flight) flights next = afterwards (flown_on (repeat_of flight flight.due) flights flight) next

unfoldable pub passed : ℕ → List InFlight → ℕ → Flown
passed zero flights moment = flown flights []
passed (suc most) flights moment = fly_on (if_due moment (first_flight flights)) flights (λ next. passed most next moment)

-- all that falls due up to a moment, the first first. Of a flight 8 things at most fall due: seven repeats, and its end.
unfoldable pub pass : List InFlight → ℕ → Flown
pass flights moment = passed (8 * length flights) flights moment

-- the clock is set after all that fell due
abbrev pub ticked : AgentMachine → ℕ → Flown → AgentEffect
ticked m moment passed = record { machine = record m { now = moment; flights = passed.flights }; sent = passed.sent }
