-- What the worked examples speak of.
use Rattle.std.specs.Prelude.{ℕ, zero, suc, List, [], ◌∷◌, codes}
use Rattle.std.specs.declared.net.socket_addr.SocketAddrV4.{SocketAddrV4}
use Rattle.endpoint_names.specs.declared.route.Route.{Route}
use Rattle.endpoint_names.specs.declared.route.Route.TheVariants.{One}
use Rattle.endpoint_names.specs.RouteExample.{agent_at}
use Rattle.retransmission.specs.declared.repeat.Repeat.{Repeat}
use Rattle.retransmission.specs.declared.repeat.Repeat.TheVariants.{Sent, GivenUp}
use Rattle.retransmission.specs.declared.issued.Answered.{Answered}
use Rattle.retransmission.specs.Sends.{Occasion, Sends}
use Rattle.retransmission.specs.Flight.{InFlight, sent_to, sent_first, repeat_of, repeated}

abbrev pub agent : SocketAddrV4
agent = agent_at 1

-- a notification that is first sent at this moment, on this route
abbrev pub notified_on : Route SocketAddrV4 → ℕ → InFlight
notified_on route moment = sent_first 10000000 route (codes "NTFY 10000000 aaln/1@rgw.example.net MGCP 1.0\r\n") moment

-- the same to an agent that has one address
abbrev pub notified_at : ℕ → InFlight
notified_at moment = notified_on (One agent) moment

-- the same that was repeated so often
abbrev pub repeated_times : ℕ → ℕ → InFlight
repeated_times repeats moment = record (notified_at moment) { repeats = repeats }

-- sends from a first moment on
abbrev pub since : ℕ → List Occasion → Sends
since first occasions = record { first = first; since = occasions }

-- what is done at a moment: the message goes out again, to this address, or it is given up
pub data Resending : Type 0 where
  goes_to : (to : SocketAddrV4) (moment : ℕ) → Resending
  is_given_up : (moment : ℕ) → Resending

-- it goes out to the agent's one address
abbrev pub goes_out : ℕ → Resending
goes_out moment = goes_to agent moment

abbrev pub told_as : Repeat → SocketAddrV4 → ℕ → List Resending → List Resending
told_as Sent to moment later = goes_to to moment ∷ later
told_as GivenUp to moment later = is_given_up moment ∷ []

-- what is done with a message to which no response comes, at its own due moments, at most so many
unfoldable pub told : ℕ → InFlight → List Resending
told zero message = []
told (suc n) message =
    told_as (repeat_of message message.due) (sent_to (repeated message message.due)) message.due
    (told n (repeated message message.due))

-- a command's answer with this code
abbrev pub kept_answer : ℕ → ℕ → Answered
kept_answer id code = record { id = id; answer = record { code = code; text = codes "200 7" } }
