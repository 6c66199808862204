-- How a command in flight ends, by the rules by which an agent keeps it (RFC 3435, 3.5.3 and 4.3).
use Rattle.std.specs.Prelude.{ℕ, zero, suc, ◌&&◌, ◌^◌, nat_le, nat_lt, Bool, true, false, if◌then◌else◌, Option, Some, None}
use Rattle.retransmission.specs.declared.repeat.Repeat.{Repeat}
use Rattle.retransmission.specs.declared.repeat.Repeat.TheVariants.{Sent, GivenUp}
use Rattle.retransmission.specs.declared.reply.Reply.{Reply}
use Rattle.retransmission.specs.declared.reply.Reply.TheVariants.{Answered, Provisional, Stranger}
use Rattle.retransmission.specs.Flight.{InFlight, repeat_of, repeated, reply_of, heard}

-- moments are below this, in ms
abbrev pub end_of_time : ℕ
end_of_time = 2 ^ 62

-- a command is repeated less often, and then given up
abbrev pub most_steps : ℕ
most_steps = 8

-- something falls due of it by a moment
abbrev pub is_due : InFlight → ℕ → Bool
is_due message moment = nat_le message.due moment && nat_lt message.due end_of_time

-- what is done with it then
abbrev pub fallen : InFlight → ℕ → Option Repeat
fallen message moment = if is_due message moment then Some (repeat_of message message.due) else None

abbrev pub behind : InFlight → ℕ → InFlight
behind message moment = if is_due message moment then repeated message message.due else message

abbrev pub goes_on : Option Repeat → InFlight → Bool × InFlight → Bool × InFlight
goes_on None message later = (false, message)
goes_on (Some Sent) message later = later
goes_on (Some GivenUp) message later = (true, message)

-- all that falls due by a moment, in so many steps: whether it is given up, and what it is then
unfoldable pub falls : ℕ → InFlight → ℕ → Bool × InFlight
falls zero message moment = (false, message)
falls (suc steps) message moment =
    goes_on (fallen message moment) (behind message moment) (falls steps (behind message moment) moment)

abbrev pub is_answered : Reply → Bool
is_answered Answered = true
is_answered Provisional = false
is_answered Stranger = false

-- a response with this id and code: whether it answers it, and what it is then
abbrev pub answered_by : ℕ → ℕ → InFlight → ℕ → Bool × InFlight
answered_by id code message moment =
    if nat_lt moment end_of_time then (is_answered (reply_of message id code), heard message id code moment) else (false, message)

-- whether it is over at a moment: answered by this response; without one, given up
abbrev pub over_by : Option (ℕ × ℕ) → InFlight → ℕ → Bool × InFlight
over_by None message moment = falls most_steps message moment
over_by (Some response) message moment = answered_by response.0 response.1 message moment
