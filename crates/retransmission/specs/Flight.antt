-- A message of our own that is in flight: a command that was sent and isn't answered (RFC 3435, 3.5).
use Rattle.std.specs.Prelude.{◌≡◌, ℕ, ◌+◌, ◌==◌, ◌&&◌, nat_le, if◌then◌else◌, List}
use Rattle.std.specs.declared.net.socket_addr.SocketAddrV4.{SocketAddrV4}
use Rattle.endpoint_names.specs.declared.route.Route.{Route}
use Rattle.endpoint_names.specs.Route.{at}
use Rattle.retransmission.specs.declared.repeat.Repeat.{Repeat}
use Rattle.retransmission.specs.declared.repeat.Repeat.TheVariants.{Sent, GivenUp}
use Rattle.retransmission.specs.declared.reply.Reply.{Reply}
use Rattle.retransmission.specs.declared.reply.Reply.TheVariants.{Answered, Provisional, Stranger}
use Rattle.retransmission.specs.Sends.{Sends, repeats_in, wait_after, provisional_wait, due_of, may_repeat}

-- its transaction id, its route and its text; when it was first sent, how often it was repeated, and when something is due
-- next
pub record InFlight : Type 0 where
  pub id : ℕ
  pub route : Route SocketAddrV4
  pub text : List ℕ
  pub first : ℕ
  pub repeats : ℕ
  pub due : ℕ

-- where it was sent last: the first send has the number 0, and each repeat the next (4.3)
abbrev pub sent_to : InFlight → SocketAddrV4
sent_to message = at message.route message.repeats

-- what is kept of the message is what its sends say
pub record Follows (message : InFlight) (sends : Sends) : Type 0 where
  pub begins : message.first ≡ sends.first
  pub count : message.repeats ≡ repeats_in sends.since
  pub next : message.due ≡ due_of sends

-- a message that is first sent at this moment, on this route
abbrev pub sent_first : ℕ → Route SocketAddrV4 → List ℕ → ℕ → InFlight
sent_first id route text moment =
    record { id = id; route = route; text = text; first = moment; repeats = 0; due = moment + wait_after 0 }

-- what is done with it where something is due: it is sent again, or given up
abbrev pub repeat_of : InFlight → ℕ → Repeat
repeat_of message moment = if may_repeat message.first message.repeats moment then Sent else GivenUp

abbrev pub again_as : Repeat → InFlight → ℕ → InFlight
again_as Sent message moment =
    record message { repeats = message.repeats + 1; due = moment + wait_after (message.repeats + 1) }
again_as GivenUp message moment = message

-- the message after that: one that is given up is as it was
unfoldable pub repeated : InFlight → ℕ → InFlight
repeated message moment = again_as (repeat_of message moment) message moment

-- what a response with this return code is (RFC 3435, 2.4): 100 to 199 is provisional, 200 to 999 final
abbrev pub reply_by : ℕ → Reply
reply_by code =
    if nat_le 100 code && nat_le code 199 then Provisional else
    (if nat_le 200 code && nat_le code 999 then Answered else Stranger)

-- what a response with this id and return code is to the message: the id alone joins them (3.2.1.2)
abbrev pub reply_of : InFlight → ℕ → ℕ → Reply
reply_of message id code = if message.id == id then reply_by code else Stranger

abbrev pub heard_as : Reply → InFlight → ℕ → InFlight
heard_as Answered message moment = message
heard_as Provisional message moment = record message { due = moment + provisional_wait }
heard_as Stranger message moment = message

-- the message after a response that came at this moment: a provisional one puts off what is due (3.5.6)
unfoldable pub heard : InFlight → ℕ → ℕ → ℕ → InFlight
heard message id code moment = heard_as (reply_of message id code) message moment
