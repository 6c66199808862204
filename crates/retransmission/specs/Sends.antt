-- When a message of our own is sent again (RFC 3435, 3.5.3 and 4.3): by the moments at which it was sent, and at which
-- provisional responses to it came. The numbers are this gateway's profile.
use Rattle.std.specs.Prelude.{ℕ, ◌+◌, ◌-◌, ◌==◌, ◌&&◌, nat_lt, if◌then◌else◌, Bool, List, [], ◌∷◌}
use Rattle.retransmission.specs.declared.repeat.Repeat.{Repeat}
use Rattle.retransmission.specs.declared.repeat.Repeat.TheVariants.{Sent, GivenUp}
use Rattle.retransmission.specs.declared.reply.Reply.{Reply}
use Rattle.retransmission.specs.declared.reply.Reply.TheVariants.{Answered, Provisional, Stranger}

-- what happened to a message after it was first sent: it was sent again, or a provisional response to it came
pub data Occasion : Type 0 where
  sent : (moment : ℕ) → Occasion
  provisional : (moment : ℕ) → Occasion

-- the moment at which a message was first sent, and what happened since, the latest first
pub record Sends : Type 0 where
  pub first : ℕ
  pub since : List Occasion

-- how often it was sent again
unfoldable pub repeats_in : List Occasion → ℕ
repeats_in [] = 0
repeats_in (sent moment ∷ before) = repeats_in before + 1
repeats_in (provisional moment ∷ before) = repeats_in before

-- how long an answer is waited for after a send, in ms, where so many repeats were made: the wait is doubled up to 4,000 ms
abbrev pub wait_after : ℕ → ℕ
wait_after repeats =
    if repeats == 0 then 500 else
    (if repeats == 1 then 1000 else
    (if repeats == 2 then 2000 else 4000))

-- how long an answer is waited for after a provisional response, in ms (3.5.6)
abbrev pub provisional_wait : ℕ
provisional_wait = 5000

abbrev pub due_after : ℕ → List Occasion → ℕ
due_after first [] = first + wait_after 0
due_after first (sent moment ∷ before) = moment + wait_after (repeats_in before + 1)
due_after first (provisional moment ∷ before) = moment + provisional_wait

-- when something is due next: the wait counts from the last of these moments
unfoldable pub due_of : Sends → ℕ
due_of sends = due_after sends.first sends.since

-- a message is repeated so often, and no more
abbrev pub most_repeats : ℕ
most_repeats = 7

-- it is repeated less than this many ms after it was first sent, and no later (4.3)
abbrev pub sending_time : ℕ
sending_time = 20000

-- a message that was first sent at this moment, and that was repeated so often, is repeated again now
abbrev pub may_repeat : ℕ → ℕ → ℕ → Bool
may_repeat first repeats now = nat_lt repeats most_repeats && nat_lt (now - first) sending_time

-- what is done with a message now, where something is due: it is sent again, or given up
abbrev pub repeat_at : ℕ → Sends → Repeat
repeat_at now sends = if may_repeat sends.first (repeats_in sends.since) now then Sent else GivenUp

-- what then happened to it
abbrev pub after_repeat : Repeat → ℕ → Sends → Sends
after_repeat Sent now sends = record sends { since = sent now ∷ sends.since }
after_repeat GivenUp now sends = sends

-- what happened to it after a response
abbrev pub after_reply : Reply → ℕ → Sends → Sends
after_reply Answered now sends = sends
after_reply Provisional now sends = record sends { since = provisional now ∷ sends.since }
after_reply Stranger now sends = sends
