-- How the gateway or a line announces itself, by RestartInProgress (RFC 3435, 2.3.12, 4.4.6 and 4.4.7).
use Rattle.std.specs.Prelude.{ℕ, ◌+◌, ◌==◌, if◌then◌else◌, Bool, true, false, Option, Some, None}
use Rattle.endpoint_names.specs.declared.entity.Entity.{Entity}
use Rattle.retransmission.specs.declared.reply.Reply.{Reply}
use Rattle.retransmission.specs.declared.reply.Reply.TheVariants as replies
use Rattle.retransmission.specs.declared.restart.Restart.{Restart}
use Rattle.retransmission.specs.declared.restart.Restart.TheVariants.{Waiting, Announced, Serving}
use Rattle.retransmission.specs.declared.heard.Heard.{Heard}
use Rattle.retransmission.specs.declared.heard.Heard.TheVariants.{Nothing, PutOff, Redirected, Answered}

-- an announcement that waits so long from this moment on
abbrev pub begun : ℕ → ℕ → Restart
begun moment wait = Waiting (moment + wait)

-- the moment at which it is sent, where it waits
abbrev pub announced_at : Restart → Option ℕ
announced_at (Waiting until) = Some until
announced_at Announced = None
announced_at Serving = None

-- it was answered
abbrev pub is_serving : Restart → Bool
is_serving (Waiting until) = false
is_serving Announced = false
is_serving Serving = true

-- the answer to an announcement: 521 with an entity redirects it there; any other is the answer, and may name the entity
-- to notify from now on (2.3.12, 2.4)
abbrev pub answer_by : ℕ → Option Entity → Heard
answer_by code None = Answered None
answer_by code (Some entity) = if code == 521 then Redirected entity else Answered (Some entity)

-- an answer, by what it is the answer to: that to a notification names nobody
abbrev pub answer_of : Restart → ℕ → Option Entity → Heard
answer_of (Waiting until) code entity = Answered None
answer_of Announced code entity = answer_by code entity
answer_of Serving code entity = Answered None

-- what a response is to what is in flight, by its return code and the entity that it names: a final one alone is an answer
-- (3.5.6)
abbrev pub heard_of : Restart → Reply → ℕ → Option Entity → Heard
heard_of restart replies.Stranger code entity = Nothing
heard_of restart replies.Provisional code entity = PutOff
heard_of restart replies.Answered code entity = answer_of restart code entity
