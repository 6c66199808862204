-- What is told by who keeps copies.
use Rattle.std.specs.Prelude.{◌≡◌, ◌⊎◌, ℕ, Bool, false, List, [], ◌∷◌, ◌++◌, length, map, take, if◌then◌else◌, Option, Some, None, Result, Ok, Err}
use Rattle.std.specs.declared.net.socket_addr.SocketAddr.{SocketAddr}
use Rattle.std.specs.declared.net.socket_addr.SocketAddrV4.{SocketAddrV4}
use Rattle.live_io.specs.declared.arrivals.Arrivals.{Arrivals}
use Rattle.live_io.specs.declared.arrivals.ReceivedDatagram.{ReceivedDatagram}
use Rattle.live_io.specs.declared.keeping.SentDatagram.{SentDatagram}
use Rattle.live_io.specs.declared.scripted.Answer.{Answer}
use Rattle.live_io.specs.declared.scripted.Scripted.{Scripted}
use Rattle.live_io.specs.declared.surroundings.Fault.{Fault}
use Rattle.live_io.specs.Sending.{Sent, Received, Traffic}

abbrev pub copies_of : List SentDatagram → List Sent
copies_of kept = map (λ copy. record { to = copy.to; bytes = copy.bytes.items }) kept

-- when they were handed over
abbrev pub moments_of : List SentDatagram → List ℕ
moments_of kept = map (λ copy. copy.moment) kept

abbrev pub received_in : List ReceivedDatagram → List Received
received_in kept = map (λ copy. record { source = copy.source; bytes = copy.bytes.items }) kept

-- all copies, where none is missing
abbrev pub told_of : {A : Type 0} → Bool → List A → Option (List A)
told_of is_whole copies = if is_whole then Some copies else None

-- A copy of this is kept behind the others, and what is kept is still told, if it was; or memory was refused for it: then none is kept,
-- and nothing is told any more.
abbrev pub Keeps : {A : Type 0} → Bool → List A → A → Bool → List A → Type 0
Keeps was_whole were one is_whole are =
    ((are ≡ were ++ one ∷ []) × (is_whole ≡ was_whole)) ⊎ ((are ≡ were) × (is_whole ≡ false))

-- all copies of what came, where none was refused memory
abbrev pub arrivals_of : Arrivals → Option (List Received)
arrivals_of arrivals = told_of arrivals.is_whole (received_in arrivals.kept.items)

-- this came
abbrev pub KeepsArrival : Arrivals → Received → Arrivals → Type 0
KeepsArrival was one is = Keeps was.is_whole (received_in was.kept.items) one is.is_whole (received_in is.kept.items)

-- what was found at the front of the room came, if anything was
abbrev pub KeepsFound : Arrivals → Option (SocketAddrV4 × ℕ) → List ℕ → Arrivals → Type 0
KeepsFound was None room is = is ≡ was
KeepsFound was (Some found) room is = KeepsArrival was (record { source = found.0; bytes = take found.1 room }) is

-- all copies of what was sent, where none was refused memory
abbrev pub sent_by : Scripted → Option (List Sent)
sent_by scripted = told_of scripted.is_whole (copies_of scripted.sent.items)

-- this was handed over
abbrev pub Sends : Scripted → SocketAddrV4 → List ℕ → Scripted → Type 0
Sends was to bytes is =
    Keeps was.is_whole (copies_of was.sent.items) (record { to = to; bytes = bytes }) is.is_whole (copies_of is.sent.items)

-- it was looked for a datagram; a fault brings none
abbrev pub Receives : Scripted → Result (Option (SocketAddrV4 × ℕ)) Fault → List ℕ → Scripted → Type 0
Receives was (Ok found) room is = KeepsFound was.received found room is.received
Receives was (Err fault) room is = is.received ≡ was.received

abbrev pub told_by : Scripted → Traffic
told_by scripted = record { sent = sent_by scripted; received = arrivals_of scripted.received }

-- an answer: when it was given, behind how much that was sent, to whom, and its text
pub record Answered : Type 0 where
  pub moment : ℕ
  pub sent : ℕ
  pub to : SocketAddr
  pub text : List ℕ

abbrev pub answered_in : List Answer → List Answered
answered_in kept = map (λ answer. record { moment = answer.moment; sent = answer.sent; to = answer.to; text = answer.text.items }) kept

-- one more is kept behind the others; or memory is refused for it, and it is lost
abbrev pub KeepsAnswer : List Answer → Answered → List Answer → Type 0
KeepsAnswer were answered are =
    (answered_in are ≡ answered_in were ++ answered ∷ []) ⊎ (answered_in are ≡ answered_in were)

-- this is answered now, behind all that was sent so far
abbrev pub Answers : Scripted → SocketAddr → List ℕ → Scripted → Type 0
Answers was to text is =
    KeepsAnswer was.answers.items (record { moment = was.moment; sent = length was.sent.items; to = to; text = text }) is.answers.items
