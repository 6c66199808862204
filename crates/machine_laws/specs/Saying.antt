-- What an end says: commands of its own, answers to the firsts that it keeps, and acknowledgements (RFC 3435, 3.5).
use Rattle.std.specs.Prelude.{◌≡◌, ◌⊎◌, ℕ, ◌+◌, ◌<◌, ◌≤◌, ◌==◌, List, [], ◌∷◌, flat_map, filter, length}
use Rattle.mgcp_text.specs.declared.message.Param.{Param}
use Rattle.mgcp_text.specs.declared.message.Message.TheVariants as messages
use Rattle.mgcp_text.specs.Reading.{message, read_text}
use Rattle.mgcp_text.specs.Writing.{written}
use Rattle.retransmission.specs.Sends.{sending_time}
use Rattle.transmission.specs.declared.entry.KeptFirst.{KeptFirst}
use Rattle.transmission.specs.Memory.{memory_time}
use Rattle.plain_machine.specs.Message.{Begun, Said, answer, again, command, resent, acknowledgement, Sent, of_none}
use Rattle.plain_machine.specs.Posting.{numbers, first_number, line_of_id}
use Rattle.std.specs.declared.net.socket_addr.SocketAddrV4.{SocketAddrV4}

-- The commands of a gateway's own that begin, each at its first send

abbrev pub begun_by : ℕ → Said → List Begun
begun_by moment (command (messages.Command verb id name params body)) =
    (record { id = id; moment = moment; text = written (messages.Command verb id name params body) }) ∷ []
begun_by moment (command (messages.Response code id params body)) = []
begun_by moment (answer response) = []
begun_by moment (again id text) = []
begun_by moment (resent flight) = []
begun_by moment (acknowledgement response) = []

abbrev pub begun_at : Sent → List Begun
begun_at one = begun_by one.moment one.said

abbrev pub begun_in : List Sent → List Begun
begun_in sent = flat_map begun_at sent

-- how many of them are of this line; of the gateway itself, which is line 0
abbrev pub count_of : ℕ → List Begun → ℕ
count_of line begun = length (filter (λ one. line_of_id one.id == line) begun)

-- not all numbers of its commands are used up: a line has 10,000,000, and the gateway itself one fewer, since 0 is no id
abbrev pub HasNumbersLeft : List Begun → Type 0
HasNumbersLeft begun = (line : ℕ) → first_number line + count_of line begun < numbers

-- Of what is said

abbrev pub OneOf : {X : Type 0} → (X → Type 0) → List X → Type 0
OneOf P [] = ⊥
OneOf P (x ∷ xs) = P x ⊎ OneOf P xs

-- what is sent is this command, less than 20,000 ms after it was issued
pub record Carries (bytes : List ℕ) (moment : ℕ) (one : Begun) : Type 0 where
  pub text : bytes ≡ one.text
  pub since : one.moment ≤ moment
  pub within : moment < one.moment + sending_time

-- an answer that is kept is a response in its transaction
pub record IsAnswerTo (id : ℕ) (text : List ℕ) : Type 0 where
  pub code : ℕ
  pub params : List Param
  pub body : List ℕ
  pub reads : read_text text ≡ message (messages.Response code id params body)

pub record IsAcknowledgement (text : List ℕ) : Type 0 where
  pub id : ℕ
  pub reads : read_text text ≡ message (messages.Response 0 id [] [])

-- the stored answer to a first that is remembered, less than 30,000 ms after it came
abbrev pub Gives : List ℕ → ℕ → KeptFirst → Type 0
Gives text moment first = (first.answer ≡ text) × (moment < first.moment + memory_time)

abbrev pub Tells : List Begun → List KeptFirst → List ℕ → ℕ → Type 0
Tells log firsts text moment =
    OneOf (Carries text moment) log ⊎ (OneOf (Gives text moment) firsts ⊎ IsAcknowledgement text)

-- Which messages acknowledge a response, and whose messages are (RFC 3435, 3.5.6).

-- the acknowledgement of a response with this id, at this moment to this address: `000` and the id
abbrev pub acknowledging : ℕ → SocketAddrV4 → ℕ → Sent
acknowledging moment source id =
    record { to = source; moment = moment; owner = of_none; said = acknowledgement (messages.Response 0 id [] []) }
