-- What becomes of a visitor: as they come, as something is told of their socket, and in a turn of theirs. What a socket gives, and how
-- much it takes, it alone says.
use Rattle.std.specs.Prelude.{◌≡◌, ◌⊎◌, ◌↔◌, ℕ, ◌<◌, Bool, true, false, ◌||◌, if◌then◌else◌, IsTrue, List, ◌++◌, length, Result, Ok, Err}
use Rattle.std.specs.IoError.{error_kind}
use Rattle.std.specs.declared.io.Error.{Error}
use Rattle.std.specs.declared.io.ErrorKind.TheVariants.{WouldBlock}
use Rattle.std.specs.declared.net.ipv4_addr.Ipv4Addr.{Ipv4Addr}
use Rattle.std.specs.declared.net.socket_addr.SocketAddrV4.{SocketAddrV4}
use Rattle.http.specs.declared.request.Request.{Request}
use Rattle.http.specs.Request.{head_of, body_of}
use Rattle.http_server.specs.declared.response.Response.{Response}
use Rattle.http_server.specs.declared.state.Config.{Config}
use Rattle.http_server.specs.Connection.{config_of, history}
use Rattle.http_server.specs.Exchange.{Call, Chain}
use Rattle.http_server.specs.History.{IsDone, IsQuiet, Rests, WantsRead, new_history, after_read, after_sent}
use Rattle.page_state.specs.Sums.{sum_within}
use Rattle.live_system.specs.declared.readiness.Visit.{Visit}
use Rattle.live_system.specs.Looking.{is_visit}
use Rattle.page_http.specs.Asking.{asked_of}
use Rattle.page_state.specs.BoardShowing.{BoardState}
use Rattle.page_server.specs.declared.visitor.Visitor.{Visitor}
use Rattle.page_server.specs.Serving.{Answered}

-- Limits

-- how long a visitor may take for a request and its answer, in ms, and be silent between them
abbrev pub patience : ℕ
patience = 15000

-- How many bytes are held of a visitor at most: of the head of a request, of what comes with a body in parts, and of a body. No request is
-- read while so many wait to be sent.
abbrev pub most_held : Config
most_held = record {
  limits = record { max_head_len = 8192; max_extensions_len = 1024; max_trailers_len = 1024 };
  max_body_len = 1024;
  max_pending = 65536;
  read_size = 2048;
}

-- Who comes

-- until when a visitor is waited for from this moment on
abbrev pub patience_from : ℕ → ℕ
patience_from now = sum_within now patience

-- Somebody has come from this address, at this moment, and is waited for from then on. They have asked for nothing yet; their socket may
-- have something already, and room, so they have a turn. So much is held of them at most.
pub record IsNew (host : Ipv4Addr) (now : ℕ) (visitor : Visitor) : Type 0 where
  pub seat : visitor.seat ≡ record { host = host; active = now }
  pub deadline : visitor.deadline ≡ patience_from now
  pub reads : visitor.may_read ≡ true
  pub writes : visitor.may_write ≡ true
  pub turn : visitor.has_turn ≡ true
  pub asked : history visitor.connection ≡ new_history
  pub limits : config_of visitor.connection ≡ most_held

-- what was told of a visitor's socket: where something was, they have a turn
abbrev pub noted : Visit → Visitor → Visitor
noted visit visitor =
    if is_visit visit then record visitor {
      may_read = visitor.may_read || visit.is_readable;
      may_write = visitor.may_write || visit.is_writable;
      has_turn = true;
    } else visitor

-- What is answered

-- all their requests that were answered so far, each with its answer: what goes to them is these answers, in their order, as the kit's
-- server of HTTP says of each of its connections
abbrev pub calls_of : Visitor → List Call
calls_of visitor = (history visitor.connection).calls

-- the page at this address, and under these further names, answers a request by what a board has, and does it to that
abbrev pub AnsweredAt : SocketAddrV4 → List (List ℕ) → BoardState → Request (List ℕ) → Response → BoardState → Type 0
AnsweredAt site names was request response is = Answered (asked_of site names (head_of request)) was (body_of request) response is

-- a board became another by requests that were answered so, one after the other, and by nothing else
abbrev pub AnswersBy : SocketAddrV4 → List (List ℕ) → BoardState → BoardState → Type 0
AnswersBy site names board shown = (calls : List Call) × Chain (AnsweredAt site names) board calls shown

-- requests of a visitor were answered so, one after the other, and nothing else was done to the board
abbrev pub AnswersVisitor : SocketAddrV4 → List (List ℕ) → Visitor → BoardState → Visitor → BoardState → Type 0
AnswersVisitor site names was board is shown =
    (calls : List Call) × (calls_of is ≡ calls_of was ++ calls) × Chain (AnsweredAt site names) board calls shown

-- no request of a visitor waits for its answer, unless their connection ends, or too much waits to be sent to them
abbrev pub IsAnswered : Visitor → Type 0
IsAnswered visitor = Rests (config_of visitor.connection) (history visitor.connection)

-- what has come of a visitor is answered; nothing is read meanwhile, and nothing goes
pub record AnswersAll (site : SocketAddrV4) (names : List (List ℕ)) (was : Visitor) (board : BoardState) (is : Visitor) (shown : BoardState)
    : Type 0 where
  pub answers : AnswersVisitor site names was board is shown
  pub all : IsAnswered is
  pub quiet : IsQuiet (history was.connection) (history is.connection)
  pub limits : config_of is.connection ≡ config_of was.connection
  pub rest : is ≡ record was { connection = is.connection }

-- A turn

-- a fault of a socket says only that it has nothing more, or no room, now
abbrev pub IsWaiting : Error → Type 0
IsWaiting fault = error_kind fault ≡ WouldBlock

-- their socket may have something, and more may come
abbrev pub CanRead : Visitor → Type 0
CanRead visitor = (visitor.may_read ≡ true) × WantsRead (config_of visitor.connection) (history visitor.connection)

-- their socket may have room, and something waits for it
abbrev pub CanWrite : Visitor → Type 0
CanWrite visitor = (visitor.may_write ≡ true) × (0 < length (history visitor.connection).pending)

-- A socket was read, and gave so much: it is the visitor's, who was active at this moment. Or it failed: it isn't read again before it is
-- told, and who only has nothing more stays.
abbrev pub ReadsSo : ℕ → Visitor → Result ℕ Error → Bool → Visitor → Type 0
ReadsSo now was (Ok count) stays is =
    (stays ≡ true) × ((more : List ℕ) × (length more ≡ count) × (history is.connection ≡ after_read (history was.connection) more))
    × (config_of is.connection ≡ config_of was.connection)
    × (is ≡ record was { stream = is.stream; connection = is.connection; seat = record was.seat { active = now } })
ReadsSo now was (Err fault) stays is =
    (IsTrue stays ↔ IsWaiting fault) × (history is.connection ≡ history was.connection)
    × (config_of is.connection ≡ config_of was.connection)
    × (is ≡ record was { stream = is.stream; connection = is.connection; may_read = false })

-- a visitor's socket is read once at this moment, where that may give something
abbrev pub ReadsOnce : ℕ → Visitor → Bool → Visitor → Type 0
ReadsOnce now was stays is =
    ((¬ CanRead was) × (is ≡ was) × (stays ≡ true)) ⊎ (CanRead was × ((gave : Result ℕ Error) × ReadsSo now was gave stays is))

-- A socket took so much of what waits for a visitor, who was active at this moment, and is waited for anew once nothing waits; who takes
-- nothing at all goes. Or it failed: it isn't written again before it is told, and who only has no room stays.
abbrev pub WritesSo : ℕ → Visitor → Result ℕ Error → Bool → Visitor → Type 0
WritesSo now was (Ok count) stays is =
    (history is.connection ≡ after_sent (history was.connection) count) × (config_of is.connection ≡ config_of was.connection)
    × (count ≡ 0 → (stays ≡ false) × (is ≡ record was { stream = is.stream; connection = is.connection; may_write = false }))
    × (0 < count → (stays ≡ true) × (0 < length (history is.connection).pending → is.deadline ≡ was.deadline)
    × (length (history is.connection).pending ≡ 0 → is.deadline ≡ patience_from now)
    × (is ≡ record was {
      stream = is.stream;
      connection = is.connection;
      seat = record was.seat { active = now };
      deadline = is.deadline;
    }))
WritesSo now was (Err fault) stays is =
    (IsTrue stays ↔ IsWaiting fault) × (is ≡ record was { stream = is.stream; may_write = false })

-- what waits for a visitor is written once at this moment, where their socket may have room
abbrev pub WritesOnce : ℕ → Visitor → Bool → Visitor → Type 0
WritesOnce now was stays is =
    ((¬ CanWrite was) × (is ≡ was) × (stays ≡ true)) ⊎ (CanWrite was × ((took : Result ℕ Error) × WritesSo now was took stays is))

-- Who stays is answered what could not be answered before, has a turn again where they can be read or written, and goes where HTTP has
-- nothing more to do for them.
abbrev pub EndsTurn : SocketAddrV4 → List (List ℕ) → Bool → Visitor → BoardState → Bool → Visitor → BoardState → Type 0
EndsTurn site names false was board stays is shown = (is ≡ was) × (shown ≡ board) × (stays ≡ false)
EndsTurn site names true was board stays is shown =
    (answered : Visitor) × AnswersAll site names was board answered shown × (is ≡ record answered { has_turn = is.has_turn })
    × (IsTrue is.has_turn ↔ (CanRead answered ⊎ CanWrite answered))
    × (stays ≡ false → IsDone (history answered.connection)) × (IsDone (history answered.connection) → stays ≡ false)

-- Who stays is answered what came, and what waits for them is written once.
abbrev pub WritesTurn : SocketAddrV4 → List (List ℕ) → ℕ → Bool → Visitor → BoardState → Bool → Visitor → BoardState → Type 0
WritesTurn site names now false was board stays is shown = (is ≡ was) × (shown ≡ board) × (stays ≡ false)
WritesTurn site names now true was board stays is shown =
    (answered : Visitor) × (between : BoardState) × AnswersAll site names was board answered between
    × ((takes : Bool) × (written : Visitor) × WritesOnce now answered takes written
    × EndsTurn site names takes written between stays is shown)

-- A visitor has a turn at this moment: their socket is read once, what came is answered, and what waits for them is written once.
abbrev pub TakesTurn : SocketAddrV4 → List (List ℕ) → ℕ → Visitor → BoardState → Bool → Visitor → BoardState → Type 0
TakesTurn site names now was board stays is shown =
    (gives : Bool) × (heard : Visitor) × ReadsOnce now was gives heard × WritesTurn site names now gives heard board stays is shown
