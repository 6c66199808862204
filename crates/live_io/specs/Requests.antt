-- What a socket for commands takes for a request. A line of an answer asks for nothing, and nothing that comes from a program's own
-- sockets does: so no two programs answer each other for ever, and none itself.
use Rattle.std.specs.Prelude.{ℕ, Bool, false, not, ◌&&◌, ◌||◌, ◌==◌, codes, if◌then◌else◌, List, [], ◌∷◌, nat_eq, bytes_eq}
use Rattle.std.specs.List.{list_any, starts_with}
use Rattle.std.specs.Net.Addr.{ipv4_octets}
use Rattle.std.specs.declared.net.socket_addr.SocketAddr.{SocketAddr}
use Rattle.std.specs.declared.net.socket_addr.SocketAddr.TheVariants.{V4, V6}
use Rattle.std.specs.declared.net.socket_addr.SocketAddrV4.{SocketAddrV4}
use Rattle.mg_bytes.specs.Lists.{is_empty}
use Rattle.mg_bytes.specs.Lines.{line_of}
use Rattle.mg_bytes.specs.Words.{words}

-- the mark of what wasn't understood, or was refused
abbrev pub is_marked : List ℕ → Bool
is_marked line = starts_with nat_eq line (codes "?") || starts_with nat_eq line (codes "!")

-- a word is one of these
abbrev pub is_among : List ℕ → List ℕ → Bool
is_among known word = list_any (bytes_eq word) (words known)

-- what was asked for was done or issued, a line is shown, somebody watches, or is told what changed
unfoldable pub outcomes : List ℕ
outcomes = codes "done issued line watching change"

-- the counts of messages, of what was lost, failed or wasn't recorded, and of calls
unfoldable pub counts : List ℕ
counts = codes "datagrams commands responses answers notifications announcements lost faults network strangers records calls"

-- a line of an answer begins with this word
abbrev pub is_answer_word : List ℕ → Bool
is_answer_word word = is_among outcomes word || is_among counts word

abbrev pub begins_answer : List (List ℕ) → Bool
begins_answer [] = false
begins_answer (word ∷ more) = is_answer_word word

-- the line is one of an answer that a program here gives
abbrev pub is_answer : List ℕ → Bool
is_answer line = is_marked line || begins_answer (words line)

-- the line asks for something
abbrev pub is_request : List ℕ → Bool
is_request line = not (is_empty line) && not (is_answer line)

-- the pieces of a text from the first line on that asks for something
unfoldable pub requests_from : List (List ℕ) → List (List ℕ)
requests_from [] = []
requests_from (piece ∷ pieces) = if is_request (line_of piece) then piece ∷ pieces else requests_from pieces

-- all addresses of a machine are meant
abbrev pub is_anywhere : List ℕ → Bool
is_anywhere octets = bytes_eq octets (0 ∷ 0 ∷ 0 ∷ 0 ∷ [])

abbrev pub is_host : List ℕ → List ℕ → Bool
is_host own sender = is_anywhere own || bytes_eq own sender

-- what has this sender came from the socket here, as far as an address tells: one that listens at each address of its machine may
-- have sent from any
abbrev pub is_from : SocketAddrV4 → SocketAddrV4 → Bool
is_from sender own = own.port == sender.port && is_host (ipv4_octets own.ip) (ipv4_octets sender.ip)

-- it came from one of these sockets
abbrev pub is_from_any : List SocketAddrV4 → SocketAddrV4 → Bool
is_from_any own sender = list_any (is_from sender) own

-- nothing that has an address of another kind did
abbrev pub is_own : List SocketAddrV4 → SocketAddr → Bool
is_own own (V4 sender) = is_from_any own sender
is_own own (V6 sender) = false
