-- How a command that arrives is answered, by what is told of its id (RFC 3435, 3.5.1).
use Rattle.std.specs.Prelude.{ℕ, Bool, true, false, List, [], ◌∷◌}
use Rattle.std.specs.declared.net.socket_addr.SocketAddrV4.{SocketAddrV4}
use Rattle.transmission.specs.declared.span.IdSpan.{IdSpan}
use Rattle.transmission.specs.declared.entry.Entry.TheVariants.{Confirmation}
use Rattle.transmission.specs.Kept.{HistoryState, first_entry, kept_with}
use Rattle.transmission.specs.Looking.{Looked, new, repeat, confirmed, full}
use Rattle.transmission.specs.declared.output.OutDatagram.{OutDatagram}

-- a message in a datagram of its own
abbrev pub message_to : SocketAddrV4 → ℕ → List ℕ → OutDatagram
message_to to moment text = record { to = to; moment = moment; bytes = text }

-- a command, by what is told of its id: a first is executed, a repeat gets the stored answer once more, what is confirmed gets
-- silence, and what finds no room is lost
abbrev pub transacted_as : {E : Type 0} → Looked → E → (List ℕ → E) → E → E
transacted_as new executed again nothing = executed
transacted_as (repeat text) executed again nothing = again text
transacted_as confirmed executed again nothing = nothing
transacted_as full executed again nothing = nothing

-- it is to be executed
abbrev pub is_new : Looked → Bool
is_new looked = transacted_as looked true (λ text. false) false

-- the stored answer goes to where the repeat came from
abbrev pub answered_again : Looked → SocketAddrV4 → ℕ → List OutDatagram
answered_again looked source moment = transacted_as looked [] (λ text. message_to source moment text ∷ []) []

-- the history after a first: behind what that confirms stands the first itself, with its answer
abbrev pub with_first : HistoryState → ℕ → ℕ → List IdSpan → List ℕ → HistoryState
with_first history id moment confirms answer =
    kept_with (kept_with history (Confirmation confirms)) (first_entry id moment answer)
