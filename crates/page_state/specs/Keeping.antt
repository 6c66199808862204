-- What is kept of what happened lately.
use Rattle.std.specs.Prelude.{ℕ, ◌==◌, nat_le, if◌then◌else◌, List, [], ◌∷◌, ◌++◌, length, take, drop}
use Rattle.std.specs.declared.net.socket_addr.SocketAddrV4.{SocketAddrV4}
use Rattle.page_state.specs.Sums.{next_number}
use Rattle.page_state.specs.declared.label.MessageLabel.{MessageLabel}
use Rattle.page_state.specs.declared.ring.Kind.{Kind}
use Rattle.page_state.specs.declared.ring.Happening.{Happening}
use Rattle.page_state.specs.declared.ring.TheConstants.{MOST_KEPT, MOST_SAID, MOST_TEXT}

-- one more behind a list of at most so many: the oldest gives way
abbrev pub kept_with : {X : Type 0} → ℕ → List X → X → List X
kept_with most kept next = (if nat_le most (length kept) then drop 1 kept else kept) ++ next ∷ []

-- what happened, by its number and its moment, in ms: what it was, with whom, its bytes, and what its messages are, where that is told:
-- of both as much as is kept
pub record Event : Type 0 where
  pub number : ℕ
  pub moment : ℕ
  pub kind : Kind
  pub peer : SocketAddrV4
  pub text : List ℕ
  pub said : List MessageLabel

abbrev pub event_at : ℕ → ℕ → Kind → SocketAddrV4 → List ℕ → Event
event_at number moment kind peer text = record { number = number; moment = moment; kind = kind; peer = peer; text = text; said = [] }

abbrev pub event_of : Happening → Event
event_of h = record (event_at h.number h.moment h.kind h.peer h.text.items) { said = h.said.items }

-- the number of the latest, and what is kept, from the oldest
pub record RingState : Type 0 where
  pub last : ℕ
  pub events : List Event

-- nothing has happened yet
abbrev pub nothing_yet : RingState
nothing_yet = record { last = 0; events = [] }

-- a number is taken, and nothing kept
abbrev pub counted : RingState → RingState
counted ring = record { last = next_number ring.last; events = ring.events }

-- one more happened: it has the next number, and of its text the beginning is kept
abbrev pub noted : RingState → ℕ → Kind → SocketAddrV4 → List ℕ → RingState
noted ring moment kind peer text = record {
  last = next_number ring.last;
  events = kept_with MOST_KEPT ring.events (event_at (next_number ring.last) moment kind peer (take MOST_TEXT text));
}

-- it is told what its messages are, where it has this number
abbrev pub told_of : ℕ → List MessageLabel → Event → Event
told_of latest said event = if event.number == latest then record event { said = said } else event

-- the same of the last of these
unfoldable pub latest_said : ℕ → List MessageLabel → List Event → List Event
latest_said latest said [] = []
latest_said latest said (event ∷ []) = told_of latest said event ∷ []
latest_said latest said (event ∷ next ∷ events) = event ∷ latest_said latest said (next ∷ events)

-- it is told what the messages of what happened last are, where that is kept
abbrev pub labelled : RingState → List MessageLabel → RingState
labelled ring said = record ring { events = latest_said ring.last (take MOST_SAID said) ring.events }
