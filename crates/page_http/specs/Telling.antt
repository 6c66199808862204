-- What is told as JSON of what happened lately.
use Rattle.std.specs.Prelude.{ℕ, min, Bool, true, false, ◌&&◌, nat_lt, codes, List, [], ◌∷◌, map, filter, take}
use Rattle.std.specs.Net.Text.{socket_v4_text}
use Rattle.hex.specs.Hex.{encode_lower}
use Rattle.serde_json.specs.Data.{Data, boolean, string, array, object, Members, no_members, put}
use Rattle.serde_json.specs.View.{items_of}
use Rattle.serde_json.specs.Written.{compact_text}
use Rattle.page_state.specs.declared.ring.Kind.{Kind}
use Rattle.page_state.specs.declared.ring.Kind.TheVariants.{Received, Sent, Act, Told, GivenUp}
use Rattle.page_http.specs.declared.telling.TheConstants.{MOST_TOLD}
use Rattle.page_state.specs.Keeping.{Event, RingState}
use Rattle.page_state.specs.Sums.{next_number}
use Rattle.page_http.specs.Labelling.{with_said}
use Rattle.page_http.specs.Texts.{put_number, put_shown}

abbrev pub kind_word : Kind → List ℕ
kind_word Received = codes "in"
kind_word Sent = codes "out"
kind_word Act = codes "act"
kind_word Told = codes "told"
kind_word GivenUp = codes "given up"

-- when something happened, what it was, and with whom
abbrev pub put_circumstances : Event → Members → Members
put_circumstances e members =
    put (codes "peer") (string (socket_v4_text e.peer)) (put (codes "kind") (string (kind_word e.kind))
    (put_number (codes "at") e.moment (put_number (codes "n") e.number members)))

-- what came from outside goes in hexadecimal digits alone; beside it stands what its messages are
abbrev pub event_data : Event → Data
event_data e =
    object (with_said e.said (put (codes "hex") (string (encode_lower e.text)) (put_circumstances e no_members)))

-- those behind a number, from the oldest, at most so many
abbrev pub told_after : ℕ → ℕ → List Event → List Event
told_after most after events = take most (filter (λ e. nat_lt after e.number) events)

-- the number of the last, or this where there is none
abbrev pub last_number : ℕ → List Event → ℕ
last_number none [] = none
last_number none (event ∷ events) = last_number event.number events

-- the number behind which to go on: of the last that is told, or the one that was asked for, where it was given yet
abbrev pub next_after : ℕ → RingState → ℕ
next_after after ring = last_number (min after ring.last) (told_after MOST_TOLD after ring.events)

abbrev pub is_any : List Event → Bool
is_any [] = false
is_any (event ∷ events) = true

-- whether there is more than is told
abbrev pub has_more : ℕ → RingState → Bool
has_more after ring = nat_lt (next_after after ring) ring.last && is_any (told_after MOST_TOLD after ring.events)

-- the number of the oldest that is kept, or of the next
abbrev pub first_number : ℕ → List Event → ℕ
first_number last [] = next_number last
first_number last (event ∷ events) = event.number

-- what happened behind a number, under which number the lines are shown meanwhile, and the clock
abbrev pub events_data : RingState → ℕ → ℕ → ℕ → Data
events_data ring after version clock =
    object (put (codes "more") (boolean (has_more after ring)) (put_number (codes "next") (next_after after ring)
    (put (codes "events") (array (items_of (map event_data (told_after MOST_TOLD after ring.events))))
    (put_number (codes "first") (first_number ring.last ring.events) (put_shown version clock no_members)))))

abbrev pub events_text : RingState → ℕ → ℕ → ℕ → List ℕ
events_text ring after version clock = compact_text (events_data ring after version clock)
