-- What the page is shown in the worked examples.
use Rattle.std.specs.Prelude.{◌≡◌, ℕ, List, [], ◌∷◌, codes, Some, None}
use Rattle.page_state.specs.declared.label.MessageKind.TheVariants as kinds
use Rattle.page_state.specs.declared.label.MessageLabel.{MessageLabel}
use Rattle.page_state.specs.declared.ring.Kind.TheVariants.{Received, Sent, GivenUp}
use Rattle.page_state.specs.Keeping.{Event}
use Rattle.page_state.specs.BoardShowing.{BoardState}
use Rattle.message_counts.specs.Example.{host}
use Rattle.told_messages.specs.Example.{shown}

-- a text that is no message, the answer 200 to the command 7 of line 1, and a command of that line that is given up
abbrev pub noise : MessageLabel
noise = shown kinds.Unreadable None None None None

abbrev pub answer : MessageLabel
answer = shown kinds.Answer (Some 1) (Some 7) (Some 200) (Some 1)

abbrev pub end : MessageLabel
end = shown kinds.GivenUp (Some 1) (Some 10000000) None None

-- a text came from 10.0.0.9, and its messages are these
abbrev pub came : List MessageLabel → Event
came said = record { number = 7; moment = 5000; kind = Received; peer = host 9; text = codes "ok"; said = said }

-- next an answer was sent there
abbrev pub went : List MessageLabel → Event
went said = record { number = 8; moment = 5020; kind = Sent; peer = host 9; text = codes "200 7"; said = said }

-- next commands were given up
abbrev pub ended : List MessageLabel → Event
ended said = record {
  number = 8;
  moment = 5020;
  kind = GivenUp;
  peer = record { ip = record { octets = 0 ∷ 0 ∷ 0 ∷ 0 ∷ [] }; port = 0 };
  text = [];
  said = said;
}

-- this board, where so many things happened, and these are kept
abbrev pub board_of : BoardState → ℕ → List Event → BoardState
board_of b last events = record b { ring = record { last = last; events = events } }

-- all but what happened is shown as before
abbrev pub IsElseSame : BoardState → BoardState → Type 0
IsElseSame was is = (is.picture ≡ was.picture) × (is.version ≡ was.version) × (is.acts ≡ was.acts)
