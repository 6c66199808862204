-- What the page is shown of what goes over the wire, where there is a page.
use Rattle.std.specs.Prelude.{◌≡◌, ◌⊎◌, ℕ, List, [], ◌∷◌, map, Option, Some, None}
use Rattle.std.specs.Global.{Box}
use Rattle.std.specs.declared.net.socket_addr.SocketAddrV4.{SocketAddrV4}
use Rattle.gateway_core.specs.declared.outcome.TextOutcome.{TextOutcome}
use Rattle.page_state.specs.declared.label.MessageLabel.{MessageLabel}
use Rattle.page_state.specs.declared.ring.Kind.{Kind}
use Rattle.page_state.specs.declared.ring.Kind.TheVariants.{GivenUp}
use Rattle.page_state.specs.Keeping.{noted, counted, labelled}
use Rattle.page_state.specs.BoardShowing.{BoardState}
use Rattle.plain_machine.specs.declared.given_up.GivenUpCommand.{GivenUpCommand}
use Rattle.told_messages.specs.Labelling.{text_label, given_up_label}

-- 0.0.0.0:0, which is of nobody on the network
abbrev pub nobody : SocketAddrV4
nobody = record { ip = record { octets = 0 ∷ 0 ∷ 0 ∷ 0 ∷ [] }; port = 0 }

-- a board goes on so, if there is one
abbrev pub GoesOn : (BoardState → BoardState → Type 0) → Option (Box BoardState) → Option (Box BoardState) → Type 0
GoesOn does None is = is ≡ None
GoesOn does (Some was) None = ⊥
GoesOn does (Some was) (Some is) = does was.value is.value

-- this happened; where memory is refused for it, its number alone is taken
abbrev pub Happened : ℕ → Kind → SocketAddrV4 → List ℕ → BoardState → BoardState → Type 0
Happened moment kind peer text was is =
    (is ≡ record was { ring = noted was.ring moment kind peer text }) ⊎ (is ≡ record was { ring = counted was.ring })

-- it is told what the messages of what happened last are, unless memory is refused for that
abbrev pub Labelled : List MessageLabel → BoardState → BoardState → Type 0
Labelled said was is = (is ≡ record was { ring = labelled was.ring said }) ⊎ (is ≡ was)

-- this happened, and its messages are these
abbrev pub HappenedWith : ℕ → Kind → SocketAddrV4 → List ℕ → List MessageLabel → BoardState → BoardState → Type 0
HappenedWith moment kind peer text said was is = (mid : BoardState) × Happened moment kind peer text was mid × Labelled said mid is

-- what happened last has these texts, if any came
abbrev pub HadTexts : List TextOutcome → BoardState → BoardState → Type 0
HadTexts [] was is = is ≡ was
HadTexts (outcome ∷ outcomes) was is = Labelled (map text_label (outcome ∷ outcomes)) was is

-- these were given up, if any was
abbrev pub GaveUp : ℕ → List GivenUpCommand → BoardState → BoardState → Type 0
GaveUp moment [] was is = is ≡ was
GaveUp moment (command ∷ commands) was is = HappenedWith moment GivenUp nobody [] (map given_up_label (command ∷ commands)) was is

-- the gateway took an event
abbrev pub Turned : ℕ → List TextOutcome → List GivenUpCommand → BoardState → BoardState → Type 0
Turned moment outcomes given_up was is = (mid : BoardState) × HadTexts outcomes was mid × GaveUp moment given_up mid is
