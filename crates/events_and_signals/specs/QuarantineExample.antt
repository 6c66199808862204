-- What is quarantined in the worked examples.
use Rattle.std.specs.Prelude.{ℕ, List, map}
use Rattle.packages.specs.declared.event.LineEvent.{LineEvent}
use Rattle.packages.specs.declared.observed.Observed.{Observed}
use Rattle.packages.specs.declared.observed.Observed.TheVariants.{Happened}
use Rattle.events_and_signals.specs.Held.{Held, nothing_held}
use Rattle.events_and_signals.specs.Given.{Happening, comes, held_after, given_back}

abbrev pub happened : List LineEvent → List Observed
happened events = map Happened events

-- these events come
abbrev pub come : List LineEvent → List Happening
come events = map (λ event. comes (Happened event)) events

-- what is held of this, with room for so many
abbrev pub held_of : ℕ → List Happening → Held
held_of room happenings = held_after (nothing_held room) happenings

-- what is given back of it
abbrev pub given_of : ℕ → List Happening → List Observed
given_of room happenings = given_back (nothing_held room) happenings

-- these events, with room for so many, and so many lost
abbrev pub holds : ℕ → List LineEvent → ℕ → Held
holds room events lost = record { events = happened events; room = room; lost = lost }
