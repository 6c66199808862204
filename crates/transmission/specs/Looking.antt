-- What kept entries tell of a command that arrives.
use Rattle.std.specs.Prelude.{ℕ, ◌==◌, ◌&&◌, nat_lt, if◌then◌else◌, Bool, true, false, List, [], ◌∷◌, length, Option, Some, None, option_map}
use Rattle.std.specs.Option.{option_or}
use Rattle.std.specs.List.{list_any}
use Rattle.transmission.specs.declared.entry.KeptFirst.{KeptFirst}
use Rattle.transmission.specs.declared.entry.Entry.{Entry}
use Rattle.transmission.specs.declared.entry.Entry.TheVariants.{First, Confirmation}
use Rattle.transmission.specs.declared.look.Look.{Look}
use Rattle.transmission.specs.declared.look.Look.TheVariants as looks
use Rattle.transmission.specs.Span.{is_named}
use Rattle.transmission.specs.Memory.{is_young}
use Rattle.transmission.specs.Firsts.{Kind, a_first, a_repeat, lost}
use Rattle.transmission.specs.Answers.{is_confirmed}
use Rattle.transmission.specs.Kept.{young_firsts}

-- the first that an entry is, where a copy with this id repeats it
abbrev pub repeated : Entry → ℕ → ℕ → Option KeptFirst
repeated (First first) id now = if first.id == id && is_young now first.moment then Some first else None
repeated (Confirmation spans) id now = None

-- the first that a copy repeats, and the entries after it
pub record Found : Type 0 where
  pub first : KeptFirst
  pub after : List Entry

-- of several it is the latest
unfoldable pub latest : List Entry → ℕ → ℕ → Option Found
latest [] id now = None
latest (entry ∷ entries) id now =
    option_or (latest entries id now)
    (option_map (λ first. record { first = first; after = entries }) (repeated entry id now))

-- an entry is a confirmation that names the id
abbrev pub confirms : ℕ → Entry → Bool
confirms id (First first) = false
confirms id (Confirmation spans) = is_named id spans

-- what is recalled of an id: the answer to the first that a copy repeats, and whether a later confirmation names it
pub record Recalled : Type 0 where
  pub answer : List ℕ
  pub confirmed : Bool

abbrev pub recalled_from : ℕ → Found → Recalled
recalled_from id found = record { answer = found.first.answer; confirmed = list_any (confirms id) found.after }

abbrev pub recalled : List Entry → ℕ → ℕ → Option Recalled
recalled entries id now = option_map (recalled_from id) (latest entries id now)

-- what is told of a command
pub data Looked : Type 0 where
  new : Looked
  repeat : (answer : List ℕ) → Looked
  confirmed : Looked
  full : Looked

-- what the code answers, as what is told
abbrev pub looked_in : Look → Looked
looked_in looks.New = new
looked_in (looks.Repeat answer) = repeat answer.now
looked_in looks.Confirmed = confirmed
looked_in looks.Full = full

-- a copy is told of first, however many are young
abbrev pub told_by : Option Recalled → Bool → Looked
told_by (Some found) has_room = if found.confirmed then confirmed else repeat found.answer
told_by None true = new
told_by None false = full

-- what is told of a command that arrives now with this id, where no more firsts than the limit are young at a time
unfoldable pub look_of : ℕ → List Entry → ℕ → ℕ → Looked
look_of limit entries id now = told_by (recalled entries id now) (nat_lt (length (young_firsts now entries)) limit)

-- what is told of an arrival, by what it is
abbrev pub told_as : ℕ → Kind → Looked
told_as id a_first = new
told_as id (a_repeat copied) = if is_confirmed id copied.after then confirmed else repeat copied.original.answer
told_as id lost = full
