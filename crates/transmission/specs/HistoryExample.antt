-- What arrives in the worked examples, and what is kept.
use Rattle.std.specs.Prelude.{ℕ, List, [], ◌∷◌, Option, Some, None}
use Rattle.transmission.specs.declared.span.IdSpan.{IdSpan}
use Rattle.transmission.specs.declared.entry.Entry.{Entry}
use Rattle.transmission.specs.declared.entry.Entry.TheVariants.{Confirmation}
use Rattle.transmission.specs.Memory.{most_firsts}
use Rattle.transmission.specs.Arrival.{Arrival}
use Rattle.transmission.specs.Firsts.{Kind, kind_of, firsts_of}
use Rattle.transmission.specs.Answers.{answers_of}
use Rattle.transmission.specs.Kept.{first_entry}
use Rattle.transmission.specs.Looking.{Looked, look_of}

-- the ids from one to another
abbrev pub to : ℕ → ℕ → IdSpan
to first last = record { first = first; last = last }

-- a command with this id at this moment, whose answer is this one byte
abbrev pub comes : ℕ → ℕ → ℕ → Arrival
comes id moment answer = record { id = id; moment = moment; confirms = []; answer = answer ∷ [] }

-- the same with a K of these spans
abbrev pub comes_with : List IdSpan → ℕ → ℕ → ℕ → Arrival
comes_with spans id moment answer = record { id = id; moment = moment; confirms = spans; answer = answer ∷ [] }

-- an answer of this one byte, and none
abbrev pub gets : ℕ → Option (List ℕ)
gets answer = Some (answer ∷ [])

abbrev pub silence : Option (List ℕ)
silence = None

-- what each of these is answered
abbrev pub answers : List Arrival → List (Option (List ℕ))
answers arrivals = answers_of most_firsts arrivals

-- what an arrival is after these
abbrev pub kind_after : ℕ → List Arrival → Arrival → Kind
kind_after limit earlier a = kind_of limit (firsts_of limit earlier) a

-- what is kept of a first that is answered by this one byte
abbrev pub kept : ℕ → ℕ → ℕ → Entry
kept id moment answer = first_entry id moment (answer ∷ [])

abbrev pub confirmed_ids : ℕ → ℕ → Entry
confirmed_ids first last = Confirmation (to first last ∷ [])

-- what is told of a command
abbrev pub told : List Entry → ℕ → ℕ → Looked
told entries id now = look_of most_firsts entries id now
