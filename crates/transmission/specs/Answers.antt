-- What is answered (RFC 3435, 3.5.1): a repeat gets its first's answer again, or silence once that is confirmed.
use Rattle.std.specs.Prelude.{◌≡◌, ℕ, if◌then◌else◌, Bool, List, [], ◌∷◌, Any, Option, Some, None}
use Rattle.std.specs.List.{list_any}
use Rattle.transmission.specs.Span.{is_named, IsNamed}
use Rattle.transmission.specs.Arrival.{Arrival}
use Rattle.transmission.specs.Firsts.{Copied, Kind, a_first, a_repeat, lost, kind_of, firsts_with, firsts_of}

-- a first is confirmed by what came after it: one of these firsts names its id
abbrev pub is_confirmed : ℕ → List Arrival → Bool
is_confirmed id after = list_any (λ later. is_named id later.confirms) after

-- the same as a fact
abbrev pub IsConfirmed : ℕ → List Arrival → Type 0
IsConfirmed id after = Any (λ later. IsNamed id later.confirms) after

-- silence is `None`
abbrev pub answer_as : Kind → Arrival → Option (List ℕ)
answer_as a_first a = Some a.answer
answer_as (a_repeat copied) a = if is_confirmed a.id copied.after then None else Some copied.original.answer
answer_as lost a = None

-- what an arrival is answered after these firsts
unfoldable pub answer_to : ℕ → List Arrival → Arrival → Option (List ℕ)
answer_to limit firsts a = answer_as (kind_of limit firsts a) a

-- what each arrival is answered, after these firsts
unfoldable pub answers_from : ℕ → List Arrival → List Arrival → List (Option (List ℕ))
answers_from limit firsts [] = []
answers_from limit firsts (a ∷ arrivals) =
    answer_to limit firsts a ∷ answers_from limit (firsts_with limit firsts a) arrivals

-- what each of all that arrived is answered
abbrev pub answers_of : ℕ → List Arrival → List (Option (List ℕ))
answers_of limit arrivals = answers_from limit [] arrivals

-- The same as facts, of what arrives after all these arrivals

-- it is a repeat
abbrev pub IsRepeat : ℕ → List Arrival → Arrival → Type 0
IsRepeat limit earlier a = (copied : Copied) × (kind_of limit (firsts_of limit earlier) a ≡ a_repeat copied)

-- it is a repeat of a first that is confirmed
abbrev pub IsSilenced : ℕ → List Arrival → Arrival → Type 0
IsSilenced limit earlier a =
    (copied : Copied) × (kind_of limit (firsts_of limit earlier) a ≡ a_repeat copied) × IsConfirmed a.id copied.after
