-- Until when it is waited, for visitors and for whom the system refused to let in, and whose turn it is.
use Rattle.std.specs.Prelude.{ℕ, ◌+◌, min, nat_le, nat_lt, Bool, true, false, ◌&&◌, if◌then◌else◌, List, [], ◌∷◌, Option, Some, None}
use Rattle.std.specs.Option.{option_or}
use Rattle.std.specs.Global.{Box}
use Rattle.page_server.specs.declared.visitor.Visitor.{Visitor}

abbrev pub deadline_of : Option (Box Visitor) → Option ℕ
deadline_of None = None
deadline_of (Some visitor) = Some visitor.value.deadline

-- of two moments the earlier one, where there are two
abbrev pub sooner : Option ℕ → Option ℕ → Option ℕ
sooner next None = next
sooner None (Some deadline) = Some deadline
sooner (Some next) (Some deadline) = Some (min next deadline)

-- a moment, where one is meant, is over
abbrev pub is_over : ℕ → Option ℕ → Bool
is_over now None = false
is_over now (Some moment) = nat_le moment now

-- and is meant no longer then
abbrev pub left_over : ℕ → Option ℕ → Option ℕ
left_over now moment = if is_over now moment then None else moment

-- the first moment at which the time of somebody is over who has one of these places, or the one that was found before
unfoldable pub soonest_from : Option ℕ → List (Option (Box Visitor)) → Option ℕ
soonest_from next [] = next
soonest_from next (place ∷ places) = soonest_from (sooner next (deadline_of place)) places

-- the time is over of whoever has the place
abbrev pub is_late : ℕ → Option (Box Visitor) → Bool
is_late now None = false
is_late now (Some visitor) = nat_le visitor.value.deadline now

-- who is late goes
abbrev pub stays_at : ℕ → Option (Box Visitor) → Option (Box Visitor)
stays_at now place = if is_late now place then None else place

-- whoever has the place has more to do at once
abbrev pub has_more : Option (Box Visitor) → Bool
has_more None = false
has_more (Some visitor) = visitor.value.has_turn

-- the place stands behind this one, where one is meant
abbrev pub is_behind : Option ℕ → ℕ → Bool
is_behind None place = true
is_behind (Some last) place = nat_lt last place

-- the first of these places, counted on from this number, behind that one, whose visitor has more to do
unfoldable pub turn_from : Option ℕ → ℕ → List (Option (Box Visitor)) → Option ℕ
turn_from last place [] = None
turn_from last place (held ∷ more) =
    if is_behind last place && has_more held then Some place else turn_from last (place + 1) more

-- the next one behind the last; behind all of them the first
abbrev pub next_turn : ℕ → List (Option (Box Visitor)) → Option ℕ
next_turn last places = option_or (turn_from (Some last) 0 places) (turn_from None 0 places)
