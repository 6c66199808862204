-- The ids that a confirmation names (RFC 3435, 3.2.2.1): single ids and ranges of them.
use Rattle.std.specs.Prelude.{ℕ, ◌≤◌, ◌&&◌, nat_le, Bool, List, Any}
use Rattle.std.specs.List.{list_any}
use Rattle.transmission.specs.declared.span.IdSpan.{IdSpan}

-- a span has its ends in it, and what lies between them
abbrev pub has_id : ℕ → IdSpan → Bool
has_id id span = nat_le span.first id && nat_le id span.last

-- spans name what one of them has in it
abbrev pub is_named : ℕ → List IdSpan → Bool
is_named id spans = list_any (has_id id) spans

-- the same as a fact
abbrev pub IsNamed : ℕ → List IdSpan → Type 0
IsNamed id spans = Any (λ span. (span.first ≤ id) × (id ≤ span.last)) spans
