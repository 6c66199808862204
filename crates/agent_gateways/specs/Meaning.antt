-- Which gateway a name means that is typed.
use Rattle.std.specs.Prelude.{ℕ, ◌==◌, Bool, if◌then◌else◌, List, length, position, Option, Some, None}
use Rattle.mg_bytes.specs.Case.{same_but_case}
use Rattle.mg_bytes.specs.Words.{split_once}
use Rattle.agent_gateways.specs.declared.gateway.Gateway.{Gateway}

-- the gateway has this domain; case makes no difference
abbrev pub has_domain : List ℕ → Gateway → Bool
has_domain domain gateway = same_but_case gateway.domain domain

abbrev pub at_place : List ℕ → Option ℕ → Option (ℕ × List ℕ)
at_place local None = None
at_place local (Some place) = Some (place, local)

-- where there is one gateway alone its domain may be left out
abbrev pub meant_by : List Gateway → List ℕ → Option (List ℕ × List ℕ) → Option (ℕ × List ℕ)
meant_by gateways name None = if length gateways == 1 then Some (0, name) else None
meant_by gateways name (Some parts) = at_place parts.0 (position (has_domain parts.1) gateways)

-- the place of the first gateway whose domain stands behind the `@` of a name, and what stands before that
abbrev pub meant : List Gateway → List ℕ → Option (ℕ × List ℕ)
meant gateways name = meant_by gateways name (split_once 64 name)
