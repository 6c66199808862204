use Rattle.std.proofs.Common.{◌≡◌, ℕ, ◌+◌, drop}
use Rattle.std.specs.Prelude.{find, option_map}
use Rattle.std.specs.List.{enumerate_from}
use Rattle.plain_machine.specs.declared.endpoint.Endpoint.{Endpoint}
use Rattle.plain_machine.specs.Requesting.{has_place}
use Rattle.endpoints.proofs.requesting.line_with_place.Given as goal

-- the first of the rest is the first of all
abbrev pub invariant-loop-place : goal.invariant-loop-place
invariant-loop-place l =
    option_map (λ (one : ℕ × Endpoint). one.0) (find has_place (enumerate_from (l.place + 1) (drop l.place l.list)))
    ≡ option_map (λ (one : ℕ × Endpoint). one.0) (find has_place (enumerate_from 1 l.list))
