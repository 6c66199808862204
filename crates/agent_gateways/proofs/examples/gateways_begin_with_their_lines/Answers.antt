use Rattle.std.proofs.Common.{ℕ, ◌+◌, List, [], ◌∷◌, length, ap, subst, ◌∙◌}
use Rattle.std.proofs.lemmas.List.Elements.{All-head}
use Rattle.std.specs.Prelude.{min, All}
use Rattle.endpoint_names.specs.RouteExample.{agent_at}
use Rattle.agent_gateways.specs.Opening.{begins_as, greatest_line, lines_of, StandsNew}
use Rattle.agent_gateways.proofs.examples.gateways_begin_with_their_lines.Goals as goal

pub returns-clause-most_lines : goal.returns-clause-most_lines
returns-clause-most_lines c = λ numbers many. ap (λ (count : ℕ). min count greatest_line) many

pub returns-clause-next : goal.returns-clause-next
returns-clause-next c = λ one other two none.
    ap
    (λ (numbers : List (List ℕ)).
    begins_as 525600000 (agent_at 1) 3 one.address one.domain (lines_of numbers)
    ∷ begins_as 525600000 (agent_at 1) (3 + length numbers) other.address other.domain (lines_of other.numbers.items) ∷ []) two
    ∙ ap
    (λ (numbers : List (List ℕ)).
    begins_as 525600000 (agent_at 1) 3 one.address one.domain 2
    ∷ begins_as 525600000 (agent_at 1) 5 other.address other.domain (lines_of numbers) ∷ []) none

pub returns-clause-of_a_board : goal.returns-clause-of_a_board
returns-clause-of_a_board c = λ config board of. of.0

pub returns-clause-stands : goal.returns-clause-stands
returns-clause-stands c = λ config board gateway of one. All-head StandsNew gateway [] (subst (All StandsNew) one of.3)
