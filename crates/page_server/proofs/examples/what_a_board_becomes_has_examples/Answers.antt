use Rattle.std.proofs.Common.{[], ◌∷◌, ◌++◌, refl}
use Rattle.page_server.specs.Visiting.{AnsweredAt}
use Rattle.page_server.proofs.VisitLemmas.{chain_on, none_asked}
use Rattle.page_server.proofs.examples.what_a_board_becomes_has_examples.Goals as goal

pub returns-clause-none : goal.returns-clause-none
returns-clause-none c = none_asked

pub returns-clause-one : goal.returns-clause-one
returns-clause-one c = λ site names board shown request response answered. ((request, response) ∷ [], (shown, answered, refl))

pub returns-clause-behind : goal.returns-clause-behind
returns-clause-behind c = λ site names board between shown first second.
    (first.0 ++ second.0, chain_on (AnsweredAt site names) first.0 second.0 board between shown first.1 second.1)

pub returns-clause-by_calls : goal.returns-clause-by_calls
returns-clause-by_calls c = λ site names board shown answers. answers
