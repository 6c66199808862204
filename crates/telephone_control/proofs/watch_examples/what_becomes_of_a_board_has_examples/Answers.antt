use Rattle.std.proofs.Common.{◌≡◌, ◌≢◌, List, [], ◌∷◌, drop, sym, ap, ◌∙◌}
use Rattle.page_state.specs.MetricsShowing.{LineShown, lines_of}
use Rattle.page_state.specs.Sums.{next_number}
use Rattle.page_state.specs.declared.act.QueuedAct.{QueuedAct}
use Rattle.page_state.specs.BoardShowing.{BoardState}
use Rattle.telephone_control.proofs.watch_examples.what_becomes_of_a_board_has_examples.Goals as goal

pub returns-clause-none : goal.returns-clause-none
returns-clause-none c = λ is takes. takes

pub returns-clause-stays : goal.returns-clause-stays
returns-clause-stays c = λ was takes. takes

pub returns-clause-shown : goal.returns-clause-shown
returns-clause-shown c = λ was is takes.
    (ap (λ (b : BoardState). b.picture) takes, ap (λ (b : BoardState). b.version) takes, ap (λ (b : BoardState). b.ring) takes)

pub returns-clause-oldest : goal.returns-clause-oldest
returns-clause-oldest c = λ was is one other acts takes.
    ap (λ (b : BoardState). b.acts) takes ∙ ap (λ (l : List QueuedAct). drop 1 l) acts

pub returns-clause-same : goal.returns-clause-same
returns-clause-same c = λ was is shows none still. shows.same (none ∙ sym still)

differ : (was is : BoardState) (line : LineShown) → lines_of was.picture ≡ [] → lines_of is.picture ≡ line ∷ []
    → lines_of was.picture ≢ lines_of is.picture
differ was is line none some same = absurd cc

pub returns-clause-changed : goal.returns-clause-changed
returns-clause-changed c = λ was is line shows seven none some. shows.changed (differ was is line none some) ∙ ap next_number seven
