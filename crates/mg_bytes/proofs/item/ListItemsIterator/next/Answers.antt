use Rattle.std.proofs.Common.{◌≡◌, ◌∷◌, [], length, ap, sym, ◌∙◌, arith}
use Rattle.mg_bytes.specs.Items.{items_left, items_of}
use Rattle.mg_bytes.proofs.ItemLemmas.{items_more, items_last}
use Rattle.mg_bytes.proofs.item.ListItemsIterator.next.Goals as goal
use Rattle.mg_bytes.proofs.item.ListItemsIterator.next.Goals.{After-trimmed, After-trimmed-in-None}

more : (c : After-trimmed) → c.args.self.now ≡ c.trimmed.result.now ∷ items_of c.in-Some.rest.now
more c =
    sym c.self.view_is ∙ ap items_left c.in_ok-text.was
    ∙ rw c.trimmed.ensures (items_more c.in_ok-text.text.now c.in-Some.item.now c.in-Some.rest.now c.in-Some.ensures)

last : (c : After-trimmed-in-None) → c.args.self.now ≡ c.trimmed-in-None.result.now ∷ []
last c = sym c.self.view_is ∙ ap items_left c.in_ok-text.was ∙ rw c.trimmed-in-None.ensures (items_last c.in_ok-text.text.now c.in-None.ensures)

pub returns-in-Some-clause-steps : goal.returns-in-Some-clause-steps
returns-in-Some-clause-steps c = more c

pub returns-in-Some-clause-goes : goal.returns-in-Some-clause-goes
returns-in-Some-clause-goes c = record { on = λ _. (tt, tt, omega (arith, ap length (more c))); keeps = tt; rests = λ _. tt }

pub returns-in-None-clause-steps : goal.returns-in-None-clause-steps
returns-in-None-clause-steps c = last c

pub returns-in-None-clause-goes : goal.returns-in-None-clause-goes
returns-in-None-clause-goes c = record { on = λ _. (tt, tt, omega (arith, ap length (last c))); keeps = tt; rests = λ _. tt }
