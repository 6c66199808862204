use Rattle.std.proofs.Common.{◌≡◌, ◌<◌, ℕ, [], ◌∷◌, length, refl, sym, subst, arith}
use Rattle.plain_machine.specs.Example.{two_lines}
use Rattle.world_laws.specs.Reached.{own_in}
use Rattle.world_laws.proofs.AskingLemmas.{notifies_each}
use Rattle.world_laws.specs.OnceExample.{lifted, five}
use Rattle.world_laws.specs.DialledExample.{answered, done_then, left_then, told_then, untaken_then, world}
use Rattle.world_laws.proofs.PairedWorlds.{few_are_begun}
use Rattle.world_laws.proofs.Computing.{on_examples}
use Rattle.world_laws.proofs.dialled_examples.all_that_the_law_asks_for_may_hold.Goals as goal

-- the gateway announced itself, and two events were notified
three : length (own_in two_lines (world answered)) ≡ 3
unfolding on_examples
three = refl

pub returns-clause-numbers : goal.returns-clause-numbers
returns-clause-numbers c =
    few_are_begun (own_in two_lines (world answered)) (subst (λ (n : ℕ). n < 9999999) (sym three) (omega arith))

pub returns-clause-asked : goal.returns-clause-asked
unfolding on_examples
returns-clause-asked c =
    record { undone = refl; asked = record { requested = notifies_each _ refl refl; quarantined = refl }; since = tt; none_lost = refl }

-- computed at once, which the search would do slowly

pub returns-clause-events : goal.returns-clause-events
unfolding on_examples
returns-clause-events c = refl

pub returns-clause-line : goal.returns-clause-line
unfolding on_examples
returns-clause-line c = refl

done : done_then answered ≡ lifted ∷ five ∷ []
unfolding on_examples
done = refl

told : told_then answered ≡ lifted ∷ []
unfolding on_examples
told = refl

sent : untaken_then answered ≡ five ∷ []
unfolding on_examples
sent = refl

left : left_then answered ≡ []
unfolding on_examples
left = refl

pub returns-clause-whole : goal.returns-clause-whole
returns-clause-whole c = rw (done, told, sent, left) refl
