use Rattle.std.proofs.Common.{[], ◌∷◌, inl, refl}
use Rattle.world_laws.specs.OnceExample.{five, lifted, six}
use Rattle.told_laws.specs.Walking.{no_more}
use Rattle.told_laws.proofs.Computing.{on_examples}
use Rattle.told_laws.proofs.examples.keys_are_told_together.Goals as goal

pub returns-clause-walk : goal.returns-clause-walk
unfolding on_examples
returns-clause-walk c =
    (_, _, no_more _ _, ([], [], refl, refl, λ is. refl, (_, _, no_more _ _, (_, _, no_more _ _, (lifted ∷ [], [], refl, (refl, refl), (_, _, no_more _ _, (_, _, no_more _ _, (_, _, no_more _ _, (five ∷ six ∷ [], [], refl, (refl, refl), (_, _, no_more _ _, ([], [], refl, refl, refl, refl, record { requests = refl; in_step = refl; is_shut = inl refl })))))))))))
