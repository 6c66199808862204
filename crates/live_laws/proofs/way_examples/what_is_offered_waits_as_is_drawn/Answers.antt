use Rattle.std.proofs.Common.{ap, ◌∙◌}
use Rattle.impairment.specs.declared.draws.Generators.{Generators}
use Rattle.impairment.specs.declared.fate.Fate.TheVariants.{Lost, Once, Twice}
use Rattle.live_laws.proofs.WayExampleLemmas.{copies_wait, lost_in_part, one_in_part}
use Rattle.live_laws.proofs.way_examples.what_is_offered_waits_as_is_drawn.Goals as goal

pub returns-clause-drawn : goal.returns-clause-drawn
returns-clause-drawn c = λ fate was is offers. offers.fate

pub returns-clause-lost : goal.returns-clause-lost
returns-clause-lost c = λ was is draws offers. offers.wait ∙ copies_wait was Lost was.waiting.items draws

pub returns-clause-once : goal.returns-clause-once
returns-clause-once c = λ was is draws offers. offers.wait ∙ copies_wait was (Once 10) was.waiting.items draws

pub returns-clause-twice : goal.returns-clause-twice
returns-clause-twice c = λ was is draws offers. offers.wait ∙ copies_wait was (Twice 10 3) was.waiting.items draws

pub returns-clause-lost_for_memory : goal.returns-clause-lost_for_memory
returns-clause-lost_for_memory c = lost_in_part

pub returns-clause-once_for_memory : goal.returns-clause-once_for_memory
returns-clause-once_for_memory c = one_in_part

pub returns-clause-draws : goal.returns-clause-draws
returns-clause-draws c = λ became was is offers. (
  ap (λ (generators : Generators). generators.incoming) offers.draws,
  ap (λ (generators : Generators). generators.outgoing) offers.draws,
  offers.spoiling,
)
