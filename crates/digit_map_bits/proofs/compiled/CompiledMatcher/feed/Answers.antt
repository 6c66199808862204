use Rattle.std.proofs.Common.{ap, ◌∙◌}
use Rattle.digit_map_bits.specs.Places.{Marking}
use Rattle.digit_map_bits.proofs.CompiledLaws.{told_words, told_value, told_verdict}
use Rattle.digit_map_bits.proofs.compiled.CompiledMatcher.feed.Goals as goal

pub returns-clause-after : goal.returns-clause-after
returns-clause-after c = λ map letters after. (
  ap (λ (m : Marking). m.map) c.self.view_is ∙ after.0,
  told_words _ _ _ _ _ _ _ c.self.invariant.blocks_are (ap (λ (m : Marking). m.map) c.self.view_is ∙ after.0) (ap (λ (m : Marking). m.words) c.self.view_is ∙ after.1)
      (rw c.deref.ensures at c.lead.ensures.words),
)

pub returns-clause-value : goal.returns-clause-value
returns-clause-value c = λ map letters after.
    told_value _ _ _ _ _ _ _ c.self.invariant.blocks_are (ap (λ (m : Marking). m.map) c.self.view_is ∙ after.0) (ap (λ (m : Marking). m.words) c.self.view_is ∙ after.1)
    (rw c.deref.ensures at c.lead.ensures.verdict)

pub returns-clause-verdict : goal.returns-clause-verdict
returns-clause-verdict c = λ map letters after.
    told_verdict _ _ _ _ _ _ _ c.self.invariant.spelled c.self.invariant.blocks_are (ap (λ (m : Marking). m.map) c.self.view_is ∙ after.0)
    (ap (λ (m : Marking). m.words) c.self.view_is ∙ after.1)
    (rw c.deref.ensures at c.lead.ensures.verdict)
