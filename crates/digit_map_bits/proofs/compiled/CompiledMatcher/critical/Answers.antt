use Rattle.std.proofs.Common.{ap, ◌∙◌}
use Rattle.digit_map_bits.specs.Places.{Marking}
use Rattle.digit_map_bits.proofs.CompiledLaws.{told_critical, told_is_critical}
use Rattle.digit_map_bits.proofs.compiled.CompiledMatcher.critical.Goals as goal

pub returns-clause-value : goal.returns-clause-value
returns-clause-value c = λ map letters after.
    told_critical _ _ _ _ _ _ c.self.invariant.blocks_are (ap (λ (m : Marking). m.map) c.self.view_is ∙ after.0) (ap (λ (m : Marking). m.words) c.self.view_is ∙ after.1)
    (rw (c.deref.ensures, c.deref-2.ensures.value) at c.ends_by.ensures)

pub returns-clause-critical : goal.returns-clause-critical
returns-clause-critical c = λ map letters after.
    told_is_critical _ _ _ _ _ _ c.self.invariant.blocks_are (ap (λ (m : Marking). m.map) c.self.view_is ∙ after.0) (ap (λ (m : Marking). m.words) c.self.view_is ∙ after.1)
    (rw (c.deref.ensures, c.deref-2.ensures.value) at c.ends_by.ensures)
