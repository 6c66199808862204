use Rattle.std.proofs.Common.{List, ap, sym, ◌∙◌}
use Rattle.transmission.specs.declared.entry.Entry.TheVariants.{Confirmation}
use Rattle.transmission.specs.declared.span.IdSpan.{IdSpan}
use Rattle.transmission.proofs.SpotLaws.{taken_first, taken_confirmation}
use Rattle.transmission.proofs.spots.settle_one.Goals as goal

pub returns-in-First-clause-index : goal.returns-in-First-clause-index
returns-in-First-clause-index c = λ id.
    taken_first c.args.entries.now c.args.place c.index-entries-place.result c.in-First.first id c.requires.inside c.index-entries-place.is c.in-First.is
    _ _ (c.requires.index id) (c.put_first.ensures.index.0 id)

pub returns-in-Confirmation-clause-index : goal.returns-in-Confirmation-clause-index
returns-in-Confirmation-clause-index c = λ id.
    taken_confirmation c.args.entries.now c.args.place c.index-entries-place.result c.as_slice.result.now id c.requires.inside c.index-entries-place.is
    (c.in-Confirmation.is ∙ ap (λ (spans : List IdSpan). Confirmation spans) (sym c.as_slice.ensures))
    _ _ (c.requires.index id) (c.mark_named.ensures.marked id)
