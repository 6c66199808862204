use Rattle.std.proofs.Common.{Some, rules, ◌∙◌}
use Rattle.transmission.specs.Span.{is_named}
use Rattle.transmission.specs.Spots.{marked_if}
use Rattle.transmission.proofs.MarkLaws.{lookup-retained, lookup-marked}
use Rattle.transmission.proofs.spots.mark_by_spots.Goals as goal

pub returns-clause-marked : goal.returns-clause-marked
returns-clause-marked c = λ key.
    lookup-retained _ (λ id spot. Some (marked_if (is_named id c.args.spans.now) spot)) _ (λ k v b w g call. search rules) key _ _ c.retain.ensures.filtered c.len-len.ensures.unique
    ∙ lookup-marked (λ id. is_named id c.args.spans.now) key _
