use Rattle.std.proofs.Common.{rules}
use Rattle.transmission.specs.Spots.{cut_by}
use Rattle.transmission.proofs.MarkLaws.{lookup-retained}
use Rattle.transmission.proofs.spots.cut.Goals as goal

pub returns-clause-index : goal.returns-clause-index
returns-clause-index c = λ key.
    lookup-retained _ (λ id spot. cut_by c.args.gone spot) _ (λ k v b w g call. search rules) key _ _ c.retain.ensures.filtered c.len-len.ensures.unique
