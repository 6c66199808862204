use Rattle.std.proofs.Common.{◌∙◌, map, sym, ap}
use Rattle.connections.specs.Standing.{Standing, is_emptied}
use Rattle.connections.proofs.StandingLemmas.{deletion_planned}
use Rattle.connections.proofs.connections.Connections.plan_deletion.Goals as goal

pub returns : goal.returns
returns c =
    rw (sym c.self.view_is)
    (deletion_planned c.args.deletion.now _ c.emptied.result (sym c.refused.ensures ∙ c.in_default.is)
    (c.emptied.ensures ∙ ap (λ (was : Standing). map (is_emptied c.args.deletion.now) was.places) (sym c.self.view_is)))
