use Rattle.std.proofs.Common.{◌∙◌, sym, arith}
use Rattle.connections.proofs.PlaceLemmas.{length-emptied}
use Rattle.connections.proofs.StandingLemmas.{emptied_up_to}
use Rattle.connections.proofs.connections.Connections.empty.Goals as goal

pub invariant_of-self : goal.invariant_of-self
invariant_of-self c =
    (rw c.loop-place.invariant.port c.self.invariant.0, rw c.loop-place.invariant.made (length-emptied _ c.self.inside.places ∙ c.self.invariant.1))

pub returns : goal.returns
returns c =
    let kept = c.loop-place.invariant in
    rw (sym c.self.view_is, kept.address, kept.port, kept.last)
    (emptied_up_to c.args.those _ c.loop-place.self-inside.places c.loop-place.place
    c.self.invariant.1 (omega (arith, c.loop-place-test.false, c.loop-place.auto.place-end)) kept.made)
