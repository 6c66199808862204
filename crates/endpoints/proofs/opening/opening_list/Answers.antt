use Rattle.endpoints.proofs.SetupLemmas.{list_more}
use Rattle.endpoints.proofs.opening.opening_list.Goals as goal

pub loop-place-preserved : goal.loop-place-preserved
loop-place-preserved c =
    list_more c.args.setup.now c.loop-place.place c.loop-place.list.items _ c.in_ok-opening_endpoint.field-0 c.loop-place.invariant c.in_ok-opening_endpoint.ensures
    c.in_ok-push.ensures.items
