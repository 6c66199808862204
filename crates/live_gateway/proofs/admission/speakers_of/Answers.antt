use Rattle.std.proofs.Common.{◌∙◌}
use Rattle.live_gateway.proofs.AdmittingLemmas.{admits_all}
use Rattle.live_gateway.proofs.admission.speakers_of.Goals as goal

pub returns : goal.returns
returns c =
    admits_all c.args.setup.now _ _ _ c.loop-host-test.false c.loop-host.invariant
    (c.as_slice-host-items.ensures.value ∙ c.in_ok-known.ensures)
