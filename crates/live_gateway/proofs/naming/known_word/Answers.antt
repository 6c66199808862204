use Rattle.std.proofs.Common.{◌∙◌}
use Rattle.live_gateway.proofs.AdmittingLemmas.{names_all}
use Rattle.live_gateway.proofs.naming.known_word.Goals as goal

pub returns : goal.returns
returns c =
    names_all c.args.setup.now _ _ _ c.loop-host-test.false c.loop-host.invariant
    (c.as_slice-host-items.ensures.value ∙ c.in_ok-known.ensures)
