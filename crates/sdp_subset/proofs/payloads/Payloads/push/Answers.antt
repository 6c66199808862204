use Rattle.std.proofs.Common.{sym, ap, arith, length, ◌∙◌}
use Rattle.sdp_subset.proofs.PayloadLemmas.{payloads_more}
use Rattle.sdp_subset.proofs.payloads.Payloads.push.Goals as goal

pub invariant_of-self : goal.invariant_of-self
invariant_of-self c =
    rw c.push.ensures
    (payloads_more c.self.inside.list c.args.payload c.self.invariant (omega (arith, ap length c.as_slice.ensures.value))
    (sym c.is_payload.ensures ∙ c.if-not-is_payload.false))
