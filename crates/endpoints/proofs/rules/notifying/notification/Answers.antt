use Rattle.std.proofs.Common.{refl, ◌∙◌, arith}
use Rattle.endpoints.proofs.TellLemmas.{notification_writable}
use Rattle.endpoints.proofs.rules.notifying.notification.Goals as goal

pub returns-clause-writable : goal.returns-clause-writable
returns-clause-writable c =
    rw c.of.ensures (notification_writable c.args.context.setup.now _ c.args.line _ _ (omega arith) (omega arith) c.requires.domain (omega (arith, c.ranges.line.fits)) (c.owned.ensures ∙ c.in_ok-name.ensures ∙ rw c.as_bytes-domain.ensures refl) c.in_ok-notice_params.ensures.writable)
