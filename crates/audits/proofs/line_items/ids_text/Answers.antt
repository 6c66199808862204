use Rattle.std.proofs.Common.{ap, ◌∙◌}
use Rattle.audits.specs.EndpointReport.{ids_text}
use Rattle.audits.specs.Writing.{with_id}
use Rattle.audits.proofs.IdLemmas.{id_next}
use Rattle.audits.proofs.line_items.ids_text.Goals as goal

pub loop-held-init : goal.loop-held-init
unfolding ids_text
loop-held-init c = c.new-out.ensures.items

pub loop-held-preserved : goal.loop-held-preserved
loop-held-preserved c =
    id_next c.args.places.now c.loop-held.held-index c.held-item.result c.loop-held.out.items c.put_id.new.out.items c.loop-held-test.true
    c.loop-held.invariant (c.in_ok-put_id.ensures ∙ ap (with_id c.loop-held.out.items) c.held-item.is)
