use Rattle.std.proofs.Common.{◌≡◌, take}
use Rattle.audits.specs.EndpointReport.{ids_text}
use Rattle.audits.proofs.line_items.ids_text.Given as goal

abbrev pub invariant-loop-held : goal.invariant-loop-held
invariant-loop-held l = l.out.items ≡ ids_text (take l.held-index l.places)
