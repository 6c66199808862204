-- The definitions opened, so that worked examples compute.
use Rattle.std.specs.Prelude.{⊤}
use Rattle.mgcp_text.proofs.Computing.{on_examples as text_examples}
use Rattle.connections.proofs.Computing.{on_examples as connection_examples}
use Rattle.mg_line.proofs.Computing.{on_examples as line_examples}
use Rattle.audits.specs.Fitting.{fitting}
use Rattle.audits.specs.Picking.{with_items}
use Rattle.audits.specs.EndpointReport.{ids_text, active_text, endpoint_report}
use Rattle.audits.specs.ConnectionReport.{descriptions_text, connection_report}

unfoldable pub on_examples : ⊤
unfolding text_examples connection_examples line_examples fitting with_items ids_text active_text endpoint_report descriptions_text connection_report
on_examples = tt
