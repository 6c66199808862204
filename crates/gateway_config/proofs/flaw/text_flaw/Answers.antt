use Rattle.std.proofs.Common.{ap, sym, ◌∙◌, ◌≡◌}
use Rattle.toml.specs.Parse.{parse_document}
use Rattle.toml.specs.View.{table_view}
use Rattle.gateway_config.specs.Flaws.{flaw_in, text_flaw}
use Rattle.gateway_config.proofs.FlawLemmas.{text-other, text-document}
use Rattle.gateway_config.proofs.flaw.text_flaw.Goals as goal

pub returns-in_default : goal.returns-in_default
returns-in_default c = sym (text-other c.args.text.now c.in_default.ensures.cases.0)

pub returns-in-Ok-table_from_str : goal.returns-in-Ok-table_from_str
returns-in-Ok-table_from_str c =
    let document = sym (ap parse_document c.in-Ok.ensures.cases.0) ∙ c.in-Ok-table_from_str.ensures.ok in
    let same : text_flaw c.args.text.now ≡ flaw_in (table_view c.in-Ok-table_from_str.table) =
    text-document c.args.text.now (table_view c.in-Ok-table_from_str.table) c.in-Ok.ensures.cases.1 document in
    rw same c.flaw_in.ensures
