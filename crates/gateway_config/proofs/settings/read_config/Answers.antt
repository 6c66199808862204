use Rattle.std.proofs.Common.{ap, sym, ◌∙◌, ◌≡◌}
use Rattle.toml.specs.Parse.{parse_document}
use Rattle.toml.specs.View.{table_view}
use Rattle.rgw_scripts.specs.Configuration.{config_in, config_of}
use Rattle.gateway_config.proofs.ConfigLemmas.{config_in-other, config_in-document}
use Rattle.gateway_config.proofs.settings.read_config.Goals as goal

pub returns-in_default : goal.returns-in_default
returns-in_default c = config_in-other c.args.text.now c.in_default.ensures.cases.0

pub returns-in-Ok-table_from_str : goal.returns-in-Ok-table_from_str
returns-in-Ok-table_from_str c =
    let document = sym (ap parse_document c.in-Ok.ensures.cases.0) ∙ c.in-Ok-table_from_str.ensures.ok in
    let same : config_in c.args.text.now ≡ config_of (table_view c.in-Ok-table_from_str.table) =
    config_in-document c.args.text.now (table_view c.in-Ok-table_from_str.table) c.in-Ok.ensures.cases.1 document in
    rw same c.config_of.ensures
