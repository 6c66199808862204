use Rattle.std.proofs.Common.{◌≡◌, List, [], ◌∷◌, length, refl, ◌∙◌, ap, suc}
use Rattle.toml.specs.View.{members_view}
use Rattle.toml.proofs.Views.{Entry}
use Rattle.rgw_scripts.specs.Configuration.{count_of}
use Rattle.gateway_config.proofs.settings.key_count.Goals as goal

counted : (es : List Entry) → length es ≡ count_of (members_view es)
counted [] = refl
counted (e ∷ es) = ap suc (counted es)

pub returns : goal.returns
returns c = c.len.ensures.len ∙ counted c.args.table.now.entries
