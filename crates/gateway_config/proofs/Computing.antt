-- The definitions opened, so that worked examples compute.
use Rattle.std.specs.Prelude.{⊤}
use Rattle.rgw_scripts.proofs.Computing.{on_examples as script_examples}
use Rattle.log_format.specs.Escaping.{shown}
use Rattle.log_format.specs.Grouping.{grouped}
use Rattle.gateway_config.specs.Flaws.{other_key, missing_key, flaw_in}
use Rattle.gateway_config.specs.NamesWording.{unread_host, refused_host}

unfoldable pub on_examples : ⊤
unfolding script_examples shown grouped other_key missing_key flaw_in unread_host refused_host
on_examples = tt
