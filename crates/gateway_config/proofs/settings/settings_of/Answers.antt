use Rattle.std.proofs.Common.{ap, ◌∙◌}
use Rattle.std.specs.Prelude.{option_map}
use Rattle.gateway_config.specs.SettingsSeen.{settings_seen}
use Rattle.gateway_config.proofs.SettingsLemmas.{lacks_domain, lacks_lines, lacks_agent, lacks_restart_wait, lacks_disconnected_wait, lacks_media_address, lacks_media_base, lacks_hosts, has_all}
use Rattle.gateway_config.proofs.settings.settings_of.Goals as goal

pub returns-in_err-text_at : goal.returns-in_err-text_at
returns-in_err-text_at c =
    ap (option_map settings_seen) c.from_residual.ensures
    ∙ lacks_domain _ c.in_err-text_at.ensures

pub returns-in_err-number_at : goal.returns-in_err-number_at
returns-in_err-number_at c =
    ap (option_map settings_seen) c.from_residual-in_err-number_at.ensures
    ∙ lacks_lines _ _ c.in_ok-text_at.ensures c.in_err-number_at.ensures

pub returns-in_err-text_at-2 : goal.returns-in_err-text_at-2
returns-in_err-text_at-2 c =
    ap (option_map settings_seen) c.from_residual-in_err-text_at-2.ensures
    ∙ lacks_agent _ _ _ c.in_ok-text_at.ensures c.in_ok-number_at.ensures c.in_err-text_at-2.ensures

pub returns-in_err-number_at-2 : goal.returns-in_err-number_at-2
returns-in_err-number_at-2 c =
    ap (option_map settings_seen) c.from_residual-in_err-number_at-2.ensures
    ∙ lacks_restart_wait _ _ _ _ c.in_ok-text_at.ensures c.in_ok-number_at.ensures c.in_ok-text_at-2.ensures c.in_err-number_at-2.ensures

pub returns-in_err-number_at-3 : goal.returns-in_err-number_at-3
returns-in_err-number_at-3 c =
    ap (option_map settings_seen) c.from_residual-in_err-number_at-3.ensures
    ∙ lacks_disconnected_wait _ _ _ _ _ c.in_ok-text_at.ensures c.in_ok-number_at.ensures c.in_ok-text_at-2.ensures c.in_ok-number_at-2.ensures c.in_err-number_at-3.ensures

pub returns-in_err-address_at : goal.returns-in_err-address_at
returns-in_err-address_at c =
    ap (option_map settings_seen) c.from_residual-in_err-address_at.ensures
    ∙ lacks_media_address _ _ _ _ _ _ c.in_ok-text_at.ensures c.in_ok-number_at.ensures c.in_ok-text_at-2.ensures c.in_ok-number_at-2.ensures c.in_ok-number_at-3.ensures c.in_err-address_at.ensures

pub returns-in_err-number_at-4 : goal.returns-in_err-number_at-4
returns-in_err-number_at-4 c =
    ap (option_map settings_seen) c.from_residual-in_err-number_at-4.ensures
    ∙ lacks_media_base _ _ _ _ _ _ _ c.in_ok-text_at.ensures c.in_ok-number_at.ensures c.in_ok-text_at-2.ensures c.in_ok-number_at-2.ensures c.in_ok-number_at-3.ensures c.in_ok-address_at.ensures c.in_err-number_at-4.ensures

pub returns-in_err-names_at : goal.returns-in_err-names_at
returns-in_err-names_at c =
    ap (option_map settings_seen) c.from_residual-in_err-names_at.ensures
    ∙ lacks_hosts _ _ _ _ _ _ _ _ c.in_ok-text_at.ensures c.in_ok-number_at.ensures c.in_ok-text_at-2.ensures c.in_ok-number_at-2.ensures c.in_ok-number_at-3.ensures c.in_ok-address_at.ensures c.in_ok-number_at-4.ensures c.in_err-names_at.ensures

pub returns : goal.returns
returns c = has_all _ _ _ _ _ _ _ _ _ c.in_ok-text_at.ensures c.in_ok-number_at.ensures c.in_ok-text_at-2.ensures c.in_ok-number_at-2.ensures c.in_ok-number_at-3.ensures c.in_ok-address_at.ensures c.in_ok-number_at-4.ensures c.in_ok-names_at.ensures
