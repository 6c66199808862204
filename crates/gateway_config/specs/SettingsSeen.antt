-- Settings, without where their texts lie.
use Rattle.gateway_config.specs.declared.settings.Settings.{Settings as SettingsRead}
use Rattle.toml.specs.View.{table_view}
use Rattle.rgw_scripts.specs.Configuration.{Settings}

abbrev pub settings_seen : SettingsRead → Settings
settings_seen settings = record {
  domain = settings.domain.now;
  lines = settings.lines;
  agent = settings.agent.now;
  restart_wait = settings.restart_wait;
  disconnected_wait = settings.disconnected_wait;
  media_address = settings.media_address;
  media_base = settings.media_base;
  hosts = table_view settings.hosts.now;
}
