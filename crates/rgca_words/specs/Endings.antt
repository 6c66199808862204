-- How the program ends by a configuration that is refused.
use Rattle.agent_config.specs.declared.config_fault.ConfigRefusal.{ConfigRefusal}
use Rattle.agent_config.specs.declared.config_fault.ConfigRefusal.TheVariants as refusals
use Rattle.live_system.specs.declared.ending.CommonEnding.TheVariants as endings
use Rattle.rgca_words.specs.declared.ending.Ending.{Ending}
use Rattle.rgca_words.specs.declared.ending.Ending.TheVariants.{Common, Config}

abbrev pub config_by : ConfigRefusal → Ending
config_by refusals.OutOfMemory = Common endings.OutOfMemory
config_by (refusals.Told line) = Config line
