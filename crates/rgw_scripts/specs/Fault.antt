-- The faults of a play: their numbers; and those of a configuration as the player tells them, the gateway's, and that it can't
-- be read.
use Rattle.std.specs.Prelude.{ℕ, ◌==◌, codes, List, [], ◌∷◌, find}
use Rattle.std.specs.Option.{option_map_or}
use Rattle.plain_machine.specs.declared.config.ConfigFault.{ConfigFault}
use Rattle.plain_machine.specs.declared.config.ConfigFault.TheVariants.{BadDomain, BadLines, BadAgent, BadWait, BadMedia}
use Rattle.plain_machine.specs.ConfigFault.{config_fault_number, config_fault_name}
use Rattle.rgw_scripts.specs.declared.played.PlayFault.{PlayFault}
use Rattle.rgw_scripts.specs.declared.played.PlayFault.TheVariants as play_faults
use Rattle.rgw_scripts.specs.declared.played.LinkFault.{LinkFault}
use Rattle.rgw_scripts.specs.declared.played.LinkFault.TheVariants as link_faults

-- a fault's number, from 1
abbrev pub play_fault_number : PlayFault → ℕ
play_fault_number play_faults.OutOfMemory = 1
play_fault_number play_faults.Read = 2
play_fault_number play_faults.Write = 3
play_fault_number (play_faults.Config number) = 4
play_fault_number (play_faults.Script line) = 5

-- over a network, whose own fault comes behind these
abbrev pub link_fault_number : {F : Type 0} → LinkFault F → ℕ
link_fault_number (link_faults.Play fault) = play_fault_number fault
link_fault_number (link_faults.Link fault) = 6

-- not TOML, or another key, or another kind of value
abbrev pub bad_toml : ℕ
bad_toml = 7

abbrev pub config_faults : List ConfigFault
config_faults = BadDomain ∷ BadLines ∷ BadAgent ∷ BadWait ∷ BadMedia ∷ []

-- the name of the fault with this number
abbrev pub name_of_config_fault : ℕ → List ℕ
name_of_config_fault number =
    option_map_or config_fault_name (find
    (λ fault. config_fault_number fault == number) config_faults) (codes "BadToml")
