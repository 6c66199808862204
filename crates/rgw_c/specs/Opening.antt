-- What a handle holds that is opened, and why there is nothing to hold.
use Rattle.std.specs.Prelude.{◌≡◌, ◌<◌, ℕ, nat_lt, nat_le, if◌then◌else◌, List, [], length, Option, Some, None, Result, Err}
use Rattle.gateway_core.specs.Stands.{Stands}
use Rattle.rgw_scripts.specs.declared.step.ScriptStep.{ScriptStep}
use Rattle.rgw_scripts.specs.declared.played.PlayFault.TheVariants.{Config}
use Rattle.rgw_scripts.specs.Configuration.{config_in}
use Rattle.plain_machine.specs.Setup.{firsts}
use Rattle.rgw_scripts.specs.Play.{scene_of, configured_from, largest_input}
use Rattle.gateway_config.specs.declared.flaw.Flaw.{Flaw}
use Rattle.gateway_config.specs.Wording.{Tells}
use Rattle.rgw_c.specs.declared.instance.Instance.{Instance}
use Rattle.rgw_c.specs.declared.numbers.TheConstants.{TOO_LONG, IS_OPEN, BAD_FIRST}
use Rattle.rgw_c.specs.Numbers.{config_fault_in}

-- a gateway of the configuration in this text, whose ids begin with this number, to which nothing came and which sent nothing
pub record Opened (text : List ℕ) (first : ℕ) (is : Instance) : Type 0 where
  pub configured : (steps : Result (List ScriptStep) ℕ) → configured_from first (config_in text) steps ≡ scene_of is.gateway.setup steps
  pub stands : Stands is.gateway []
  pub outputs : is.outputs ≡ []

-- where the number is that of a fault of a configuration, the text has that fault
abbrev pub Explained : List ℕ → ℕ → ℕ → Type 0
Explained text first number = (fault : ℕ) → config_fault_in number ≡ Some fault →
    (steps : Result (List ScriptStep) ℕ) → configured_from first (config_in text) steps ≡ Err (Config fault)

-- why nothing is opened, before a text is read: something is open, no ids begin so, or the text is too long
abbrev pub unread_number : Option Instance → List ℕ → ℕ → Option ℕ
unread_number (Some is) text first = Some IS_OPEN
unread_number None text first =
    if nat_le firsts first then Some BAD_FIRST else (if nat_lt largest_input (length text) then Some TOO_LONG else None)

-- a line tells this flaw of the text, and there is too little room for it
pub record WantsRoom (text : List ℕ) (flaw : Flaw) (room needed : ℕ) : Type 0 where
  pub line : List ℕ
  pub told : Tells text flaw line
  pub long : needed ≡ length line
  pub small : room < needed
