-- What a play writes, and when an input is refused.
use Rattle.std.specs.Prelude.{◌≡◌, ℕ, nat_lt, count_by, if◌then◌else◌, ⊤, List, [], length, Option, Some, None, Result, Ok, Err, IsOk}
use Rattle.std.specs.List.{flat_map}
use Rattle.std.specs.Io.KnownBytes.{Appends}
use Rattle.plain_machine.specs.declared.config.Config.{Config}
use Rattle.plain_machine.specs.declared.config.ConfigFault.{ConfigFault}
use Rattle.plain_machine.specs.ConfigFault.{config_fault_number}
use Rattle.plain_machine.specs.declared.setup.Setup.{Setup}
use Rattle.plain_machine.specs.Setup.{setup_from, setup_of}
use Rattle.rgw_scripts.specs.declared.played.PlayFault.{PlayFault}
use Rattle.rgw_scripts.specs.declared.played.PlayFault.TheVariants as play_fault
use Rattle.rgw_scripts.specs.declared.played.LinkFault.{LinkFault}
use Rattle.rgw_scripts.specs.declared.played.LinkFault.TheVariants as link_fault
use Rattle.rgw_scripts.specs.declared.step.ScriptStep.{ScriptStep}
use Rattle.rgw_scripts.specs.Input.{config_text, script_lines}
use Rattle.rgw_scripts.specs.Configuration.{config_in}
use Rattle.rgw_scripts.specs.Script.{steps_of}
use Rattle.rgw_scripts.specs.Fault.{bad_toml}
use Rattle.rgw_scripts.specs.Moves.{Shown, all_moves, went, printed, is_refused}

-- The input

-- what there is to play: a gateway's setup, and steps
pub record Scene : Type 0 where
  pub setup : Setup
  pub steps : List ScriptStep

abbrev pub scene_of : Setup → Result (List ScriptStep) ℕ → Result Scene PlayFault
scene_of setup (Ok steps) = Ok (record { setup = setup; steps = steps })
scene_of setup (Err line) = Err (play_fault.Script line)

abbrev pub scene_in : Result Setup ConfigFault → Result (List ScriptStep) ℕ → Result Scene PlayFault
scene_in (Ok setup) steps = scene_of setup steps
scene_in (Err fault) steps = Err (play_fault.Config (config_fault_number fault))

abbrev pub configured : Option Config → Result (List ScriptStep) ℕ → Result Scene PlayFault
configured None steps = Err (play_fault.Config bad_toml)
configured (Some config) steps = scene_in (setup_of config) steps

-- the same where ids begin with this number
abbrev pub configured_from : ℕ → Option Config → Result (List ScriptStep) ℕ → Result Scene PlayFault
configured_from first None steps = Err (play_fault.Config bad_toml)
configured_from first (Some config) steps = scene_in (setup_from config first) steps

-- how many bytes of input are taken
abbrev pub largest_input : ℕ
largest_input = 1048576

-- the scene of an input, or its first fault: it is too long, its configuration is refused, or a line of its script
unfoldable pub judged : List ℕ → Result Scene PlayFault
judged input =
    if nat_lt largest_input (length input) then Err (play_fault.Script 0)
    else configured (config_in (config_text input)) (steps_of (script_lines input))

-- What a play does

-- what the steps of a scene show, from the opening on
abbrev pub shown : Scene → List Shown
shown scene = (went scene.setup [] (all_moves scene.steps)).shown

-- the scene's output is what the writer gains, and the counts are its steps and the lines of refusals
pub record Plays (scene : Scene) (commands refused : ℕ) (before after : Option (List ℕ)) : Type 0 where
  pub output : Appends before after (flat_map printed (shown scene))
  pub all_steps : commands ≡ length scene.steps
  pub all_refused : refused ≡ count_by is_refused (shown scene)

-- the input can be played, and was
abbrev pub PlaysInto : Result Scene PlayFault → ℕ → ℕ → Option (List ℕ) → Option (List ℕ) → Type 0
PlaysInto (Ok scene) commands refused before after = Plays scene commands refused before after
PlaysInto (Err fault) commands refused before after = ⊥

-- the fault is the input's, and a write fails only where there is none; of a failed read and of memory nothing is said
abbrev pub Explains : PlayFault → Result Scene PlayFault → Type 0
Explains play_fault.OutOfMemory scene = ⊤
Explains play_fault.Read scene = ⊤
Explains play_fault.Write scene = IsOk scene
Explains (play_fault.Config number) scene = scene ≡ Err (play_fault.Config number)
Explains (play_fault.Script line) scene = scene ≡ Err (play_fault.Script line)

-- as without a network; and the network fails only where there is something to play
abbrev pub ExplainsLink : {F : Type 0} → LinkFault F → Result Scene PlayFault → Type 0
ExplainsLink (link_fault.Play fault) scene = Explains fault scene
ExplainsLink (link_fault.Link fault) scene = IsOk scene
