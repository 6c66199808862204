-- The acts at a telephone, as C numbers them: three of the hook, and each key by its sign.
use Rattle.std.specs.Prelude.{ℕ, ◌==◌, if◌then◌else◌, Option, Some, option_map}
use Rattle.mg_line.specs.declared.phone.Act.{Act}
use Rattle.mg_line.specs.declared.phone.Act.TheVariants as acts
use Rattle.rgw_scripts.specs.Script.{key_with}

abbrev pub act_in : ℕ → Option Act
act_in number =
    if number == 1 then Some acts.OffHook else
    (if number == 2 then Some acts.OnHook else
    (if number == 3 then Some acts.Flash else option_map acts.Key (key_with number)))
