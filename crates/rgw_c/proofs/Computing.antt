-- The definitions opened, so that worked examples compute.
use Rattle.std.specs.Prelude.{⊤}
use Rattle.rgw_scripts.specs.Script.{key_with}

unfoldable pub on_examples : ⊤
unfolding key_with
on_examples = tt
