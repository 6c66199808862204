-- When a line may write, and which lines there are.
use Rattle.std.specs.Prelude.{◌≡◌, ◌<◌, ◌≤◌, ◌^◌, ℕ, true}
use Rattle.endpoint_names.specs.Table.{is_domain}
use Rattle.plain_machine.specs.declared.setup.Setup.{Setup}
use Rattle.plain_machine.specs.Setup.{most_lines}

-- a gateway may write, and it is this moment
pub record MayTell (setup : Setup) (moment : ℕ) : Type 0 where
  pub domain : is_domain setup.names.domain ≡ true
  pub early : moment < 2 ^ 62

-- the number of a line that a gateway may have
pub record IsLine (line : ℕ) : Type 0 where
  pub some : 1 ≤ line
  pub few : line ≤ most_lines
