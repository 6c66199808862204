-- Which commands have an id.
use Rattle.std.specs.Prelude.{◌≤◌, ℕ}
use Rattle.plain_machine.specs.Posting.{id_on}
use Rattle.plain_machine.specs.Setup.{most_lines}

-- the command with this number has an id, be it a line's or that of the gateway itself, which is line 0: 0 is none
pub record HasId (line number : ℕ) : Type 0 where
  pub some : 1 ≤ id_on line number
  pub few : line ≤ most_lines
