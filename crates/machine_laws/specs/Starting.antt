-- With which number a gateway starts that takes it from the time of day, and how fast it may begin commands, so that an id that a
-- later start begins too doesn't come too soon (this program's profile; RFC 3435, 3.2.1.2).
use Rattle.std.specs.Prelude.{ℕ, ◌+◌, ◌-◌, ◌/◌, ◌<◌, ◌≤◌}
use Rattle.small_rules.specs.Numbering.{first_at}
use Rattle.plain_machine.specs.Posting.{first_number}
use Rattle.machine_laws.specs.Numbering.{IsBehind}

-- so many ms after its start a line began so many commands at most, and so did the gateway itself
abbrev pub most_after : ℕ → ℕ
most_after ms = 10 + ms / 100

-- the time between two starts, in ms, is a second at least, and from a start to the next it is five days at most
abbrev pub shortest_life : ℕ
shortest_life = 1000

abbrev pub longest_life : ℕ
longest_life = 432000000

-- so many ms later an id may begin again: 20 s of repeats, 10 s of a packet's age, and the 30 s of the agent's memory
abbrev pub safe_time : ℕ
safe_time = 60000

-- A gateway that started then began a command of a line under this number at this moment; both are times of day, in ms. Line 0 is
-- the gateway itself.
pub record BeganUnder (line start moment number : ℕ) : Type 0 where
  pub place : ℕ
  pub since : start ≤ moment
  pub few : place < most_after (moment - start)
  pub behind : IsBehind line (first_number line + first_at start) place number
