-- Under which numbers the commands of a line begin, one behind the other, and how these go round (RFC 3435, 3.2.1.2).
use Rattle.std.specs.Prelude.{◌≡◌, ◌⊎◌, ℕ, ◌+◌, ◌%◌, ◌<◌, List}
use Rattle.plain_machine.specs.declared.setup.Setup.{Setup}
use Rattle.plain_machine.specs.Setup.{firsts}
use Rattle.plain_machine.specs.Posting.{numbers, first_number, id_on, line_of_id}
use Rattle.plain_machine.specs.Message.{Begun}
use Rattle.machine_laws.specs.Saying.{count_of}

-- the number of a line's first command, or of the gateway's own, which is line 0
abbrev pub start_on : Setup → ℕ → ℕ
start_on setup line = first_number line + setup.first % firsts

-- a number is the one so many behind this start, where those are fewer than there are: it went round once at most
abbrev pub IsBehind : ℕ → ℕ → ℕ → ℕ → Type 0
IsBehind line start count number = (start + count ≡ number) ⊎ (start + count + first_number line ≡ number + numbers)

-- an id of the line is that of one of its first commands, of which there are so many
pub record IsTaken (line start count id : ℕ) : Type 0 where
  pub place : ℕ
  pub number : ℕ
  pub fewer : place < count
  pub behind : IsBehind line start place number
  pub is : id ≡ id_on line number

-- a command is under the number of its line, or of the gateway itself, behind as many as that began before it
pub record IsInTurn (setup : Setup) (before : List Begun) (one : Begun) : Type 0 where
  pub number : ℕ
  pub below : number < numbers
  pub behind : IsBehind (line_of_id one.id) (start_on setup (line_of_id one.id)) (count_of (line_of_id one.id) before) number
  pub is : one.id ≡ id_on (line_of_id one.id) number
