-- What belongs to one line of what a gateway sends (RFC 3435, 2.1.1, 3.2.1.2 and 3.5).
use Rattle.std.specs.Prelude.{ℕ, ◌==◌, Bool, false, List, filter, Some, None}
use Rattle.plain_machine.specs.Message.{Owner, answer_of, own_of, of_none, Sent}

-- an answer to a command whose name reads as this line, or a command of the line's own; of the gateway itself, which is
-- line 0, its own commands alone
abbrev pub is_of : ℕ → Owner → Bool
is_of line (answer_of None) = false
is_of line (answer_of (Some other)) = other == line
is_of line (own_of other) = other == line
is_of line of_none = false

-- the messages of this line in their order, each with its address and its moment
abbrev pub of_line : ℕ → List Sent → List Sent
of_line line sent = filter (λ one. is_of line one.owner) sent
