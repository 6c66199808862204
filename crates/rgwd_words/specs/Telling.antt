-- How the program ends by an answer at a gateway's telephones, which is printed.
use Rattle.std.specs.Prelude.{ℕ, if◌then◌else◌, List}
use Rattle.live_io.specs.Requests.{is_marked}
use Rattle.rgwd_words.specs.declared.ending.Ending.{Ending}
use Rattle.rgwd_words.specs.declared.ending.Ending.TheVariants.{Answered, Refused}

-- an answer that begins with `!` or `?` refuses the line
abbrev pub answered_by : List ℕ → Ending
answered_by answer = if is_marked answer then Refused else Answered
