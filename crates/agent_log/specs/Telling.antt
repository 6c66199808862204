-- What is told of lines and calls on standard output: a line each, in printable ASCII.
use Rattle.std.specs.Prelude.{◌≡◌, ◌⊎◌, ℕ, Bool, false, ◌==◌, codes, decimal, if◌then◌else◌, List, [], ◌∷◌, ◌++◌}
use Rattle.std.specs.List.{flat_map}
use Rattle.std.specs.Borrow.{Bor}
use Rattle.log_format.specs.Escaping.{shown}
use Rattle.output_queues.specs.declared.record.Record.{Record}
use Rattle.output_queues.specs.declared.record.RecordState.TheVariants as records
use Rattle.output_queues.specs.Recording.{is_told}
use Rattle.agent_log.specs.declared.standing.Progress.{Progress}
use Rattle.agent_log.specs.declared.standing.Progress.TheVariants.{Ringing, Answered, Connected}
use Rattle.agent_log.specs.declared.standing.Standing.{Standing}
use Rattle.agent_log.specs.declared.standing.Standing.TheVariants.{Rest, Dialling, Busy, Reorder, Caller, Called}
use Rattle.agent_log.specs.declared.station.Station.{Station}
use Rattle.agent_log.specs.Stations.{number_at}

-- a byte is told as the log shows it: printable ASCII as it is, but for the backslash, and any other by its number
abbrev pub plain_byte : ℕ → List ℕ
plain_byte byte = shown (byte ∷ [])

abbrev pub plain : List ℕ → List ℕ
plain text = flat_map plain_byte text

abbrev pub piece_told : Bor (List ℕ) → List ℕ
piece_told piece = plain piece.now

-- a line of these pieces
unfoldable pub line_of_pieces : List (Bor (List ℕ)) → List ℕ
line_of_pieces pieces = flat_map piece_told pieces ++ codes "\n"

abbrev pub told_in_line : List (List ℕ) → List ℕ
told_in_line pieces = flat_map plain pieces ++ codes "\n"

-- a record has this text behind what it had, where it is told all; or memory was refused, and nothing is told from then on
abbrev pub Adds : Bool → List ℕ → Record → Record → Type 0
Adds is_on text was is =
    ((is.state ≡ was.state) × (is.out.items ≡ (if is_on then was.out.items ++ text else was.out.items)))
    ⊎ ((is.state ≡ records.OutOfMemory) × (is.out.items ≡ []))

abbrev pub Tells : List ℕ → Record → Record → Type 0
Tells text was is = Adds (is_told was.state) text was is

-- Lines and calls

-- the line is the caller in this call
abbrev pub is_caller_in : Standing → ℕ → Bool
is_caller_in Rest call = false
is_caller_in Dialling call = false
is_caller_in Busy call = false
is_caller_in Reorder call = false
is_caller_in (Caller of other progress) call = of == call
is_caller_in Called call = false

abbrev pub progress_words : Progress → List ℕ
progress_words Ringing = codes " ringing"
progress_words Answered = codes " answered"
progress_words Connected = codes " connected"

-- what stands behind the number of the line, or behind its call
abbrev pub words_of : Standing → List ℕ
words_of Rest = codes ": at rest"
words_of Dialling = codes ": dialling"
words_of Busy = codes ": busy tone"
words_of Reorder = codes ": reorder tone"
words_of (Caller call other progress) = progress_words progress
words_of Called = codes ": called"

-- a call from a line to another
unfoldable pub call_line : List Station → ℕ → ℕ → ℕ → List ℕ → List ℕ
call_line stations call line other words =
    told_in_line (codes "call " ∷ decimal call ∷ codes ": " ∷ number_at stations line ∷ codes " -> " ∷ number_at stations other
    ∷ words ∷ [])

-- a line that is in no call
unfoldable pub line_line : List ℕ → List ℕ → List ℕ
line_line number words = told_in_line (codes "line " ∷ number ∷ words ∷ [])

-- a call of a line is over, where the line is no longer the caller in it
abbrev pub end_told : List Station → ℕ → Standing → Standing → List ℕ
end_told stations line Rest is = []
end_told stations line Dialling is = []
end_told stations line Busy is = []
end_told stations line Reorder is = []
end_told stations line (Caller call other progress) is =
    if is_caller_in is call then [] else call_line stations call line other (codes " over")
end_told stations line Called is = []

-- how a line stands; of one that is called its caller's call tells
abbrev pub standing_told : List Station → ℕ → Standing → List ℕ
standing_told stations line Rest = line_line (number_at stations line) (words_of Rest)
standing_told stations line Dialling = line_line (number_at stations line) (words_of Dialling)
standing_told stations line Busy = line_line (number_at stations line) (words_of Busy)
standing_told stations line Reorder = line_line (number_at stations line) (words_of Reorder)
standing_told stations line (Caller call other progress) = call_line stations call line other (progress_words progress)
standing_told stations line Called = []

-- what is told of a line that stood otherwise before
abbrev pub change_told : List Station → ℕ → Standing → Standing → List ℕ
change_told stations line was is = end_told stations line was is ++ standing_told stations line is
