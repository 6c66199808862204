-- What the worked examples speak of.
use Rattle.std.specs.Prelude.{ℕ, zero, suc, ◌+◌, List, [], ◌∷◌, ◌++◌, codes, Option, Some}
use Rattle.std.specs.List.{flat_map}
use Rattle.packages.specs.declared.event.LineEvent.TheVariants as events
use Rattle.mg_bytes.specs.declared.letter.Letter.{Letter}
use Rattle.packages.specs.declared.observed.Observed.{Observed}
use Rattle.packages.specs.declared.observed.Observed.TheVariants.{Happened}
use Rattle.call_processing.specs.declared.phase.Phase.{Phase}
use Rattle.call_processing.specs.declared.told.Told.TheVariants.{OffHook, OnHook, Dialled}
use Rattle.call_processing.specs.declared.command.Command.{Command}
use Rattle.call_processing.specs.declared.command.Outcome.TheVariants.{Created, Answered, GivenUp}
use Rattle.call_processing.specs.Exchange.{ExchangeState, opening, phase_of}
use Rattle.live_laws.specs.CallTurns.{Turn, tells, answers, sends, after, commands_in}

-- an exchange of three lines
abbrev pub opened : ExchangeState
opened = opening 3 0

-- all that is to be sent is sent
abbrev pub all_sent : List Turn
all_sent = sends 0 ∷ sends 1 ∷ sends 2 ∷ []

-- as an owner takes turns: behind each all that is to be sent is sent
abbrev pub driven : List Turn → List Turn
driven turns = flat_map (λ turn. turn ∷ all_sent) turns

abbrev pub coded : ℕ → ℕ → Turn
coded line code = answers line (Answered code)

abbrev pub accepted : ℕ → Turn
accepted line = coded line 200

abbrev pub given_up : ℕ → Turn
given_up line = answers line GivenUp

-- CRCX is accepted: this connection, with this description
abbrev pub created : ℕ → List ℕ → List ℕ → Turn
created line connection description = answers line (Created connection description)

-- the connections of the two ends of a call
abbrev pub created_first : Turn
created_first = created 0 (codes "A") (codes "v=first\r\n")

abbrev pub created_second : Turn
created_second = created 1 (codes "B") (codes "v=second\r\n")

-- each line was asked for off hook
abbrev pub ready : ExchangeState
ready = after opened (all_sent ++ accepted 0 ∷ accepted 1 ∷ accepted 2 ∷ [])

-- line 0 is asked to dial, and dials line 1; both ends are told so
abbrev pub dial : List Turn
dial = tells 0 OffHook ∷ accepted 0 ∷ tells 0 (Dialled (Some 1)) ∷ []

abbrev pub ring : List Turn
ring = dial ++ accepted 0 ∷ accepted 1 ∷ []

-- line 1 answers, and both are connected
abbrev pub pick_up : List Turn
pick_up = ring ++ tells 1 OffHook ∷ accepted 1 ∷ []

abbrev pub connect : List Turn
connect = pick_up ++ created_first ∷ accepted 0 ∷ created_second ∷ accepted 0 ∷ []

-- line 0 hangs up, and then line 1
abbrev pub hang_up : List Turn
hang_up = connect ++ tells 0 OnHook ∷ accepted 0 ∷ accepted 0 ∷ accepted 1 ∷ accepted 1 ∷ tells 1 OnHook ∷ accepted 1 ∷ []

-- the exchange once these turns were taken
abbrev pub then_is : List Turn → ExchangeState
then_is turns = after ready (driven turns)

abbrev pub phase_then : ℕ → List Turn → Option Phase
phase_then line turns = phase_of (then_is turns) line

-- what is sent behind a turn, after these
abbrev pub sent_at : List Turn → Turn → List (ℕ × Command)
sent_at turns turn = commands_in (then_is turns) (driven (turn ∷ []))

-- keys
abbrev pub key : Letter → Observed
key letter = Happened (events.Letter letter)

-- so many numbers, from this one on
abbrev pub numbers_from : ℕ → ℕ → List ℕ
numbers_from first zero = []
numbers_from first (suc count) = first ∷ numbers_from (first + 1) count
