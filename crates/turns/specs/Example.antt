-- What the worked examples share.
use Rattle.std.specs.Prelude.{ℕ, Bool, true, false, List, [], ◌∷◌, Some, None}
use Rattle.turns.specs.declared.circle.Ready.{Ready}
use Rattle.turns.specs.declared.situation.Situation.{Situation}
use Rattle.turns.specs.declared.schedule.Schedule.{Schedule}
use Rattle.turns.specs.Schedule.{opening}
use Rattle.turns.specs.Runs.{schedule_after}

-- commands, datagrams and visitors that are ready
abbrev pub ready : Bool → Bool → Bool → Ready
ready commands datagrams visitors = record { commands = commands; datagrams = datagrams; visitors = visitors }

abbrev pub nobody : Ready
nobody = ready false false false

-- so it stands at a moment, by the machine's clock and by ticks
abbrev pub standing : ℕ → ℕ → Ready → Situation
standing moment ticked sources = record { moment = moment; ticked = ticked; due = None; end = None; read = 0; ready = sources }

-- and where so many datagrams were read
abbrev pub having_read : ℕ → Situation → Situation
having_read number at = record at { read = number }

-- something falls due, or all is over, at a moment
abbrev pub due_at : ℕ → Situation → Situation
due_at moment at = record at { due = Some moment }

abbrev pub ending_at : ℕ → Situation → Situation
ending_at moment at = record at { end = Some moment }

-- nothing comes at 0, so it sleeps until 1,000
abbrev pub asleep : Schedule
asleep = schedule_after (opening 0) (standing 0 0 nobody ∷ [])

-- it wakes at a moment at which a datagram is there
abbrev pub wakes_at : ℕ → List Situation
wakes_at moment = standing moment 0 (ready false true false) ∷ []
