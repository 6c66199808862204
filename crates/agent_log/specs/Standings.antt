-- How a line stands, as it is told to people, and what is counted where that changes.
use Rattle.std.specs.Prelude.{ℕ, Bool, false, ◌==◌, ◌&&◌, if◌then◌else◌, Option, Some, None}
use Rattle.call_processing.specs.declared.phase.Tone.{Tone}
use Rattle.call_processing.specs.declared.phase.Tone.TheVariants as tones
use Rattle.call_processing.specs.declared.phase.Side.{Side}
use Rattle.call_processing.specs.declared.phase.Side.TheVariants as sides
use Rattle.call_processing.specs.declared.phase.Part.{Part}
use Rattle.call_processing.specs.declared.phase.Phase.{Phase}
use Rattle.call_processing.specs.declared.phase.Phase.TheVariants as phases
use Rattle.call_processing.specs.declared.line.Leg.{Leg}
use Rattle.call_processing.specs.declared.line.Leg.TheVariants as legs
use Rattle.call_processing.specs.declared.line.Line.{Line}
use Rattle.call_processing.specs.Exchange.{ExchangeState, phase_of, line_of}
use Rattle.agent_log.specs.declared.standing.Progress.{Progress}
use Rattle.agent_log.specs.declared.standing.Progress.TheVariants.{Ringing, Answered, Connected}
use Rattle.agent_log.specs.declared.standing.Standing.{Standing}
use Rattle.agent_log.specs.declared.standing.Standing.TheVariants.{Rest, Dialling, Busy, Reorder, Caller, Called}
use Rattle.agent_log.specs.declared.tally.Tally.{Tally}
use Rattle.agent_log.specs.Counts.{one_more}

-- a connection stands for this call
abbrev pub stands_for : Leg → ℕ → Bool
stands_for legs.Absent call = false
stands_for (legs.Unknown of) call = false
stands_for (legs.Standing of connection description) call = of == call

-- a line's connection for this call was given the description of the other end
abbrev pub is_joined : Option Line → ℕ → Bool
is_joined None call = false
is_joined (Some line) call = line.joined && stands_for line.leg call

-- both ends were given the description of the other's
abbrev pub are_joined : ExchangeState → ℕ → Part → Bool
are_joined exchange line part = is_joined (line_of exchange line) part.call && is_joined (line_of exchange part.other) part.call

-- how far the call has come of a line that has this part in it
abbrev pub progress_of : ExchangeState → ℕ → Part → Progress
progress_of exchange line part =
    if part.answered then (if are_joined exchange line part then Connected else Answered) else Ringing

abbrev pub tone_standing : Tone → Standing
tone_standing tones.Busy = Busy
tone_standing tones.Reorder = Reorder

abbrev pub part_standing : Side → Part → Progress → Standing
part_standing sides.Caller part progress = Caller part.call part.other progress
part_standing sides.Called part progress = Called

abbrev pub standing_by : ExchangeState → ℕ → Option Phase → Standing
standing_by exchange line None = Rest
standing_by exchange line (Some phases.Resting) = Rest
standing_by exchange line (Some phases.Dialling) = Dialling
standing_by exchange line (Some (phases.Hearing tone)) = tone_standing tone
standing_by exchange line (Some (phases.InCall part)) = part_standing part.side part (progress_of exchange line part)

-- a line that there isn't is at rest
abbrev pub standing_of : ExchangeState → ℕ → Standing
standing_of exchange line = standing_by exchange line (phase_of exchange line)

-- a call of the line has come so far
abbrev pub with_progress : Progress → Tally → Tally
with_progress Ringing tally = record tally { calls = one_more tally.calls }
with_progress Answered tally = tally
with_progress Connected tally = record tally { set_up = one_more tally.set_up }

-- a call of the line ended before its ends were connected: it failed where the line hears so, else an end hung up
abbrev pub with_failure : Standing → Tally → Tally
with_failure Rest tally = record tally { abandoned = one_more tally.abandoned }
with_failure Dialling tally = record tally { abandoned = one_more tally.abandoned }
with_failure Busy tally = record tally { abandoned = one_more tally.abandoned }
with_failure Reorder tally = record tally { failed = one_more tally.failed }
with_failure (Caller call other progress) tally = record tally { abandoned = one_more tally.abandoned }
with_failure Called tally = record tally { abandoned = one_more tally.abandoned }

abbrev pub with_end : Progress → Standing → Tally → Tally
with_end Ringing is tally = with_failure is tally
with_end Answered is tally = with_failure is tally
with_end Connected is tally = tally

-- what was dialled led to no call: to a line that isn't free, or to no line
abbrev pub with_refusal : Standing → Tally → Tally
with_refusal Rest tally = tally
with_refusal Dialling tally = tally
with_refusal Busy tally = record tally { busy = one_more tally.busy }
with_refusal Reorder tally = record tally { wrong_number = one_more tally.wrong_number }
with_refusal (Caller call other progress) tally = tally
with_refusal Called tally = tally

-- a line has no call of its own now
abbrev pub with_rest : Standing → Standing → Tally → Tally
with_rest Rest is tally = tally
with_rest Dialling is tally = with_refusal is tally
with_rest Busy is tally = tally
with_rest Reorder is tally = tally
with_rest (Caller call other progress) is tally = with_end progress is tally
with_rest Called is tally = tally

-- a line stands so that stood otherwise before
abbrev pub with_change : Standing → Standing → Tally → Tally
with_change was Rest tally = with_rest was Rest tally
with_change was Dialling tally = with_rest was Dialling tally
with_change was Busy tally = with_rest was Busy tally
with_change was Reorder tally = with_rest was Reorder tally
with_change was (Caller call other progress) tally = with_progress progress tally
with_change was Called tally = with_rest was Called tally
