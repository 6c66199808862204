-- What the worked examples speak of.
use Rattle.std.specs.Prelude.{ℕ, List, [], ◌∷◌, false, true, Some}
use Rattle.mgcp_text.specs.declared.message.Param.{Param}
use Rattle.call_processing.specs.declared.phase.Side.{Side}
use Rattle.call_processing.specs.declared.phase.Side.TheVariants.{Caller}
use Rattle.call_processing.specs.declared.phase.Part.{Part}
use Rattle.call_processing.specs.declared.phase.Phase.TheVariants.{Resting, InCall}
use Rattle.call_processing.specs.declared.command.Command.TheVariants.{Create}
use Rattle.call_processing.specs.Line.{new_line, sent}
use Rattle.call_processing.specs.Exchange.{ExchangeState}
use Rattle.line_control.specs.declared.care.Care.{Care}
use Rattle.line_control.specs.Duties.{new_care, begun, landed}

-- a line once it was cleared, and once it was audited
abbrev pub cleared : Care
cleared = landed (begun new_care)

abbrev pub audited : Care
audited = landed (begun cleared)

-- an audit found its handset lifted
abbrev pub found_off : Care
found_off = record audited { is_found_off = true }

abbrev pub param : List ℕ → List ℕ → Param
param code value = record { code = code; value = value }

abbrev pub part : Side → Part
part side = record { call = 7; other = 3; side = side; answered = false }

abbrev pub answered_part : Side → Part
answered_part side = record { call = 7; other = 3; side = side; answered = true }

-- an exchange of two lines, at the second of which a connection is created for its caller
abbrev pub creating : ExchangeState
creating = record {
  calls = record { last = 7; phases = Resting ∷ InCall (part Caller) ∷ [] };
  lines = new_line ∷ sent (Create 7 false) new_line ∷ [];
}

-- a line whose deletion was put off at 500, for the first time: it is sent again at 1,500, or at once
abbrev pub deleted_now : Care
deleted_now = record new_care { put_off = 1 }

abbrev pub deleted_later : Care
deleted_later = record deleted_now { again = Some 1500 }
