-- Each end is given the description of the other end's connection.
use Rattle.std.proofs.Common.{true, Option, Some, ◌≡◌, ℕ, Bool, false, List, None, refl, sym, ap, ◌∙◌}
use Rattle.call_processing.specs.declared.phase.Phase.{Phase}
use Rattle.call_processing.specs.declared.phase.Phase.TheVariants.{InCall}
use Rattle.call_processing.specs.declared.phase.Side.TheVariants.{Caller, Called}
use Rattle.std.specs.Prelude.{◌==◌, is_some, if◌then◌else◌}
use Rattle.std.proofs.lemmas.Bool.{eqb-true, true≢false}
use Rattle.call_processing.specs.declared.phase.Side.{Side}
use Rattle.call_processing.specs.declared.phase.Part.{Part}
use Rattle.call_processing.specs.declared.asked.Asked.{Asked}
use Rattle.call_processing.specs.declared.command.Command.{Command}
use Rattle.call_processing.specs.declared.command.Command.TheVariants.{Ask, Delete}
use Rattle.call_processing.specs.declared.line.Leg.{Leg}
use Rattle.call_processing.specs.declared.line.Leg.TheVariants.{Absent, Unknown, Standing}
use Rattle.call_processing.specs.declared.line.Line.{Line}
use Rattle.call_processing.specs.Phases.{talks_in}
use Rattle.call_processing.specs.Asking.{wanted_in, is_asked}
use Rattle.call_processing.specs.Next.{stands_for, line_stands, is_ready, created_for, joined_for, connection_next, request_or, connection_or, is_request_first, first_of, next_of}
use Rattle.call_processing.specs.Exchange.{ExchangeState, phase_of, line_of, due, due_by}
use Rattle.call_processing.specs.Parameters.{description_in, description_on, description_by, description_of_other, gives, leg_in, leg_of}

-- The ends of the call in the worked examples. Two exchanges are compared with one of these, since to compare them with each other is dear.

abbrev pub talks_as_caller : Option Phase
talks_as_caller = Some (InCall (record { call = 1; other = 1; side = Caller; answered = true }))

abbrev pub talks_as_called : Option Phase
talks_as_called = Some (InCall (record { call = 1; other = 0; side = Called; answered = true }))

abbrev given_in : Option Command → Option ℕ
given_in None = None
given_in (Some command) = gives command

-- it is of a call that was answered, and the other end's connection stands
record Ready (talks : Option Part) (ready : Bool) (call : ℕ) : Type 0 where
  part : Part
  talking : talks ≡ Some part
  stands : ready ≡ true
  number : part.call ≡ call

no_request : (b : Bool) (wanted : Asked) (call : ℕ) → given_in (if b then None else Some (Ask wanted)) ≡ Some call → ⊥
no_request true wanted call e = absurd cc
no_request false wanted call e = absurd cc

module _ (wanted : Asked) (asked : Option Asked) (call : ℕ) where
  by_side : (part : Part) (side : Side) (ready : Bool) → given_in (request_or (created_for ready part.call side) wanted asked) ≡ Some call
      → Ready (Some part) ready call
  by_side part Caller ready e = absurd cc
  by_side part Called true e = record { part = part; talking = refl; stands = refl; number = cc }
  by_side part Called false e = absurd (no_request (is_asked wanted asked) wanted call e)

  by_joined : (part : Part) (joined ready : Bool) (of : ℕ) → of ≡ part.call → given_in (request_or (joined_for ready joined of) wanted asked) ≡ Some call
      → Ready (Some part) ready call
  by_joined part true ready of same e = absurd (no_request (is_asked wanted asked) wanted call e)
  by_joined part false true of same e = record { part = part; talking = refl; stands = refl; number = cc }
  by_joined part false false of same e = absurd (no_request (is_asked wanted asked) wanted call e)

  by_number : (part : Part) (joined ready : Bool) (of : ℕ) (b : Bool) → (of == part.call) ≡ b
      → given_in (request_or (if b then joined_for ready joined of else Some (Delete of)) wanted asked) ≡ Some call → Ready (Some part) ready call
  by_number part joined ready of true same e = by_joined part joined ready of (eqb-true of part.call same) e
  by_number part joined ready of false same e = absurd cc

  by_leg : (talks : Option Part) (joined ready : Bool) (leg : Leg) → given_in (request_or (connection_next talks ready joined leg) wanted asked) ≡ Some call
      → Ready talks ready call
  by_leg talks joined ready (Unknown of) e = absurd cc
  by_leg None joined ready (Standing of connection description) e = absurd cc
  by_leg (Some part) joined ready (Standing of connection description) e = by_number part joined ready of (of == part.call) refl e
  by_leg None joined ready Absent e = absurd (no_request (is_asked wanted asked) wanted call e)
  by_leg (Some part) joined ready Absent e = by_side part part.side ready e

  behind_request : (b : Bool) (connection : Option Command) → given_in (connection_or (if b then None else Some (Ask wanted)) connection) ≡ Some call
      → given_in (request_or connection wanted asked) ≡ Some call
  behind_request true (Some command) e = e
  behind_request true None e = absurd cc
  behind_request false connection e = absurd cc

  by_order : (talks : Option Part) (joined ready first : Bool) (leg : Leg)
      → given_in (first_of first (connection_next talks ready joined leg) wanted asked) ≡ Some call → Ready talks ready call
  by_order talks joined ready false leg e = by_leg talks joined ready leg e
  by_order talks joined ready true leg e =
      by_leg talks joined ready leg (behind_request (is_asked wanted asked) (connection_next talks ready joined leg) e)

  by_flight : (talks : Option Part) (joined ready first b : Bool) (leg : Leg)
      → given_in (if b then None else first_of first (connection_next talks ready joined leg) wanted asked) ≡ Some call → Ready talks ready call
  by_flight talks joined ready first true leg e = absurd cc
  by_flight talks joined ready first false leg e = by_order talks joined ready first leg e

next_ready : (phase : Phase) (ready : Bool) (line : Line) (call : ℕ) → given_in (next_of phase ready line) ≡ Some call → Ready (talks_in phase) ready call
unfolding next_of
next_ready phase ready line call e =
    by_flight (wanted_in phase) line.asked call (talks_in phase) line.joined ready (is_request_first line.put_off) (is_some line.flight) line.leg e

-- the connection of the other end

standing_in : (call : ℕ) (leg : Leg) → stands_for call leg ≡ true
    → (connection : List ℕ) × (◌≡◌ {A = Option Leg} (Some leg) (Some (Standing call connection (description_in leg))))
standing_in call Absent stands = absurd (true≢false (sym stands))
standing_in call (Unknown other) stands = absurd (true≢false (sym stands))
standing_in call (Standing other connection description) stands =
    (connection, ap (λ (n : ℕ). Some (Standing n connection description)) (eqb-true other call stands))

standing_on : (call : ℕ) (found : Option Line) → line_stands call found ≡ true
    → (connection : List ℕ) × (leg_in found ≡ Some (Standing call connection (description_on found)))
standing_on call None stands = absurd (true≢false (sym stands))
standing_on call (Some line) stands = standing_in call line.leg stands

its_own : (part its : Part) (b : Bool) → ◌≡◌ {A = Option Part} (if b then Some part else None) (Some its)
    → ((if b then Some part else None) ≡ Some part) × (its ≡ part)
its_own part its true e = (refl, cc)
its_own part its false e = absurd cc

ready_by : (exchange : ExchangeState) (part : Part) (command : Command) (call : ℕ) (found : Option Line)
    → due_by exchange (Some (InCall part)) found ≡ Some command → gives command ≡ Some call
    → Ready (talks_in (InCall part)) (is_ready exchange.lines (talks_in (InCall part))) call
ready_by exchange part command call None e given = absurd cc
ready_by exchange part command call (Some line) e given =
    next_ready (InCall part) (is_ready exchange.lines (talks_in (InCall part))) line call (ap given_in e ∙ given)

pub described_there : (exchange : ExchangeState) (line call : ℕ) (part : Part) (command : Command) → phase_of exchange line ≡ Some (InCall part)
    → due exchange line ≡ Some command → gives command ≡ Some call
    → (connection : List ℕ) × (leg_of exchange part.other ≡ Some (Standing call connection (description_of_other exchange line)))
unfolding due
described_there exchange line call part command here is given =
    let is_due : due_by exchange (Some (InCall part)) (line_of exchange line) ≡ Some command =
    sym (ap (λ (phase : Option Phase). due_by exchange phase (line_of exchange line)) here) ∙ is in
    let ready = ready_by exchange part command call (line_of exchange line) is_due given in
    let own = its_own part ready.part part.answered ready.talking in
    let stands : line_stands part.call (line_of exchange part.other) ≡ true = sym (ap (is_ready exchange.lines) own.0) ∙ ready.stands in
    let number : part.call ≡ call = ap (λ (p : Part). p.call) (sym own.1) ∙ ready.number in
    let there = standing_on part.call (line_of exchange part.other) stands in
    let described : description_on (line_of exchange part.other) ≡ description_of_other exchange line =
    sym (ap (description_by exchange.lines) here) in (
      there.0,
      there.1
          ∙ ap (λ (description : List ℕ). Some (Standing part.call there.0 description)) described
          ∙ ap (λ (n : ℕ). Some (Standing n there.0 (description_of_other exchange line))) number,
    )
