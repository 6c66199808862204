-- In each phase something is in flight, is to be sent, or a telephone is waited for; and a call that was answered comes to be connected.
use Rattle.std.proofs.Common.{◌≡◌, ℕ, Bool, true, false, List, Option, Some, None, refl, sym, ap, ◌∙◌, inl, inr, ◌⊎◌}
use Rattle.std.specs.Prelude.{◌==◌, if◌then◌else◌}
use Rattle.std.proofs.lemmas.Bool.{true≢false}
use Rattle.call_processing.specs.declared.phase.Side.{Side}
use Rattle.call_processing.specs.declared.phase.Side.TheVariants.{Caller, Called}
use Rattle.call_processing.specs.declared.phase.Part.{Part}
use Rattle.call_processing.specs.declared.phase.Phase.{Phase}
use Rattle.call_processing.specs.declared.phase.Phase.TheVariants.{InCall}
use Rattle.call_processing.specs.declared.command.Command.{Command}
use Rattle.call_processing.specs.declared.command.Command.TheVariants.{Delete}
use Rattle.call_processing.specs.declared.line.Leg.{Leg}
use Rattle.call_processing.specs.declared.line.Leg.TheVariants.{Absent, Unknown, Standing}
use Rattle.call_processing.specs.declared.line.Line.{Line}
use Rattle.call_processing.specs.Phases.{across, other_end, talks_in}
use Rattle.call_processing.specs.Asking.{wanted_in, is_asked}
use Rattle.call_processing.specs.Next.{stands_for, line_stands, is_ready, created_for, joined_for, connection_next}
use Rattle.call_processing.specs.Exchange.{ExchangeState, opening, phase_of, line_of, due, due_by}
use Rattle.live_laws.specs.CallTurns.{Turn, after, is_flying, is_in_flight, IsConnected}
use Rattle.live_laws.proofs.CallLaws.{name_each_other}
use Rattle.live_laws.proofs.LineLemmas.{IsIdle, idle_where_none}

-- a line to which nothing is in flight, and nothing is to be sent
abbrev IdleIn : ExchangeState → Phase → Line → Type 0
IdleIn exchange phase is =
    IsIdle (connection_next (talks_in phase) (is_ready exchange.lines (talks_in phase)) is.joined is.leg) (wanted_in phase) is.asked

idle_in : (exchange : ExchangeState) (line : ℕ) (phase : Phase) (is : Line) → phase_of exchange line ≡ Some phase → line_of exchange line ≡ Some is
    → is_in_flight exchange line ≡ false → due exchange line ≡ None → IdleIn exchange phase is
unfolding due
idle_in exchange line phase is here known free none =
    idle_where_none phase (is_ready exchange.lines (talks_in phase)) is (sym (ap is_flying known) ∙ free)
    (sym (ap (λ (there : Option Phase). due_by exchange there (line_of exchange line)) here
    ∙ ap (λ (one : Option Line). due_by exchange (Some phase) one) known)
    ∙ none)

pub waited_for : (exchange : ExchangeState) (line : ℕ) (phase : Phase) (is : Line) → phase_of exchange line ≡ Some phase → line_of exchange line ≡ Some is
    → is_in_flight exchange line ≡ false → due exchange line ≡ None → is_asked (wanted_in phase) is.asked ≡ true
waited_for exchange line phase is here known free none = (idle_in exchange line phase is here known free none).requested

-- A connection of which nothing is to be sent

joined_or : (ready joined : Bool) (call : ℕ) → joined_for ready joined call ≡ None → (joined ≡ true) ⊎ (ready ≡ false)
joined_or ready true call e = inl refl
joined_or false false call e = inr refl
joined_or true false call e = absurd cc

-- the end's connection stands for its call, and is joined where the other end is ready
abbrev IsSettledEnd : ℕ → Bool → Bool → Leg → Type 0
IsSettledEnd call ready joined leg = (stands_for call leg ≡ true) × ((joined ≡ true) ⊎ (ready ≡ false))

standing_by : (part : Part) (ready joined : Bool) (of : ℕ) (b : Bool)
    → ◌≡◌ {A = Option Command} (if b then joined_for ready joined of else Some (Delete of)) None → (b ≡ true) × ((joined ≡ true) ⊎ (ready ≡ false))
standing_by part ready joined of true e = (refl, joined_or ready joined of e)
standing_by part ready joined of false e = absurd cc

settled_end : (part : Part) (ready joined : Bool) (leg : Leg) → (created_for ready part.call part.side ≡ None → ⊥)
    → connection_next (Some part) ready joined leg ≡ None → IsSettledEnd part.call ready joined leg
settled_end part ready joined Absent creates e = absurd (creates e)
settled_end part ready joined (Unknown call) creates e = absurd cc
settled_end part ready joined (Standing of connection description) creates e = standing_by part ready joined of (of == part.call) e

caller_creates : (ready : Bool) (call : ℕ) (side : Side) → side ≡ Caller → created_for ready call side ≡ None → ⊥
caller_creates ready call Caller e none = absurd cc
caller_creates ready call Called e none = absurd cc

called_creates : (ready : Bool) (call : ℕ) (side : Side) → side ≡ Called → ready ≡ true → created_for ready call side ≡ None → ⊥
called_creates ready call Caller e is none = absurd cc
called_creates true call Called e is none = absurd cc
called_creates false call Called e is none = absurd (true≢false (sym is))

surely : (joined ready : Bool) → ((joined ≡ true) ⊎ (ready ≡ false)) → ready ≡ true → joined ≡ true
surely joined ready (inl e) is = e
surely joined ready (inr none) is = absurd (true≢false (sym is ∙ none))

-- the caller's end and the called line's, each idle, where the readiness of either is that the other one's connection stands
both_connected : (caller called : Part) (first second : Line) (ready_first ready_second : Bool) → caller.side ≡ Caller → called.side ≡ Called
    → called.call ≡ caller.call → ready_first ≡ stands_for caller.call second.leg → ready_second ≡ stands_for called.call first.leg
    → connection_next (Some caller) ready_first first.joined first.leg ≡ None → connection_next (Some called) ready_second second.joined second.leg ≡ None
    → IsConnected caller.call first × IsConnected caller.call second
both_connected caller called first second ready_first ready_second calls is_called same hears_second hears_first idle_first idle_second =
    let one = settled_end caller ready_first first.joined first.leg (caller_creates ready_first caller.call caller.side calls) idle_first in
    let second_ready : ready_second ≡ true = hears_first ∙ ap (λ (call : ℕ). stands_for call first.leg) same ∙ one.0 in
    let other = settled_end called ready_second second.joined second.leg
    (called_creates ready_second called.call called.side is_called second_ready) idle_second in
    let there : stands_for caller.call second.leg ≡ true = sym (ap (λ (call : ℕ). stands_for call second.leg) same) ∙ other.0 in
    let first_ready : ready_first ≡ true = hears_second ∙ there in (
      (one.0, surely first.joined ready_first one.1 first_ready),
      (there, surely second.joined ready_second other.1 second_ready),
    )

-- the end that dialled is one of both
talks : (part : Part) → part.answered ≡ true → talks_in (InCall part) ≡ Some part
talks part answered = ap (λ (b : Bool). if b then Some part else None) answered

-- an end of an answered call that is idle: of its connection nothing is to be sent
idle_end : (exchange : ExchangeState) (line : ℕ) (part : Part) (is there : Line) → phase_of exchange line ≡ Some (InCall part) → part.answered ≡ true
    → line_of exchange line ≡ Some is → line_of exchange part.other ≡ Some there → is_in_flight exchange line ≡ false → due exchange line ≡ None
    → connection_next (Some part) (stands_for part.call there.leg) is.joined is.leg ≡ None
idle_end exchange line part is there here answered known other free none =
    let idle = (idle_in exchange line (InCall part) is here known free none).connected in
    let ready : is_ready exchange.lines (Some part) ≡ stands_for part.call there.leg = ap (line_stands part.call) other in
    sym
    (ap (λ (talking : Option Part). connection_next talking (is_ready exchange.lines talking) is.joined is.leg) (talks part answered)
    ∙ ap (λ (b : Bool). connection_next (Some part) b is.joined is.leg) ready)
    ∙ idle

connected_by : (exchange : ExchangeState) (line : ℕ) (part : Part) (here there : Line) (side : Side) → part.side ≡ side
    → connection_next (Some part) (stands_for part.call there.leg) here.joined here.leg ≡ None
    → connection_next (Some (other_end line part)) (stands_for part.call here.leg) there.joined there.leg ≡ None
    → IsConnected part.call here × IsConnected part.call there
connected_by exchange line part here there Caller e mine its =
    both_connected part (other_end line part) here there (stands_for part.call there.leg) (stands_for part.call here.leg) e (ap across e) refl refl refl mine its
connected_by exchange line part here there Called e mine its =
    let both =
    both_connected (other_end line part) part there here (stands_for part.call here.leg) (stands_for part.call there.leg) (ap across e) e refl refl refl its mine in
    (both.1, both.0)

pub connected_where_idle : (count last line : ℕ) (turns : List Turn) (part : Part) (here there : Line)
    → phase_of (after (opening count last) turns) line ≡ Some (InCall part) → part.answered ≡ true → line_of (after (opening count last) turns) line ≡ Some here
    → line_of (after (opening count last) turns) part.other ≡ Some there → is_in_flight (after (opening count last) turns) line ≡ false
    → is_in_flight (after (opening count last) turns) part.other ≡ false → due (after (opening count last) turns) line ≡ None
    → due (after (opening count last) turns) part.other ≡ None → IsConnected part.call here × IsConnected part.call there
connected_where_idle count last line turns part here there phase answered mine its free other_free none other_none =
    let exchange = after (opening count last) turns in
    let other = name_each_other count last line turns part phase in
    connected_by exchange line part here there part.side refl (idle_end exchange line part here there phase answered mine its free none)
    (idle_end exchange part.other (other_end line part) there here other answered its mine other_free other_none)
