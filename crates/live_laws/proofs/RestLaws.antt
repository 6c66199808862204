-- A line that hung up comes to rest.
use Rattle.std.proofs.Common.{◌≡◌, ◌≢◌, ℕ, ◌+◌, ◌*◌, ◌≤◌, Bool, true, false, List, [], ◌∷◌, Option, Some, None, refl, sym, ap, subst, ◌∙◌, inl, inr, ◌⊎◌, arith}
use Rattle.std.specs.Prelude.{◌==◌, ◌&&◌, not, is_some, nat_lt, slice_get, slice_set, option_map, if◌then◌else◌}
use Rattle.std.specs.List.{list_all}
use Rattle.std.proofs.lemmas.Bool.{cases_eq, eq-eqb, ne_eqb, true≢false, and_parts, not-true}
use Rattle.packages.specs.declared.hook.Hook.{Hook}
use Rattle.packages.specs.declared.hook.Hook.TheVariants as hooks
use Rattle.call_processing.specs.declared.phase.Part.{Part}
use Rattle.call_processing.specs.declared.phase.Tone.{Tone}
use Rattle.call_processing.specs.declared.phase.Tone.TheVariants.{Busy, Reorder}
use Rattle.call_processing.specs.declared.phase.Phase.{Phase}
use Rattle.call_processing.specs.declared.phase.Phase.TheVariants.{Resting, Dialling, Hearing, InCall}
use Rattle.call_processing.specs.declared.told.Told.{Told}
use Rattle.call_processing.specs.declared.told.Told.TheVariants.{OffHook, OnHook, Flash, Dialled, TimedOut, Restarted, Disconnected}
use Rattle.call_processing.specs.declared.command.Command.{Command}
use Rattle.call_processing.specs.declared.command.Outcome.{Outcome}
use Rattle.call_processing.specs.declared.fate.Fate.{Fate}
use Rattle.call_processing.specs.declared.line.Line.{Line}
use Rattle.call_processing.specs.Phases.{other_end, left, rings, ringing_in, talks_in, is_free, is_in, waits}
use Rattle.call_processing.specs.Calls.{CallState, parted, cut_off, cut_off_in, turned, answered_by, picked_up, hearing, greatest_call, caller_of, begun, put_through, reached, dialled, dialled_in, given_up_in, timed_out, heard, failed, found, found_in}
use Rattle.call_processing.specs.Fates.{most_put_off, times_of, put_off_by}
use Rattle.call_processing.specs.Line.{sent, landed, failing, finding, heard_on, cleared}
use Rattle.call_processing.specs.Next.{is_ready}
use Rattle.call_processing.specs.Exchange.{ExchangeState, opening, phase_of, line_of, changed, flight_in, told, fate_in, fate_at, answered, cleared_at, due, due_by, sent_by, sent_to}
use Rattle.live_laws.specs.CallTurns.{Turn, tells, answers, sends, clears, after_one, after, is_given_up, is_flying, is_in_flight, count_if, is_coded, is_put_off, is_settled, count_turns, dials, leaves_alone, AreQuietFor, IsClear, IsAtRest}
use Rattle.call_processing.proofs.ElementLemmas.{set_here, set_other, changed_here, changed_other}
use Rattle.live_laws.proofs.PhaseLemmas.{AreMutual}
use Rattle.live_laws.proofs.CallLaws.{found_mutual, sent_to_phases, one_mutual, always_mutual}
use Rattle.live_laws.proofs.LineLemmas.{left_of, three_most, landed_lands, landed_idle, cleared_less, sent_if, sent_no_more, clear_at_none, clear_at_idle, none_in_flight as no_flight}
use Rattle.live_laws.proofs.RowLaws.{row_of, sent_row, cleared_row, one_short, all_short, always_short}

-- A line that rests goes on to rest

module _ (phases : List Phase) (line : ℕ) (rests : slice_get phases line ≡ Some Resting) (named : AreMutual phases) where
  -- neither end of a call is the line
  not_in : (of : ℕ) (part : Part) → slice_get phases of ≡ Some (InCall part) → of ≢ line
  not_in of part e same =
      let both : ◌≡◌ {A = Option Phase} (Some (InCall part)) (Some Resting) = sym e ∙ ap (slice_get phases) same ∙ rests in
      absurd cc

  not_there : (of : ℕ) (part : Part) → slice_get phases of ≡ Some (InCall part) → part.other ≢ line
  not_there of part e same =
      let both : ◌≡◌ {A = Option Phase} (Some (InCall (other_end of part))) (Some Resting) =
      sym (named of part e) ∙ ap (slice_get phases) same ∙ rests in
      absurd cc

  two_set : (of : ℕ) (part : Part) (one other : Phase) → slice_get phases of ≡ Some (InCall part)
      → slice_get (slice_set (slice_set phases of one) part.other other) line ≡ Some Resting
  two_set of part one other e =
      set_other (slice_set phases of one) part.other line other (not_there of part e)
      ∙ set_other phases of line one (not_in of part e)
      ∙ rests

  cut_rests_by : (tone : Tone) (of : ℕ) (found : Option Phase) → slice_get phases of ≡ found
      → slice_get (cut_off_in tone phases of found) line ≡ Some Resting
  cut_rests_by tone of (Some (InCall part)) e = two_set of part (left tone part) (left tone (other_end of part)) e
  cut_rests_by tone of (Some Resting) e = rests
  cut_rests_by tone of (Some Dialling) e = rests
  cut_rests_by tone of (Some (Hearing other)) e = rests
  cut_rests_by tone of None e = rests

  cut_rests : (tone : Tone) (of : ℕ) → slice_get (cut_off tone phases of) line ≡ Some Resting
  unfolding cut_off
  cut_rests tone of = cut_rests_by tone of (slice_get phases of) refl

  turned_rests : (tone : Tone) (of : ℕ) (phase : Phase) → of ≢ line → slice_get (turned tone phases of phase) line ≡ Some Resting
  turned_rests tone of phase apart = set_other (cut_off tone phases of) of line phase apart ∙ cut_rests tone of

  picked_ringing : (of : ℕ) (part : Part) (b : Bool) → slice_get phases of ≡ Some (InCall part) → of ≢ line
      → slice_get (answered_by phases of (if b then Some part else None)) line ≡ Some Resting
  picked_ringing of part true e apart =
      two_set of part (InCall (record part { answered = true })) (InCall (other_end of (record part { answered = true }))) e
  picked_ringing of part false e apart = turned_rests Busy of Dialling apart

  picked_by : (of : ℕ) (found : Option Phase) → slice_get phases of ≡ found → of ≢ line
      → slice_get (answered_by phases of (ringing_in found)) line ≡ Some Resting
  picked_by of (Some (InCall part)) e apart = picked_ringing of part (rings part) e apart
  picked_by of (Some Resting) e apart = turned_rests Busy of Dialling apart
  picked_by of (Some Dialling) e apart = turned_rests Busy of Dialling apart
  picked_by of (Some (Hearing tone)) e apart = turned_rests Busy of Dialling apart
  picked_by of None e apart = turned_rests Busy of Dialling apart

  pub picked_rests : (of : ℕ) → of ≢ line → slice_get (picked_up phases of) line ≡ Some Resting
  unfolding picked_up
  picked_rests of apart = picked_by of (slice_get phases of) refl apart

  pub hung_rests : (of : ℕ) → of ≢ line → slice_get (turned Busy phases of Resting) line ≡ Some Resting
  hung_rests of apart = turned_rests Busy of Resting apart

  pub restarted_rests : (of : ℕ) → of ≢ line → slice_get (turned Reorder phases of Resting) line ≡ Some Resting
  restarted_rests of apart = turned_rests Reorder of Resting apart

  timed_call : (of : ℕ) (part : Part) (b : Bool) → slice_get phases of ≡ Some (InCall part)
      → slice_get (if not b then parted Reorder phases of part else phases) line ≡ Some Resting
  timed_call of part true e = rests
  timed_call of part false e = two_set of part (left Reorder part) (left Reorder (other_end of part)) e

  timed_by : (of : ℕ) (found : Option Phase) → slice_get phases of ≡ found → of ≢ line
      → slice_get (if waits found then given_up_in phases of found else phases) line ≡ Some Resting
  timed_by of (Some (InCall part)) e apart = timed_call of part part.answered e
  timed_by of (Some Dialling) e apart = set_other phases of line (Hearing Reorder) apart ∙ rests
  timed_by of (Some Resting) e apart = rests
  timed_by of (Some (Hearing tone)) e apart = rests
  timed_by of None e apart = rests

  pub timed_rests : (of : ℕ) → of ≢ line → slice_get (timed_out phases of) line ≡ Some Resting
  unfolding timed_out
  timed_rests of apart = timed_by of (slice_get phases of) refl apart

  failed_by : (of : ℕ) (b : Bool) → slice_get (if b then cut_off Reorder phases of else phases) line ≡ Some Resting
  failed_by of true = cut_rests Reorder of
  failed_by of false = rests

  pub failed_rests : (of : ℕ) (call : Option ℕ) → slice_get (failed phases of call) line ≡ Some Resting
  unfolding failed
  failed_rests of None = rests
  failed_rests of (Some call) = failed_by of (is_in call (slice_get phases of))

  hung_by : (of : ℕ) → ((of ≡ line) ⊎ (of ≡ line → ⊥)) → slice_get (turned Busy phases of Resting) line ≡ Some Resting
  hung_by of (inl same) =
      ap (λ (n : ℕ). slice_get (slice_set (cut_off Busy phases of) n Resting) line) same
      ∙ set_here (cut_off Busy phases of) line Resting Resting (cut_rests Busy of)
  hung_by of (inr apart) = turned_rests Busy of Resting apart

  found_free : (of : ℕ) (hook : Hook) → slice_get (found_in phases of hook None) line ≡ Some Resting
  found_free of hooks.OnHook = hung_by of (cases_eq of line)
  found_free of hooks.OffHook = rests

  found_ringing : (of : ℕ) (hook : Hook) (part : Part) (b : Bool) → slice_get phases of ≡ Some (InCall part)
      → slice_get (found_in phases of hook (if b then Some part else None)) line ≡ Some Resting
  found_ringing of hook part false e = found_free of hook
  found_ringing of hooks.OnHook part true e = rests
  found_ringing of hooks.OffHook part true e = two_set of part (left Busy part) (left Busy (other_end of part)) e

  found_by : (of : ℕ) (hook : Hook) (at : Option Phase) → slice_get phases of ≡ at
      → slice_get (found_in phases of hook (ringing_in at)) line ≡ Some Resting
  found_by of hook (Some (InCall part)) e = found_ringing of hook part (rings part) e
  found_by of hook (Some Resting) e = found_free of hook
  found_by of hook (Some Dialling) e = found_free of hook
  found_by of hook (Some (Hearing tone)) e = found_free of hook
  found_by of hook None e = found_free of hook

  pub found_rests : (of : ℕ) (hook : Option Hook) → slice_get (found phases of hook) line ≡ Some Resting
  unfolding found
  found_rests of None = rests
  found_rests of (Some hook) = found_by of hook (slice_get phases of) refl

-- digits that aren't the line's

hearing_rests : (tone : Tone) (calls : CallState) (line of : ℕ) → slice_get calls.phases line ≡ Some Resting → of ≢ line
    → slice_get (hearing tone calls of).phases line ≡ Some Resting
hearing_rests tone calls line of rests apart = set_other calls.phases of line (Hearing tone) apart ∙ rests

through_by : (calls : CallState) (line of other : ℕ) (b : Bool) → slice_get calls.phases line ≡ Some Resting → of ≢ line → other ≢ line
    → slice_get (if b then begun calls of other else hearing Reorder calls of).phases line ≡ Some Resting
through_by calls line of other true rests apart far =
    let part = caller_of (calls.last + 1) other in
    set_other (slice_set calls.phases of (InCall part)) other line (InCall (other_end of part)) far
    ∙ set_other calls.phases of line (InCall part) apart
    ∙ rests
through_by calls line of other false rests apart far = hearing_rests Reorder calls line of rests apart

through_rests : (calls : CallState) (line of other : ℕ) → slice_get calls.phases line ≡ Some Resting → of ≢ line → other ≢ line
    → slice_get (put_through calls of other).phases line ≡ Some Resting
unfolding put_through
through_rests calls line of other rests apart far = through_by calls line of other (nat_lt calls.last greatest_call) rests apart far

reached_by : (calls : CallState) (line of other : ℕ) (b : Bool) → slice_get calls.phases line ≡ Some Resting → of ≢ line → other ≢ line
    → slice_get (if b then put_through calls of other else hearing Busy calls of).phases line ≡ Some Resting
reached_by calls line of other true rests apart far = through_rests calls line of other rests apart far
reached_by calls line of other false rests apart far = hearing_rests Busy calls line of rests apart

is_far : (line other : ℕ) → dials line (Dialled (Some other)) ≡ false → other ≢ line
is_far line other e same = true≢false (sym (eq-eqb other line same) ∙ e)

reached_rests : (calls : CallState) (line of : ℕ) (to : Option ℕ) → slice_get calls.phases line ≡ Some Resting → of ≢ line
    → dials line (Dialled to) ≡ false → slice_get (reached calls of to).phases line ≡ Some Resting
unfolding reached
reached_rests calls line of None rests apart far = hearing_rests Reorder calls line of rests apart
reached_rests calls line of (Some other) rests apart far =
    reached_by calls line of other (is_free (slice_get calls.phases other)) rests apart (is_far line other far)

dialled_by : (calls : CallState) (line of : ℕ) (to : Option ℕ) (found : Option Phase) → slice_get calls.phases line ≡ Some Resting → of ≢ line
    → dials line (Dialled to) ≡ false → slice_get (dialled_in calls of to found).phases line ≡ Some Resting
dialled_by calls line of to (Some Dialling) rests apart far = reached_rests calls line of to rests apart far
dialled_by calls line of to (Some Resting) rests apart far = rests
dialled_by calls line of to (Some (Hearing tone)) rests apart far = rests
dialled_by calls line of to (Some (InCall part)) rests apart far = rests
dialled_by calls line of to None rests apart far = rests

dialled_rests : (calls : CallState) (line of : ℕ) (to : Option ℕ) → slice_get calls.phases line ≡ Some Resting → of ≢ line
    → dials line (Dialled to) ≡ false → slice_get (dialled calls of to).phases line ≡ Some Resting
unfolding dialled
dialled_rests calls line of to rests apart far = dialled_by calls line of to (slice_get calls.phases of) rests apart far

heard_rests : (calls : CallState) (line of : ℕ) (event : Told) → slice_get calls.phases line ≡ Some Resting → AreMutual calls.phases → of ≢ line
    → dials line event ≡ false → slice_get (heard calls of event).phases line ≡ Some Resting
unfolding heard
heard_rests calls line of OffHook rests named apart far = picked_rests calls.phases line rests named of apart
heard_rests calls line of OnHook rests named apart far = hung_rests calls.phases line rests named of apart
heard_rests calls line of Flash rests named apart far = rests
heard_rests calls line of (Dialled to) rests named apart far = dialled_rests calls line of to rests apart far
heard_rests calls line of TimedOut rests named apart far = timed_rests calls.phases line rests named of apart
heard_rests calls line of Restarted rests named apart far = restarted_rests calls.phases line rests named of apart
heard_rests calls line of Disconnected rests named apart far = rests

-- a telephone that isn't the line's, and doesn't dial the line
apart_by : (line of : ℕ) (event : Told) → leaves_alone line (tells of event) ≡ true → (of ≢ line) × (dials line event ≡ false)
apart_by line of event e =
    let parts = and_parts (not (of == line)) (not (dials line event)) e in
    let far : of ≢ line = λ (same : of ≡ line). true≢false (sym (eq-eqb of line same) ∙ not-true (of == line) parts.0) in
    (far, not-true (dials line event) parts.1)

one_rests : (exchange : ExchangeState) (line : ℕ) (turn : Turn) → phase_of exchange line ≡ Some Resting → AreMutual exchange.calls.phases
    → leaves_alone line turn ≡ true → phase_of (after_one exchange turn) line ≡ Some Resting
unfolding told answered cleared_at
one_rests exchange line (tells of event) rests named alone =
    let apart = apart_by line of event alone in
    heard_rests exchange.calls line of event rests named apart.0 apart.1
one_rests exchange line (answers of outcome) rests named alone =
    let flight = flight_in (line_of exchange of) in
    let hook = finding flight outcome in
    failed_rests (found exchange.calls.phases of hook) line (found_rests exchange.calls.phases line rests named of hook)
    (found_mutual exchange.calls.phases of hook named) of (failing flight (fate_at exchange of outcome))
one_rests exchange line (sends of) rests named alone =
    ap (λ (phases : List Phase). slice_get phases line) (sent_to_phases exchange of) ∙ rests
one_rests exchange line (clears of code) rests named alone = rests

-- What it waits for gets less

abbrev remaining_of : Option Line → ℕ
remaining_of None = 0
remaining_of (Some line) = left_of line

abbrev remaining : ℕ → ExchangeState → ℕ
remaining line exchange = remaining_of (line_of exchange line)

remaining_most : (found : Option Line) → remaining_of found ≤ 3
remaining_most None = omega arith
remaining_most (Some line) = three_most line

-- A turn leaves so many answers, of so many: each that is a code which doesn't put a command off is one fewer; and how many are put off
-- in a row, counted with the codes
pub record Leaves (was is coded settled before behind : ℕ) : Type 0 where
  pub left : is + settled ≤ was
  pub row : (is + most_put_off * is) + (coded + before) ≤ (was + most_put_off * was) + behind

abbrev row : ℕ → ExchangeState → ℕ
row line exchange = row_of (line_of exchange line)

abbrev Lessens : ℕ → ExchangeState → Turn → Type 0
Lessens line exchange turn =
    Leaves (remaining line exchange) (remaining line (after_one exchange turn)) (count_if (is_coded line exchange turn))
    (count_if (is_settled line exchange turn)) (row line exchange) (row line (after_one exchange turn))

-- what answers nothing, and leaves no more
no_more : (line : ℕ) (exchange : ExchangeState) (turn : Turn) → is_coded line exchange turn ≡ false
    → remaining line (after_one exchange turn) ≤ remaining line exchange → row line (after_one exchange turn) ≡ row line exchange → Lessens line exchange turn
no_more line exchange turn none less same =
    let zero_more : count_if (is_coded line exchange turn) ≡ 0 = ap count_if none in
    let none_settled : count_if (is_settled line exchange turn) ≡ 0 =
    ap (λ (b : Bool). count_if (b && not (is_put_off line exchange turn))) none in
    record { left = omega (arith, none_settled, less); row = omega (arith, zero_more, less, same) }

no_less : (line : ℕ) (exchange : ExchangeState) (turn : Turn) → is_coded line exchange turn ≡ false
    → line_of (after_one exchange turn) line ≡ line_of exchange line → Lessens line exchange turn
no_less line exchange turn none same =
    let as_before : remaining line (after_one exchange turn) ≡ remaining line exchange = ap remaining_of same in
    no_more line exchange turn none (omega (arith, as_before)) (ap row_of same)

-- what became of the command in flight to a line that rests

abbrev settled_as : Bool → Outcome → Bool → Bool
settled_as flies outcome put = (flies && not (is_given_up outcome)) && not put

landed_flying : (outcome : Outcome) (line : Line) (b : Bool) → is_some line.flight ≡ b → times_of line.put_off ≤ most_put_off
    → Leaves (left_of line) (left_of (landed (fate_in (Some line) (Some Resting) outcome) outcome line)) (count_if (b && not (is_given_up outcome)))
    (count_if (settled_as b outcome (is_some (put_off_by (fate_in (Some line) (Some Resting) outcome))))) (times_of line.put_off)
    (times_of (landed (fate_in (Some line) (Some Resting) outcome) outcome line).put_off)
landed_flying outcome line true flies most =
    let lands = landed_lands outcome line flies most in
    let left = lands.left in
    let room = lands.row in
    record { left = omega (arith, left); row = omega (arith, room) }
landed_flying outcome line false free most =
    let same = landed_idle (fate_in (Some line) (Some Resting) outcome) outcome line (no_flight line.flight free) in
    let left : left_of (landed (fate_in (Some line) (Some Resting) outcome) outcome line) ≡ left_of line = ap left_of same in
    let off : times_of (landed (fate_in (Some line) (Some Resting) outcome) outcome line).put_off ≡ times_of line.put_off =
    ap (λ (is : Line). times_of is.put_off) same in
    record { left = omega (arith, left); row = omega (arith, left, off) }

landed_on : (outcome : Outcome) (found : Option Line) → row_of found ≤ most_put_off
    → Leaves (remaining_of found) (remaining_of (option_map (landed (fate_in found (Some Resting) outcome) outcome) found))
    (count_if (is_flying found && not (is_given_up outcome)))
    (count_if (settled_as (is_flying found) outcome (is_some (put_off_by (fate_in found (Some Resting) outcome))))) (row_of found)
    (row_of (option_map (landed (fate_in found (Some Resting) outcome) outcome) found))
landed_on outcome None most = record { left = omega arith; row = omega arith }
landed_on outcome (Some line) most = landed_flying outcome line (is_some line.flight) refl most

-- the line rests also as the answer finds it
resting_fate : (exchange : ExchangeState) (line : ℕ) (outcome : Outcome) → phase_of exchange line ≡ Some Resting → AreMutual exchange.calls.phases
    → fate_at exchange line outcome ≡ fate_in (line_of exchange line) (Some Resting) outcome
resting_fate exchange line outcome rests named =
    ap (λ (phase : Option Phase). fate_in (line_of exchange line) phase outcome)
    (found_rests exchange.calls.phases line rests named line (finding (flight_in (line_of exchange line)) outcome))

answer_here : (line : ℕ) (exchange : ExchangeState) (outcome : Outcome) → phase_of exchange line ≡ Some Resting → AreMutual exchange.calls.phases
    → row line exchange ≤ most_put_off → Lessens line exchange (answers line outcome)
unfolding answered
answer_here line exchange outcome rests named most =
    let fate = resting_fate exchange line outcome rests named in
    let found = line_of exchange line in
    let here : (line == line) ≡ true = eq-eqb line line refl in
    let coded : is_coded line exchange (answers line outcome) ≡ is_flying found && not (is_given_up outcome) =
    ap (λ (b : Bool). b && (is_flying found && not (is_given_up outcome))) here in
    let settled : is_settled line exchange (answers line outcome)
    ≡ settled_as (is_flying found) outcome (is_some (put_off_by (fate_in found (Some Resting) outcome))) =
    ap (λ (b : Bool). (b && (is_flying found && not (is_given_up outcome))) && not (b && is_some (put_off_by (fate_at exchange line outcome)))) here
    ∙ ap (λ (f : Fate). (is_flying found && not (is_given_up outcome)) && not (is_some (put_off_by f))) fate in
    let then_is : line_of (answered exchange line outcome) line ≡ option_map (landed (fate_in found (Some Resting) outcome) outcome) found =
    changed_here (landed (fate_at exchange line outcome) outcome) exchange.lines line
    ∙ ap (λ (f : Fate). option_map (landed f outcome) found) fate in
    let leaves = landed_on outcome found most in
    let left = leaves.left in
    let room = leaves.row in
    let one : count_if (is_coded line exchange (answers line outcome)) ≡ count_if (is_flying found && not (is_given_up outcome)) = ap count_if coded in
    let two : count_if (is_settled line exchange (answers line outcome))
    ≡ count_if (settled_as (is_flying found) outcome (is_some (put_off_by (fate_in found (Some Resting) outcome)))) = ap count_if settled in
    let three : remaining line (answered exchange line outcome) ≡ remaining_of (option_map (landed (fate_in found (Some Resting) outcome) outcome) found) =
    ap remaining_of then_is in
    let four : row line (answered exchange line outcome) ≡ row_of (option_map (landed (fate_in found (Some Resting) outcome) outcome) found) =
    ap row_of then_is in
    record { left = omega (arith, left, two, three); row = omega (arith, room, one, three, four) }

answer_by : (line of : ℕ) (exchange : ExchangeState) (outcome : Outcome) → ((of ≡ line) ⊎ (of ≡ line → ⊥)) → phase_of exchange line ≡ Some Resting
    → AreMutual exchange.calls.phases → row line exchange ≤ most_put_off → Lessens line exchange (answers of outcome)
unfolding answered
answer_by line of exchange outcome (inl same) rests named most =
    subst (λ (n : ℕ). Lessens line exchange (answers n outcome)) (sym same) (answer_here line exchange outcome rests named most)
answer_by line of exchange outcome (inr apart) rests named most =
    no_less line exchange (answers of outcome)
    (ap (λ (b : Bool). b && (is_in_flight exchange of && not (is_given_up outcome))) (ne_eqb of line apart))
    (changed_other (landed (fate_at exchange of outcome) outcome) exchange.lines of line apart)

-- all that it has is deleted

clear_on : (code : ℕ) (found : Option Line) → remaining_of (option_map (cleared code) found) ≤ remaining_of found
clear_on code None = omega arith
clear_on code (Some line) = (cleared_less code line).0

clear_by : (line of code : ℕ) (exchange : ExchangeState) → ((of ≡ line) ⊎ (of ≡ line → ⊥)) → Lessens line exchange (clears of code)
unfolding cleared_at
clear_by line of code exchange (inr apart) =
    no_less line exchange (clears of code) refl (changed_other (cleared code) exchange.lines of line apart)
clear_by line of code exchange (inl same) =
    let found = line_of exchange line in
    let then_is : line_of (cleared_at exchange of code) line ≡ option_map (cleared code) found =
    ap (λ (n : ℕ). slice_get (changed (cleared code) exchange.lines n) line) same ∙ changed_here (cleared code) exchange.lines line in
    let left : remaining line (cleared_at exchange of code) ≡ remaining_of (option_map (cleared code) found) = ap remaining_of then_is in
    let less = clear_on code found in
    no_more line exchange (clears of code) refl (omega (arith, left, less)) (ap row_of then_is ∙ cleared_row code found)

-- what is sent to a line that rests

sent_line : (exchange : ExchangeState) (line : ℕ) (command : Option Command) (found : Option Line) → slice_get exchange.lines line ≡ found
    → line_of (sent_by exchange line command) line ≡ option_map (sent_if command) found
sent_line exchange line None None e = e
sent_line exchange line None (Some is) e = e
sent_line exchange line (Some command) None e = changed_here (sent command) exchange.lines line ∙ ap (option_map (sent command)) e
sent_line exchange line (Some command) (Some is) e = changed_here (sent command) exchange.lines line ∙ ap (option_map (sent command)) e

send_on : (exchange : ExchangeState) (found : Option Line) → remaining_of (option_map (sent_if (due_by exchange (Some Resting) found)) found) ≤ remaining_of found
send_on exchange None = omega arith
send_on exchange (Some is) = sent_no_more (is_ready exchange.lines (talks_in Resting)) is

due_resting : (exchange : ExchangeState) (line : ℕ) → phase_of exchange line ≡ Some Resting → due exchange line ≡ due_by exchange (Some Resting) (line_of exchange line)
unfolding due
due_resting exchange line rests = ap (λ (phase : Option Phase). due_by exchange phase (line_of exchange line)) rests

send_here : (line : ℕ) (exchange : ExchangeState) → phase_of exchange line ≡ Some Resting
    → remaining line (sent_by exchange line (due exchange line)) ≤ remaining line exchange
send_here line exchange rests =
    let next = due_resting exchange line rests in
    let then_is : remaining line (sent_by exchange line (due exchange line))
    ≡ remaining_of (option_map (sent_if (due_by exchange (Some Resting) (line_of exchange line))) (line_of exchange line)) =
    ap remaining_of (sent_line exchange line (due exchange line) (line_of exchange line) refl)
    ∙ ap (λ (command : Option Command). remaining_of (option_map (sent_if command) (line_of exchange line))) next in
    let less = send_on exchange (line_of exchange line) in
    omega (arith, then_is, less)

sent_far : (line of : ℕ) (exchange : ExchangeState) (command : Option Command) → of ≢ line → line_of (sent_by exchange of command) line ≡ line_of exchange line
sent_far line of exchange None apart = refl
sent_far line of exchange (Some command) apart = changed_other (sent command) exchange.lines of line apart

send_by : (line of : ℕ) (exchange : ExchangeState) → phase_of exchange line ≡ Some Resting → ((of ≡ line) ⊎ (of ≡ line → ⊥)) → Lessens line exchange (sends of)
unfolding sent_to
send_by line of exchange rests (inl same) =
    let here : remaining line (sent_by exchange of (due exchange of)) ≡ remaining line (sent_by exchange line (due exchange line)) =
    ap (λ (n : ℕ). remaining line (sent_by exchange n (due exchange n))) same in
    let less = send_here line exchange rests in
    no_more line exchange (sends of) refl (omega (arith, here, less))
    (ap (λ (n : ℕ). row_of (line_of (sent_by exchange n (due exchange n)) line)) same ∙ sent_row (due exchange line) exchange line)
send_by line of exchange rests (inr apart) = no_less line exchange (sends of) refl (sent_far line of exchange (due exchange of) apart)

lessens : (line : ℕ) (exchange : ExchangeState) (turn : Turn) → phase_of exchange line ≡ Some Resting → AreMutual exchange.calls.phases
    → row line exchange ≤ most_put_off → leaves_alone line turn ≡ true → Lessens line exchange turn
unfolding told
lessens line exchange (tells of event) rests named most alone =
    no_less line exchange (tells of event) refl (changed_other (heard_on event) exchange.lines of line (apart_by line of event alone).0)
lessens line exchange (answers of outcome) rests named most alone = answer_by line of exchange outcome (cases_eq of line) rests named most
lessens line exchange (sends of) rests named most alone = send_by line of exchange rests (cases_eq of line)
lessens line exchange (clears of code) rests named most alone = clear_by line of code exchange (cases_eq of line)

-- All turns

all_rest : (exchange : ExchangeState) (line : ℕ) (turns : List Turn) → phase_of exchange line ≡ Some Resting → AreMutual exchange.calls.phases
    → AreQuietFor line turns → phase_of (after exchange turns) line ≡ Some Resting
unfolding after
all_rest exchange line [] rests named quiet = rests
all_rest exchange line (turn ∷ turns) rests named quiet =
    let parts = and_parts (leaves_alone line turn) (list_all (leaves_alone line) turns) quiet in
    all_rest (after_one exchange turn) line turns (one_rests exchange line turn rests named parts.0) (one_mutual exchange turn named) parts.1

all_lessen : (exchange : ExchangeState) (line : ℕ) (turns : List Turn) → phase_of exchange line ≡ Some Resting → AreMutual exchange.calls.phases
    → row line exchange ≤ most_put_off → AreQuietFor line turns
    → Leaves (remaining line exchange) (remaining line (after exchange turns)) (count_turns (is_coded line) exchange turns)
    (count_turns (is_settled line) exchange turns) (row line exchange) (row line (after exchange turns))
unfolding after count_turns
all_lessen exchange line [] rests named most quiet = record { left = omega arith; row = omega arith }
all_lessen exchange line (turn ∷ turns) rests named most quiet =
    let parts = and_parts (leaves_alone line turn) (list_all (leaves_alone line) turns) quiet in
    let one = lessens line exchange turn rests named most parts.0 in
    let more =
    all_lessen (after_one exchange turn) line turns (one_rests exchange line turn rests named parts.0) (one_mutual exchange turn named)
    (one_short exchange line turn most) parts.1 in
    let left = one.left in
    let room = one.row in
    let left_then = more.left in
    let room_then = more.row in
    record { left = omega (arith, left, left_then); row = omega (arith, room, room_then) }

-- The laws

pub stays_at_rest : (count last line : ℕ) (before turns : List Turn) → phase_of (after (opening count last) before) line ≡ Some Resting
    → AreQuietFor line turns → phase_of (after (after (opening count last) before) turns) line ≡ Some Resting
stays_at_rest count last line before turns rests quiet =
    all_rest (after (opening count last) before) line turns rests (always_mutual count last before) quiet

-- what is left of a line that rests, and stands after these turns
abbrev LeavesAfter : ℕ → ℕ → ℕ → List Turn → List Turn → Type 0
LeavesAfter count last line before turns =
    Leaves (remaining line (after (opening count last) before)) (remaining line (after (after (opening count last) before) turns))
    (count_turns (is_coded line) (after (opening count last) before) turns) (count_turns (is_settled line) (after (opening count last) before) turns)
    (row line (after (opening count last) before)) (row line (after (after (opening count last) before) turns))

leaves_after : (count last line : ℕ) (before turns : List Turn) → phase_of (after (opening count last) before) line ≡ Some Resting
    → AreQuietFor line turns → LeavesAfter count last line before turns
leaves_after count last line before turns rests quiet =
    all_lessen (after (opening count last) before) line turns rests (always_mutual count last before) (always_short count last line before) quiet

pub three_at_most : (count last line : ℕ) (before turns : List Turn) → phase_of (after (opening count last) before) line ≡ Some Resting
    → AreQuietFor line turns → count_turns (is_settled line) (after (opening count last) before) turns ≤ 3
three_at_most count last line before turns rests quiet =
    let leaves = leaves_after count last line before turns rests quiet in
    let left = leaves.left in
    let most = remaining_most (line_of (after (opening count last) before) line) in
    omega (arith, left, most)

pub so_many_in_all : (count last line : ℕ) (before turns : List Turn) → phase_of (after (opening count last) before) line ≡ Some Resting
    → AreQuietFor line turns → count_turns (is_coded line) (after (opening count last) before) turns ≤ 3 + 4 * most_put_off
so_many_in_all count last line before turns rests quiet =
    let leaves = leaves_after count last line before turns rests quiet in
    let room = leaves.row in
    let most = remaining_most (line_of (after (opening count last) before) line) in
    let short = all_short (after (opening count last) before) line turns (always_short count last line before) in
    omega (arith, room, most, short)

-- where none is put off no more are answered than are settled

parts : (coded put_off : Bool) → count_if coded ≤ count_if (coded && not put_off) + count_if put_off
parts true true = omega arith
parts true false = omega arith
parts false true = omega arith
parts false false = omega arith

coded_parts : (line : ℕ) (exchange : ExchangeState) (turns : List Turn)
    → count_turns (is_coded line) exchange turns ≤ count_turns (is_settled line) exchange turns + count_turns (is_put_off line) exchange turns
unfolding count_turns
coded_parts line exchange [] = omega arith
coded_parts line exchange (turn ∷ turns) =
    let one : count_if (is_coded line exchange turn) ≤ count_if (is_settled line exchange turn) + count_if (is_put_off line exchange turn) =
    parts (is_coded line exchange turn) (is_put_off line exchange turn) in
    let behind = coded_parts line (after_one exchange turn) turns in
    omega (arith, one, behind)

pub three_in_all : (count last line : ℕ) (before turns : List Turn) → phase_of (after (opening count last) before) line ≡ Some Resting
    → AreQuietFor line turns → count_turns (is_put_off line) (after (opening count last) before) turns ≡ 0
    → count_turns (is_coded line) (after (opening count last) before) turns ≤ 3
three_in_all count last line before turns rests quiet none =
    let both = coded_parts line (after (opening count last) before) turns in
    let few = three_at_most count last line before turns rests quiet in
    omega (arith, both, few, none)

clear_of : (found : Option Line) (is : Line) → remaining_of found ≤ 0 → found ≡ Some is → IsClear is
clear_of None is none e = absurd cc
clear_of (Some line) is none e =
    let same : line ≡ is = cc in subst IsClear same (clear_at_none line none)

pub rest_after_three : (count last line : ℕ) (before turns : List Turn) → phase_of (after (opening count last) before) line ≡ Some Resting
    → AreQuietFor line turns → 3 ≤ count_turns (is_settled line) (after (opening count last) before) turns
    → IsAtRest (after (after (opening count last) before) turns) line
rest_after_three count last line before turns rests quiet three =
    let exchange = after (opening count last) before in
    let left = (leaves_after count last line before turns rests quiet).left in
    let most = remaining_most (line_of exchange line) in
    let none : remaining line (after exchange turns) ≤ 0 = omega (arith, left, most, three) in
    record {
      no_call = all_rest exchange line turns rests (always_mutual count last before) quiet;
      clear = λ is e. clear_of (line_of (after exchange turns) line) is none e;
    }

-- until then it goes on

idle_of : (exchange : ExchangeState) (found : Option Line) (is : Line) → is_flying found ≡ false → due_by exchange (Some Resting) found ≡ None
    → found ≡ Some is → IsClear is
idle_of exchange None is free none e = absurd cc
idle_of exchange (Some line) is free none e =
    let same : line ≡ is = cc in subst IsClear same (clear_at_idle (is_ready exchange.lines (talks_in Resting)) line free none)

pub rest_where_idle : (count last line : ℕ) (turns : List Turn) → phase_of (after (opening count last) turns) line ≡ Some Resting
    → is_in_flight (after (opening count last) turns) line ≡ false → due (after (opening count last) turns) line ≡ None
    → IsAtRest (after (opening count last) turns) line
rest_where_idle count last line turns rests free none =
    let exchange = after (opening count last) turns in
    record {
      no_call = rests;
      clear = λ is e. idle_of exchange (line_of exchange line) is free (sym (due_resting exchange line rests) ∙ none) e;
    }
