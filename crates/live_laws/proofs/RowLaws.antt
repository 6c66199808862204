-- No more commands to a line are put off in a row than there may be.
use Rattle.std.proofs.Common.{◌≡◌, ◌≢◌, ℕ, zero, suc, ◌+◌, Bool, true, false, List, [], ◌∷◌, replicate, Option, Some, None, refl, sym, ap, ◌∙◌, inl, inr, ◌⊎◌, arith, ◌≤◌, ◌<◌, subst}
use Rattle.std.specs.Prelude.{◌&&◌, is_some, slice_get, option_map, if◌then◌else◌, nat_lt}
use Rattle.std.proofs.lemmas.Bool.{cases_eq, eq-eqb, ne_eqb, true≢false, and_parts, ltb-true}
use Rattle.call_processing.specs.declared.phase.Phase.{Phase}
use Rattle.call_processing.specs.declared.told.Told.{Told}
use Rattle.call_processing.specs.declared.command.Command.{Command}
use Rattle.call_processing.specs.declared.command.Outcome.{Outcome}
use Rattle.call_processing.specs.declared.line.Leg.TheVariants.{Absent}
use Rattle.call_processing.specs.declared.line.Line.{Line}
use Rattle.call_processing.specs.declared.told.Told.TheVariants.{OffHook, OnHook, Flash, Dialled, TimedOut, Restarted, Disconnected}
use Rattle.call_processing.specs.declared.fate.Fate.{Fate}
use Rattle.call_processing.specs.Phases.{talks_in, is_in}
use Rattle.call_processing.specs.Fates.{is_deleted, is_success, passes, most_put_off, times_of, refusal_fate, request_cause, is_wanted, refused_in_call, fate_of, put_off_then}
use Rattle.call_processing.specs.Line.{new_line, sent, landed, heard_on, cleared, landed_as}
use Rattle.call_processing.specs.Next.{is_ready}
use Rattle.call_processing.specs.Exchange.{ExchangeState, opening, phase_of, line_of, changed, told, fate_at, answered, cleared_at, due, due_by, sent_by, sent_to, flight_in, found_by, fate_with, fate_in}
use Rattle.live_laws.specs.CallTurns.{Turn, tells, answers, sends, clears, after_one, after, is_flying, is_in_flight, count_if, is_sent, is_answered, count_turns}
use Rattle.call_processing.proofs.ElementLemmas.{changed_here, changed_other}
use Rattle.live_laws.proofs.LineLemmas.{landed_none, sent_flies, blocked, unblocked, sent_put_off, cleared_less}
use Rattle.call_processing.specs.declared.asked.Asked.{Asked}
use Rattle.call_processing.specs.declared.command.Command.TheVariants.{Ask, Create, Modify, Delete}
use Rattle.call_processing.specs.declared.command.Outcome.TheVariants.{Created, Answered, GivenUp}
use Rattle.call_processing.specs.declared.fate.Cause.{Cause}
use Rattle.call_processing.specs.declared.fate.Cause.TheVariants as causes
use Rattle.call_processing.specs.declared.fate.PutOff.{PutOff}
use Rattle.call_processing.specs.declared.fate.Fate.TheVariants.{Done, Again, Refused, Open}

-- No command is sent to a line while one is in flight to it.

-- What is due

due_line : (exchange : ExchangeState) (phase : Option Phase) (found : Option Line) → is_flying found ≡ true → due_by exchange phase found ≡ None
due_line exchange phase None e = absurd (true≢false (sym e))
due_line exchange None (Some is) e = refl
due_line exchange (Some phase) (Some is) e = blocked phase (is_ready exchange.lines (talks_in phase)) is e

pub none_due : (exchange : ExchangeState) (line : ℕ) → is_in_flight exchange line ≡ true → due exchange line ≡ None
unfolding due
none_due exchange line e = due_line exchange (phase_of exchange line) (line_of exchange line) e

due_free : (exchange : ExchangeState) (phase : Option Phase) (found : Option Line) (command : Command) → due_by exchange phase found ≡ Some command
    → (is_flying found ≡ false) × (is_some found ≡ true)
due_free exchange None found command e = absurd cc
due_free exchange (Some phase) None command e = absurd cc
due_free exchange (Some phase) (Some is) command e = (unblocked phase (is_ready exchange.lines (talks_in phase)) is command e, refl)

pub free_where_due : (exchange : ExchangeState) (line : ℕ) (command : Command) → due exchange line ≡ Some command
    → (is_in_flight exchange line ≡ false) × (is_some (line_of exchange line) ≡ true)
unfolding due
free_where_due exchange line command e = due_free exchange (phase_of exchange line) (line_of exchange line) command e

-- What a turn leaves in flight

heard_flight : (event : Told) (is : Line) → (heard_on event is).flight ≡ is.flight
heard_flight OffHook is = refl
heard_flight OnHook is = refl
heard_flight Flash is = refl
heard_flight (Dialled to) is = refl
heard_flight TimedOut is = refl
heard_flight Restarted is = refl
heard_flight Disconnected is = refl

heard_flying : (event : Told) (found : Option Line) → is_flying (option_map (heard_on event) found) ≡ is_flying found
heard_flying event None = refl
heard_flying event (Some is) = ap is_some (heard_flight event is)

pub landed_flying : (fate : Fate) (outcome : Outcome) (found : Option Line) → is_flying (option_map (landed fate outcome) found) ≡ false
landed_flying fate outcome None = refl
landed_flying fate outcome (Some is) = ap is_some (landed_none fate outcome is)

cleared_flight : (b : Bool) (code : ℕ) (is : Line)
    → (if b then record is { leg = Absent; left = None } else record is { left = Some code }).flight ≡ is.flight
cleared_flight true code is = refl
cleared_flight false code is = refl

cleared_flying : (code : ℕ) (found : Option Line) → is_flying (option_map (cleared code) found) ≡ is_flying found
unfolding cleared
cleared_flying code None = refl
cleared_flying code (Some is) = ap is_some (cleared_flight (is_deleted code) code is)

pub sent_flying : (command : Command) (found : Option Line) → is_some found ≡ true → is_flying (option_map (sent command) found) ≡ true
sent_flying command None e = absurd (true≢false (sym e))
sent_flying command (Some is) e = sent_flies command is

-- A turn's balance: what was in flight and what is sent is what is answered and what is in flight then
abbrev Balances : ℕ → ExchangeState → Turn → Type 0
Balances line exchange turn =
    count_if (is_sent line exchange turn) + count_if (is_in_flight exchange line)
    ≡ count_if (is_answered line exchange turn) + count_if (is_in_flight (after_one exchange turn) line)

even : (line : ℕ) (exchange : ExchangeState) (turn : Turn) → is_sent line exchange turn ≡ false → is_answered line exchange turn ≡ false
    → is_in_flight (after_one exchange turn) line ≡ is_in_flight exchange line → Balances line exchange turn
even line exchange turn none_sent none_answered same =
    ap (λ (b : Bool). count_if b + count_if (is_in_flight exchange line)) none_sent
    ∙ ap (λ (b : Bool). count_if false + count_if b) (sym same)
    ∙ ap (λ (b : Bool). count_if b + count_if (is_in_flight (after_one exchange turn) line)) (sym none_answered)

pub tell_by : (line of : ℕ) (exchange : ExchangeState) (event : Told) → ((of ≡ line) ⊎ (of ≡ line → ⊥))
    → is_in_flight (told exchange of event) line ≡ is_in_flight exchange line
unfolding told
tell_by line of exchange event (inl same) =
    ap (λ (n : ℕ). is_flying (slice_get (changed (heard_on event) exchange.lines n) line)) same
    ∙ ap is_flying (changed_here (heard_on event) exchange.lines line)
    ∙ heard_flying event (slice_get exchange.lines line)
tell_by line of exchange event (inr apart) = ap is_flying (changed_other (heard_on event) exchange.lines of line apart)

pub clear_by : (line of code : ℕ) (exchange : ExchangeState) → ((of ≡ line) ⊎ (of ≡ line → ⊥))
    → is_in_flight (cleared_at exchange of code) line ≡ is_in_flight exchange line
unfolding cleared_at
clear_by line of code exchange (inl same) =
    ap (λ (n : ℕ). is_flying (slice_get (changed (cleared code) exchange.lines n) line)) same
    ∙ ap is_flying (changed_here (cleared code) exchange.lines line)
    ∙ cleared_flying code (slice_get exchange.lines line)
clear_by line of code exchange (inr apart) = ap is_flying (changed_other (cleared code) exchange.lines of line apart)

answer_by : (line of : ℕ) (exchange : ExchangeState) (outcome : Outcome) → ((of ≡ line) ⊎ (of ≡ line → ⊥)) → Balances line exchange (answers of outcome)
unfolding answered
answer_by line of exchange outcome (inl same) =
    let here : is_answered line exchange (answers of outcome) ≡ is_in_flight exchange line =
    ap (λ (b : Bool). b && is_in_flight exchange of) (eq-eqb of line same) ∙ ap (is_in_flight exchange) same in
    let fate = fate_at exchange of outcome in
    let gone : is_in_flight (answered exchange of outcome) line ≡ false =
    ap (λ (n : ℕ). is_flying (slice_get (changed (landed fate outcome) exchange.lines n) line)) same
    ∙ ap is_flying (changed_here (landed fate outcome) exchange.lines line)
    ∙ landed_flying fate outcome (slice_get exchange.lines line) in
    let one : count_if (is_answered line exchange (answers of outcome)) ≡ count_if (is_in_flight exchange line) = ap count_if here in
    let none : count_if (is_in_flight (answered exchange of outcome) line) ≡ 0 = ap count_if gone in
    omega (arith, one, none)
answer_by line of exchange outcome (inr apart) =
    even line exchange (answers of outcome) refl (ap (λ (b : Bool). b && is_in_flight exchange of) (ne_eqb of line apart))
    (ap is_flying (changed_other (landed (fate_at exchange of outcome) outcome) exchange.lines of line apart))

send_here : (line : ℕ) (exchange : ExchangeState) (command : Option Command) → due exchange line ≡ command
    → count_if (is_some command) + count_if (is_in_flight exchange line) ≡ count_if (is_in_flight (sent_by exchange line command) line)
send_here line exchange None e = omega arith
send_here line exchange (Some command) e =
    let free = free_where_due exchange line command e in
    let none : count_if (is_in_flight exchange line) ≡ 0 = ap count_if free.0 in
    let flies : count_if (is_in_flight (sent_by exchange line (Some command)) line) ≡ 1 =
    ap count_if (ap is_flying (changed_here (sent command) exchange.lines line) ∙ sent_flying command (slice_get exchange.lines line) free.1) in
    omega (arith, none, flies)

pub sent_far : (line of : ℕ) (exchange : ExchangeState) (command : Option Command) → of ≢ line
    → is_in_flight (sent_by exchange of command) line ≡ is_in_flight exchange line
sent_far line of exchange None apart = refl
sent_far line of exchange (Some command) apart = ap is_flying (changed_other (sent command) exchange.lines of line apart)

send_by : (line of : ℕ) (exchange : ExchangeState) → ((of ≡ line) ⊎ (of ≡ line → ⊥)) → Balances line exchange (sends of)
unfolding sent_to
send_by line of exchange (inl same) =
    let one : is_sent line exchange (sends of) ≡ is_some (due exchange line) =
    ap (λ (b : Bool). b && is_some (due exchange of)) (eq-eqb of line same) ∙ ap (λ (n : ℕ). is_some (due exchange n)) same in
    let then_flies : is_in_flight (sent_by exchange of (due exchange of)) line ≡ is_in_flight (sent_by exchange line (due exchange line)) line =
    ap (λ (n : ℕ). is_in_flight (sent_by exchange n (due exchange n)) line) same in
    let counted : count_if (is_sent line exchange (sends of)) ≡ count_if (is_some (due exchange line)) = ap count_if one in
    let flies : count_if (is_in_flight (sent_by exchange of (due exchange of)) line) ≡ count_if (is_in_flight (sent_by exchange line (due exchange line)) line) =
    ap count_if then_flies in
    let here = send_here line exchange (due exchange line) refl in
    omega (arith, counted, flies, here)
send_by line of exchange (inr apart) =
    even line exchange (sends of) (ap (λ (b : Bool). b && is_some (due exchange of)) (ne_eqb of line apart)) refl
    (sent_far line of exchange (due exchange of) apart)

balance : (line : ℕ) (exchange : ExchangeState) (turn : Turn) → Balances line exchange turn
balance line exchange (tells of event) = even line exchange (tells of event) refl refl (tell_by line of exchange event (cases_eq of line))
balance line exchange (answers of outcome) = answer_by line of exchange outcome (cases_eq of line)
balance line exchange (sends of) = send_by line of exchange (cases_eq of line)
balance line exchange (clears of code) = even line exchange (clears of code) refl refl (clear_by line of code exchange (cases_eq of line))

balanced : (line : ℕ) (exchange : ExchangeState) (turns : List Turn)
    → count_turns (is_sent line) exchange turns + count_if (is_in_flight exchange line)
    ≡ count_turns (is_answered line) exchange turns + count_if (is_in_flight (after exchange turns) line)
unfolding after count_turns
balanced line exchange [] = refl
balanced line exchange (turn ∷ turns) =
    let one = balance line exchange turn in
    let more = balanced line (after_one exchange turn) turns in
    omega (arith, one, more)

-- at the opening

pub new_free : (count line : ℕ) → is_flying (slice_get (replicate count new_line) line) ≡ false
new_free zero line = refl
new_free (suc count) zero = refl
new_free (suc count) (suc line) = new_free count line

pub sent_as_answered : (count last line : ℕ) (turns : List Turn)
    → count_turns (is_sent line) (opening count last) turns
    ≡ count_turns (is_answered line) (opening count last) turns + count_if (is_in_flight (after (opening count last) turns) line)
sent_as_answered count last line turns =
    let all = balanced line (opening count last) turns in
    let none : count_if (is_in_flight (opening count last) line) ≡ 0 = ap count_if (new_free count line) in
    omega (arith, all, none)

-- A fate

abbrev IsShort : Fate → Option PutOff → Type 0
IsShort fate off = times_of (put_off_then fate off) ≤ most_put_off

refusal_short : (cause : Cause) (code : ℕ) (off : Option PutOff) (b : Bool) → (b ≡ true → times_of off < most_put_off)
    → IsShort (if b then Again (record { cause = cause; times = times_of off + 1 }) else Refused code) off
refusal_short cause code off true less = let more = less refl in omega (arith, more)
refusal_short cause code off false less = omega arith

refused_short : (cause : Cause) (code : ℕ) (off : Option PutOff) → IsShort (refusal_fate cause code off) off
refused_short cause code off =
    refusal_short cause code off (passes cause code && nat_lt (times_of off) most_put_off)
    (λ (e : (passes cause code && nat_lt (times_of off) most_put_off) ≡ true).
    ltb-true (times_of off) most_put_off (and_parts (passes cause code) (nat_lt (times_of off) most_put_off) e).1)

either : (b : Bool) (one other : Fate) (off : Option PutOff) → IsShort one off → IsShort other off → IsShort (if b then one else other) off
either true one other off first second = first
either false one other off first second = second

none_short : (off : Option PutOff) → IsShort Done off
none_short off = omega arith

request_short : (asked : Asked) (phase : Option Phase) (off : Option PutOff) (code : ℕ) → times_of off ≤ most_put_off
    → IsShort (if is_success code then Done else if is_wanted asked phase then refusal_fate (request_cause code) code off else Open) off
request_short asked phase off code most =
    either (is_success code) Done (if is_wanted asked phase then refusal_fate (request_cause code) code off else Open) off (none_short off)
    (either (is_wanted asked phase) (refusal_fate (request_cause code) code off) Open off (refused_short (request_cause code) code off) most)

call_short : (call : ℕ) (phase : Option Phase) (off : Option PutOff) (code : ℕ) → times_of off ≤ most_put_off → IsShort (refused_in_call call phase off code) off
call_short call phase off code most =
    either (is_in call phase) (refusal_fate causes.Connection code off) Open off (refused_short causes.Connection code off) most

code_short : (command : Command) (phase : Option Phase) (off : Option PutOff) (code : ℕ) → times_of off ≤ most_put_off
    → IsShort (fate_of command phase off (Answered code)) off
code_short (Ask asked) phase off code most = request_short asked phase off code most
code_short (Create call joined) phase off code most =
    either (is_success code) Open (refused_in_call call phase off code) off most (call_short call phase off code most)
code_short (Modify call) phase off code most =
    either (is_success code) Done (refused_in_call call phase off code) off (none_short off) (call_short call phase off code most)
code_short (Delete call) phase off code most =
    either (is_deleted code) Done (refusal_fate causes.Connection code off) off (none_short off) (refused_short causes.Connection code off)

fate_short : (command : Command) (phase : Option Phase) (off : Option PutOff) (outcome : Outcome) → times_of off ≤ most_put_off
    → IsShort (fate_of command phase off outcome) off
fate_short command phase off (Created connection description) most = none_short off
fate_short command phase off (Answered code) most = code_short command phase off code most
fate_short command phase off GivenUp most = most

-- A line

abbrev pub row_of : Option Line → ℕ
row_of None = 0
row_of (Some line) = times_of line.put_off

landed_by : (flight : Option Command) (phase : Option Phase) (outcome : Outcome) (line : Line) → times_of line.put_off ≤ most_put_off
    → times_of (landed_as flight (fate_with flight phase line.put_off outcome) outcome line).put_off ≤ most_put_off
landed_by None phase outcome line most = most
landed_by (Some (Ask asked)) phase outcome line most = fate_short (Ask asked) phase line.put_off outcome most
landed_by (Some (Create call joined)) phase outcome line most = fate_short (Create call joined) phase line.put_off outcome most
landed_by (Some (Modify call)) phase outcome line most = fate_short (Modify call) phase line.put_off outcome most
landed_by (Some (Delete call)) phase outcome line most = fate_short (Delete call) phase line.put_off outcome most

landed_row : (phase : Option Phase) (outcome : Outcome) (found : Option Line) → row_of found ≤ most_put_off
    → row_of (option_map (landed (fate_in found phase outcome) outcome) found) ≤ most_put_off
unfolding landed
landed_row phase outcome None most = most
landed_row phase outcome (Some line) most = landed_by line.flight phase outcome line most

heard_row : (event : Told) (found : Option Line) → row_of found ≤ most_put_off → row_of (option_map (heard_on event) found) ≤ most_put_off
heard_row event None most = most
heard_row OffHook (Some line) most = most
heard_row OnHook (Some line) most = most
heard_row Flash (Some line) most = most
heard_row (Dialled to) (Some line) most = most
heard_row TimedOut (Some line) most = most
heard_row Restarted (Some line) most = omega arith
heard_row Disconnected (Some line) most = most

sent_same : (command : Command) (found : Option Line) → row_of (option_map (sent command) found) ≡ row_of found
sent_same command None = refl
sent_same command (Some line) = ap times_of (sent_put_off command line)

pub sent_row : (command : Option Command) (exchange : ExchangeState) (line : ℕ)
    → row_of (line_of (sent_by exchange line command) line) ≡ row_of (line_of exchange line)
sent_row None exchange line = refl
sent_row (Some command) exchange line =
    ap row_of (changed_here (sent command) exchange.lines line) ∙ sent_same command (line_of exchange line)

pub cleared_row : (code : ℕ) (found : Option Line) → row_of (option_map (cleared code) found) ≡ row_of found
cleared_row code None = refl
cleared_row code (Some line) = ap times_of (cleared_less code line).1

-- A turn

-- the phase in which an answer finds a line
abbrev pub found_phase : ExchangeState → ℕ → Outcome → Option Phase
found_phase exchange line outcome =
    slice_get (found_by exchange.calls.phases line (flight_in (line_of exchange line)) outcome) line

sent_other : (command : Option Command) (exchange : ExchangeState) (of line : ℕ) → of ≢ line → line_of (sent_by exchange of command) line ≡ line_of exchange line
sent_other None exchange of line apart = refl
sent_other (Some command) exchange of line apart = changed_other (sent command) exchange.lines of line apart

abbrev IsShortThen : ExchangeState → ℕ → Turn → Type 0
IsShortThen exchange line turn = row_of (line_of (after_one exchange turn) line) ≤ most_put_off

kept_short : (exchange : ExchangeState) (line : ℕ) (turn : Turn) → line_of (after_one exchange turn) line ≡ line_of exchange line
    → row_of (line_of exchange line) ≤ most_put_off → IsShortThen exchange line turn
kept_short exchange line turn same most =
    let row : row_of (line_of (after_one exchange turn) line) ≡ row_of (line_of exchange line) = ap row_of same in
    omega (arith, row, most)

tell_short : (exchange : ExchangeState) (line of : ℕ) (event : Told) → ((of ≡ line) ⊎ (of ≡ line → ⊥)) → row_of (line_of exchange line) ≤ most_put_off
    → IsShortThen exchange line (tells of event)
unfolding told
tell_short exchange line of event (inr apart) most =
    kept_short exchange line (tells of event) (changed_other (heard_on event) exchange.lines of line apart) most
tell_short exchange line of event (inl same) most =
    let row : row_of (line_of (told exchange of event) line) ≡ row_of (option_map (heard_on event) (line_of exchange line)) =
    ap (λ (n : ℕ). row_of (slice_get (changed (heard_on event) exchange.lines n) line)) same
    ∙ ap row_of (changed_here (heard_on event) exchange.lines line) in
    let short = heard_row event (line_of exchange line) most in
    omega (arith, row, short)

answered_short : (exchange : ExchangeState) (line : ℕ) (outcome : Outcome) → row_of (line_of exchange line) ≤ most_put_off
    → IsShortThen exchange line (answers line outcome)
unfolding answered
answered_short exchange line outcome most =
    let row : row_of (line_of (answered exchange line outcome) line)
    ≡ row_of (option_map (landed (fate_at exchange line outcome) outcome) (line_of exchange line)) =
    ap row_of (changed_here (landed (fate_at exchange line outcome) outcome) exchange.lines line) in
    let short = landed_row (found_phase exchange line outcome) outcome (line_of exchange line) most in
    omega (arith, row, short)

answer_short : (exchange : ExchangeState) (line of : ℕ) (outcome : Outcome) → ((of ≡ line) ⊎ (of ≡ line → ⊥)) → row_of (line_of exchange line) ≤ most_put_off
    → IsShortThen exchange line (answers of outcome)
unfolding answered
answer_short exchange line of outcome (inr apart) most =
    kept_short exchange line (answers of outcome) (changed_other (landed (fate_at exchange of outcome) outcome) exchange.lines of line apart) most
answer_short exchange line of outcome (inl same) most =
    subst (λ (n : ℕ). IsShortThen exchange line (answers n outcome)) (sym same) (answered_short exchange line outcome most)

send_short : (exchange : ExchangeState) (line of : ℕ) → ((of ≡ line) ⊎ (of ≡ line → ⊥)) → row_of (line_of exchange line) ≤ most_put_off
    → IsShortThen exchange line (sends of)
unfolding sent_to
send_short exchange line of (inr apart) most = kept_short exchange line (sends of) (sent_other (due exchange of) exchange of line apart) most
send_short exchange line of (inl same) most =
    let row : row_of (line_of (sent_by exchange of (due exchange of)) line) ≡ row_of (line_of exchange line) =
    ap (λ (n : ℕ). row_of (line_of (sent_by exchange n (due exchange n)) line)) same ∙ sent_row (due exchange line) exchange line in
    omega (arith, row, most)

clear_short : (exchange : ExchangeState) (line of code : ℕ) → ((of ≡ line) ⊎ (of ≡ line → ⊥)) → row_of (line_of exchange line) ≤ most_put_off
    → IsShortThen exchange line (clears of code)
unfolding cleared_at
clear_short exchange line of code (inr apart) most =
    kept_short exchange line (clears of code) (changed_other (cleared code) exchange.lines of line apart) most
clear_short exchange line of code (inl same) most =
    let row : row_of (line_of (cleared_at exchange of code) line) ≡ row_of (line_of exchange line) =
    ap (λ (n : ℕ). row_of (slice_get (changed (cleared code) exchange.lines n) line)) same
    ∙ ap row_of (changed_here (cleared code) exchange.lines line)
    ∙ cleared_row code (line_of exchange line) in
    omega (arith, row, most)

pub one_short : (exchange : ExchangeState) (line : ℕ) (turn : Turn) → row_of (line_of exchange line) ≤ most_put_off → IsShortThen exchange line turn
one_short exchange line (tells of event) most = tell_short exchange line of event (cases_eq of line) most
one_short exchange line (answers of outcome) most = answer_short exchange line of outcome (cases_eq of line) most
one_short exchange line (sends of) most = send_short exchange line of (cases_eq of line) most
one_short exchange line (clears of code) most = clear_short exchange line of code (cases_eq of line) most

pub all_short : (exchange : ExchangeState) (line : ℕ) (turns : List Turn) → row_of (line_of exchange line) ≤ most_put_off
    → row_of (line_of (after exchange turns) line) ≤ most_put_off
unfolding after
all_short exchange line [] most = most
all_short exchange line (turn ∷ turns) most = all_short (after_one exchange turn) line turns (one_short exchange line turn most)

new_short : (count line : ℕ) → row_of (slice_get (replicate count new_line) line) ≤ most_put_off
new_short zero line = omega arith
new_short (suc count) zero = omega arith
new_short (suc count) (suc line) = new_short count line

pub always_short : (count last line : ℕ) (turns : List Turn) → row_of (line_of (after (opening count last) turns) line) ≤ most_put_off
always_short count last line turns = all_short (opening count last) line turns (new_short count line)

-- The law

pub few_in_a_row : (count last line : ℕ) (turns : List Turn) (is : Line) → line_of (after (opening count last) turns) line ≡ Some is
    → times_of is.put_off ≤ most_put_off
few_in_a_row count last line turns is e =
    let same : row_of (line_of (after (opening count last) turns) line) ≡ times_of is.put_off = ap row_of e in
    let short = always_short count last line turns in
    omega (arith, same, short)
