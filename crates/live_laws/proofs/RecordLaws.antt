-- What is on record of a line was answered so.
use Rattle.std.proofs.Common.{◌≡◌, ◌≢◌, ℕ, ◌+◌, ◌≤◌, Bool, true, false, List, [], ◌∷◌, ◌++◌, Option, Some, None, refl, sym, ap, subst, ◌∙◌, inl, inr, ◌⊎◌, arith}
use Rattle.std.specs.Prelude.{◌==◌, ◌&&◌, not, is_some, is_none, nat_lt, option_map, if◌then◌else◌}
use Rattle.std.proofs.lemmas.Bool.{cases_eq, eq-eqb, true≢false}
use Rattle.call_processing.specs.declared.phase.Phase.{Phase}
use Rattle.call_processing.specs.declared.asked.Asked.{Asked}
use Rattle.call_processing.specs.declared.told.Told.{Told}
use Rattle.call_processing.specs.declared.told.Told.TheVariants.{OffHook, OnHook, Flash, Dialled, TimedOut, Restarted, Disconnected}
use Rattle.call_processing.specs.declared.command.Command.{Command}
use Rattle.call_processing.specs.declared.command.Command.TheVariants.{Ask, Create, Modify, Delete}
use Rattle.call_processing.specs.declared.command.Outcome.{Outcome}
use Rattle.call_processing.specs.declared.command.Outcome.TheVariants.{Created, Answered, GivenUp}
use Rattle.call_processing.specs.declared.fate.Cause.TheVariants as causes
use Rattle.call_processing.specs.declared.fate.PutOff.{PutOff}
use Rattle.call_processing.specs.declared.fate.Fate.{Fate}
use Rattle.call_processing.specs.declared.fate.Fate.TheVariants.{Done, Again, Refused, Open}
use Rattle.call_processing.specs.declared.line.Leg.{Leg}
use Rattle.call_processing.specs.declared.line.Leg.TheVariants.{Absent}
use Rattle.call_processing.specs.declared.line.Line.{Line}
use Rattle.call_processing.specs.Fates.{is_success, is_deleted, may_pass, passes, most_put_off, times_of, request_cause, is_wanted, refused_by}
use Rattle.call_processing.specs.Line.{sent, landed, landed_as, asked_then, deleted_then, left_then, heard_on, cleared}
use Rattle.call_processing.specs.Exchange.{ExchangeState, opening, line_of, flight_in, told, fate_with, fate_in, fate_at, answered, cleared_at, due, sent_by, sent_to}
use Rattle.live_laws.specs.CallTurns.{Turn, tells, answers, sends, clears, after_one, after, is_flying, count_if, count_turns, is_request, is_creation, is_asked_on, is_absent, is_bare, says_done, accepts, ends_by, is_restart, ends}
use Rattle.call_processing.proofs.ElementLemmas.{changed_here, changed_other}
use Rattle.live_laws.proofs.RowLaws.{free_where_due, found_phase}
use Rattle.live_laws.proofs.LineLemmas.{sent_if}

-- A test of a line, that turns make true

abbrev Test : Type 0
Test = Option Line → Bool

abbrev Makes : Type 0
Makes = ExchangeState → Turn → Bool

-- the turn makes it true, or where it is true then it was before
abbrev Steps : Test → Makes → ℕ → ExchangeState → Turn → Type 0
Steps test makes line exchange turn =
    (makes exchange turn ≡ true) ⊎ (test (line_of (after_one exchange turn) line) ≡ true → test (line_of exchange line) ≡ true)

counted_first : (b : Bool) (n : ℕ) → b ≡ true → 1 ≤ count_if b + n
counted_first true n e = omega arith
counted_first false n e = absurd (true≢false (sym e))

counted_more : (b : Bool) (n : ℕ) → 1 ≤ n → 1 ≤ count_if b + n
counted_more true n e = omega (arith, e)
counted_more false n e = omega (arith, e)

module _ (test : Test) (makes : Makes) (line : ℕ) (steps : (exchange : ExchangeState) (turn : Turn) → Steps test makes line exchange turn) where
  -- what is true at the end and wasn't at the beginning was made true by a turn
  came_by : (exchange : ExchangeState) (turn : Turn) (n : ℕ) → Steps test makes line exchange turn → test (line_of exchange line) ≡ false
      → (test (line_of (after_one exchange turn) line) ≡ false → 1 ≤ n) → (b : Bool) → test (line_of (after_one exchange turn) line) ≡ b
      → 1 ≤ count_if (makes exchange turn) + n
  came_by exchange turn n (inl made) was more b e = counted_first (makes exchange turn) n made
  came_by exchange turn n (inr kept) was more true e = absurd (true≢false (sym (kept e) ∙ was))
  came_by exchange turn n (inr kept) was more false e = counted_more (makes exchange turn) n (more e)

  pub came : (exchange : ExchangeState) (turns : List Turn) → test (line_of exchange line) ≡ false → test (line_of (after exchange turns) line) ≡ true
      → 1 ≤ count_turns makes exchange turns
  unfolding after count_turns
  came exchange [] was is = absurd (true≢false (sym is ∙ was))
  came exchange (turn ∷ turns) was is =
      came_by exchange turn (count_turns makes (after_one exchange turn) turns) (steps exchange turn) was
      (λ (e : test (line_of (after_one exchange turn) line) ≡ false). came (after_one exchange turn) turns e is)
      (test (line_of (after_one exchange turn) line)) refl

-- A turn of another line changes nothing of this one

kept_far : (test : Test) (makes : Makes) (line : ℕ) (exchange : ExchangeState) (turn : Turn) → line_of (after_one exchange turn) line ≡ line_of exchange line
    → Steps test makes line exchange turn
kept_far test makes line exchange turn same =
    inr (λ (is : test (line_of (after_one exchange turn) line) ≡ true). sym (ap test same) ∙ is)

sent_far : (exchange : ExchangeState) (of line : ℕ) (command : Option Command) → of ≢ line → line_of (sent_by exchange of command) line ≡ line_of exchange line
sent_far exchange of line None apart = refl
sent_far exchange of line (Some command) apart = changed_other (sent command) exchange.lines of line apart

abbrev far_from : ℕ → Turn → Type 0
far_from line (tells of event) = of ≢ line
far_from line (answers of outcome) = of ≢ line
far_from line (sends of) = of ≢ line
far_from line (clears of code) = of ≢ line

far_same : (exchange : ExchangeState) (line : ℕ) (turn : Turn) → far_from line turn → line_of (after_one exchange turn) line ≡ line_of exchange line
unfolding told answered sent_to cleared_at
far_same exchange line (tells of event) apart = changed_other (heard_on event) exchange.lines of line apart
far_same exchange line (answers of outcome) apart = changed_other (landed (fate_at exchange of outcome) outcome) exchange.lines of line apart
far_same exchange line (sends of) apart = sent_far exchange of line (due exchange of) apart
far_same exchange line (clears of code) apart = changed_other (cleared code) exchange.lines of line apart

-- A turn of the line itself: what its record becomes

none_sent : (found : Option Line) → found ≡ option_map (sent_if None) found
none_sent None = refl
none_sent (Some is) = refl

sent_record : (exchange : ExchangeState) (line : ℕ) (command : Option Command)
    → line_of (sent_by exchange line command) line ≡ option_map (sent_if command) (line_of exchange line)
sent_record exchange line (Some command) = changed_here (sent command) exchange.lines line
sent_record exchange line None = none_sent (line_of exchange line)

sent_to_record : (exchange : ExchangeState) (line : ℕ) → line_of (sent_to exchange line) line ≡ option_map (sent_if (due exchange line)) (line_of exchange line)
unfolding sent_to
sent_to_record exchange line = sent_record exchange line (due exchange line)

told_record : (exchange : ExchangeState) (line : ℕ) (event : Told) → line_of (told exchange line event) line ≡ option_map (heard_on event) (line_of exchange line)
unfolding told
told_record exchange line event = changed_here (heard_on event) exchange.lines line

pub answered_record : (exchange : ExchangeState) (line : ℕ) (outcome : Outcome)
    → line_of (answered exchange line outcome) line ≡ option_map (landed (fate_at exchange line outcome) outcome) (line_of exchange line)
unfolding answered
answered_record exchange line outcome = changed_here (landed (fate_at exchange line outcome) outcome) exchange.lines line

cleared_record : (exchange : ExchangeState) (line code : ℕ) → line_of (cleared_at exchange line code) line ≡ option_map (cleared code) (line_of exchange line)
unfolding cleared_at
cleared_record exchange line code = changed_here (cleared code) exchange.lines line

-- whatever the record becomes, it steps so
abbrev Becomes : Test → Bool → Option Line → Option Line → Type 0
Becomes test made was is = (made ≡ true) ⊎ (test is ≡ true → test was ≡ true)

steps_as : (test : Test) (made : Bool) (was is found : Option Line) → found ≡ is → Becomes test made was is → Becomes test made was found
steps_as test made was is found e (inl now) = inl now
steps_as test made was is found e (inr kept) = inr (λ (so : test found ≡ true). kept (sym (ap test e) ∙ so))

-- where it is the line's own, the turn makes it as its part says
made_here : (line : ℕ) (b : Bool) → b ≡ true → ((line == line) && b) ≡ true
made_here line b e = ap (λ (here : Bool). here && b) (eq-eqb line line refl) ∙ e

own_turn : (test : Test) (makes : Makes) (line : ℕ) (exchange : ExchangeState) (turn : Turn) (b : Bool) → (b ≡ true → makes exchange turn ≡ true)
    → Becomes test b (line_of exchange line) (line_of (after_one exchange turn) line) → Steps test makes line exchange turn
own_turn test makes line exchange turn b makes_so (inl now) = inl (makes_so now)
own_turn test makes line exchange turn b makes_so (inr kept) = inr kept

no_more_and : (b : Bool) → (b && false) ≡ false
no_more_and true = refl
no_more_and false = refl

-- No connection

bare_heard : (event : Told) (found : Option Line) → Becomes is_bare (is_restart event) found (option_map (heard_on event) found)
bare_heard event None = inr (λ (is : true ≡ true). is)
bare_heard OffHook (Some line) = inr (λ (is : is_bare (Some line) ≡ true). is)
bare_heard OnHook (Some line) = inr (λ (is : is_bare (Some line) ≡ true). is)
bare_heard Flash (Some line) = inr (λ (is : is_bare (Some line) ≡ true). is)
bare_heard (Dialled to) (Some line) = inr (λ (is : is_bare (Some line) ≡ true). is)
bare_heard TimedOut (Some line) = inr (λ (is : is_bare (Some line) ≡ true). is)
bare_heard Restarted (Some line) = inl refl
bare_heard Disconnected (Some line) = inr (λ (is : is_bare (Some line) ≡ true). is)

bare_created : (b : Bool) (leg : Leg) (left : Option ℕ)
    → (not b ≡ true) ⊎ ((is_absent (if b then leg else Absent) && is_none left) ≡ true → (is_absent leg && is_none left) ≡ true)
bare_created true leg left = inr (λ (is : (is_absent leg && is_none left) ≡ true). is)
bare_created false leg left = inl refl

abbrev deletion_as : Bool → Bool → PutOff → ℕ → Fate
deletion_as done put off code = if done then Done else (if put then Again off else Refused code)

bare_deleted : (done put : Bool) (off : PutOff) (code : ℕ) (leg : Leg) (left : Option ℕ)
    → (done ≡ true)
    ⊎ ((is_absent (deleted_then (deletion_as done put off code) leg) && is_none (left_then (deletion_as done put off code) left)) ≡ true
    → (is_absent leg && is_none left) ≡ true)
bare_deleted true put off code leg left = inl refl
bare_deleted false true off code leg left = inr (λ (is : (is_absent leg && is_none left) ≡ true). is)
bare_deleted false false off code leg left = inr (λ (is : false ≡ true). absurd (true≢false (sym is)))

bare_landed : (flight : Option Command) (phase : Option Phase) (outcome : Outcome) (line : Line)
    → Becomes is_bare (ends_by flight outcome) (Some line) (Some (landed_as flight (fate_with flight phase line.put_off outcome) outcome line))
bare_landed None phase outcome line = inr (λ (is : is_bare (Some line) ≡ true). is)
bare_landed (Some (Ask asked)) phase outcome line = inr (λ (is : is_bare (Some line) ≡ true). is)
bare_landed (Some (Modify call)) phase outcome line = inr (λ (is : is_bare (Some line) ≡ true). is)
bare_landed (Some (Create call joined)) phase (Created connection description) line = inr (λ (is : false ≡ true). absurd (true≢false (sym is)))
bare_landed (Some (Create call joined)) phase (Answered code) line = bare_created (is_success code) line.leg line.left
bare_landed (Some (Create call joined)) phase GivenUp line = inr (λ (is : is_bare (Some line) ≡ true). is)
bare_landed (Some (Delete call)) phase (Created connection description) line = inl refl
bare_landed (Some (Delete call)) phase (Answered code) line =
    bare_deleted (is_deleted code) (may_pass code && nat_lt (times_of line.put_off) most_put_off)
    (record { cause = causes.Connection; times = times_of line.put_off + 1 }) code line.leg line.left
bare_landed (Some (Delete call)) phase GivenUp line = inr (λ (is : is_bare (Some line) ≡ true). is)

bare_answered : (phase : Option Phase) (outcome : Outcome) (found : Option Line)
    → Becomes is_bare (ends_by (flight_in found) outcome) found (option_map (landed (fate_in found phase outcome) outcome) found)
unfolding landed
bare_answered phase outcome None = inr (λ (is : true ≡ true). is)
bare_answered phase outcome (Some line) = bare_landed line.flight phase outcome line

bare_sent : (command : Option Command) (found : Option Line) → is_bare (option_map (sent_if command) found) ≡ true → is_bare found ≡ true
unfolding sent
bare_sent command None is = is
bare_sent None (Some line) is = is
bare_sent (Some (Ask asked)) (Some line) is = is
bare_sent (Some (Create call joined)) (Some line) is = absurd (true≢false (sym is))
bare_sent (Some (Modify call)) (Some line) is = is
bare_sent (Some (Delete call)) (Some line) is = is

bare_cleared_by : (b : Bool) (code : ℕ) (line : Line)
    → Becomes is_bare b (Some line) (Some (if b then record line { leg = Absent; left = None } else record line { left = Some code }))
bare_cleared_by true code line = inl refl
bare_cleared_by false code line = inr (λ (is : (is_absent line.leg && false) ≡ true). absurd (true≢false (sym is ∙ no_more_and (is_absent line.leg))))

bare_cleared : (code : ℕ) (found : Option Line) → Becomes is_bare (is_deleted code) found (option_map (cleared code) found)
unfolding cleared
bare_cleared code None = inr (λ (is : true ≡ true). is)
bare_cleared code (Some line) = bare_cleared_by (is_deleted code) code line

bare_tells : (line of : ℕ) (exchange : ExchangeState) (event : Told) → ((of ≡ line) ⊎ (of ≡ line → ⊥)) → Steps is_bare (ends line) line exchange (tells of event)
bare_tells line of exchange event (inr apart) = kept_far is_bare (ends line) line exchange (tells of event) (far_same exchange line (tells of event) apart)
bare_tells line of exchange event (inl same) =
    subst (λ (n : ℕ). Steps is_bare (ends line) line exchange (tells n event)) (sym same)
    (own_turn is_bare (ends line) line exchange (tells line event) (is_restart event) (made_here line (is_restart event))
    (steps_as is_bare (is_restart event) (line_of exchange line) (option_map (heard_on event) (line_of exchange line))
    (line_of (told exchange line event) line) (told_record exchange line event) (bare_heard event (line_of exchange line))))

bare_answers : (line of : ℕ) (exchange : ExchangeState) (outcome : Outcome) → ((of ≡ line) ⊎ (of ≡ line → ⊥))
    → Steps is_bare (ends line) line exchange (answers of outcome)
bare_answers line of exchange outcome (inr apart) =
    kept_far is_bare (ends line) line exchange (answers of outcome) (far_same exchange line (answers of outcome) apart)
bare_answers line of exchange outcome (inl same) =
    let made = ends_by (flight_in (line_of exchange line)) outcome in
    subst (λ (n : ℕ). Steps is_bare (ends line) line exchange (answers n outcome)) (sym same)
    (own_turn is_bare (ends line) line exchange (answers line outcome) made (made_here line made)
    (steps_as is_bare made (line_of exchange line) (option_map (landed (fate_at exchange line outcome) outcome) (line_of exchange line))
    (line_of (answered exchange line outcome) line) (answered_record exchange line outcome)
    (bare_answered (found_phase exchange line outcome) outcome (line_of exchange line))))

bare_sends : (line of : ℕ) (exchange : ExchangeState) → ((of ≡ line) ⊎ (of ≡ line → ⊥)) → Steps is_bare (ends line) line exchange (sends of)
bare_sends line of exchange (inr apart) = kept_far is_bare (ends line) line exchange (sends of) (far_same exchange line (sends of) apart)
bare_sends line of exchange (inl same) =
    inr (λ (is : is_bare (line_of (sent_to exchange of) line) ≡ true).
    bare_sent (due exchange line) (line_of exchange line)
    (sym (ap (λ (n : ℕ). is_bare (line_of (sent_to exchange n) line)) same ∙ ap is_bare (sent_to_record exchange line)) ∙ is))

bare_clears : (line of code : ℕ) (exchange : ExchangeState) → ((of ≡ line) ⊎ (of ≡ line → ⊥)) → Steps is_bare (ends line) line exchange (clears of code)
bare_clears line of code exchange (inr apart) =
    kept_far is_bare (ends line) line exchange (clears of code) (far_same exchange line (clears of code) apart)
bare_clears line of code exchange (inl same) =
    subst (λ (n : ℕ). Steps is_bare (ends line) line exchange (clears n code)) (sym same)
    (own_turn is_bare (ends line) line exchange (clears line code) (is_deleted code) (made_here line (is_deleted code))
    (steps_as is_bare (is_deleted code) (line_of exchange line) (option_map (cleared code) (line_of exchange line))
    (line_of (cleared_at exchange line code) line) (cleared_record exchange line code) (bare_cleared code (line_of exchange line))))

bare_steps : (line : ℕ) (exchange : ExchangeState) (turn : Turn) → Steps is_bare (ends line) line exchange turn
bare_steps line exchange (tells of event) = bare_tells line of exchange event (cases_eq of line)
bare_steps line exchange (answers of outcome) = bare_answers line of exchange outcome (cases_eq of line)
bare_steps line exchange (sends of) = bare_sends line of exchange (cases_eq of line)
bare_steps line exchange (clears of code) = bare_clears line of code exchange (cases_eq of line)

-- A request that was accepted

asked_heard : (event : Told) (found : Option Line) → is_asked_on (option_map (heard_on event) found) ≡ false
asked_heard event None = refl
asked_heard OffHook (Some line) = refl
asked_heard OnHook (Some line) = refl
asked_heard Flash (Some line) = refl
asked_heard (Dialled to) (Some line) = refl
asked_heard TimedOut (Some line) = refl
asked_heard Restarted (Some line) = refl
asked_heard Disconnected (Some line) = refl

abbrev asking_as : Bool → Bool → Bool → PutOff → ℕ → Fate
asking_as success wanted put off code = if success then Done else if wanted then (if put then Again off else Refused code) else Open

-- whether the line is on record as asked then
abbrev asked_with : Fate → Option Asked → Bool
asked_with fate asked = is_some (asked_then fate asked) && (is_none (refused_by fate) && true)

refused_request : (asked : Option Asked) (success wanted put : Bool) (off : PutOff) (code : ℕ) (was : Bool)
    → (success ≡ true) ⊎ (asked_with (asking_as success wanted put off code) asked ≡ true → was ≡ true)
refused_request asked true wanted put off code was = inl refl
refused_request asked false true true off code was = inr (λ (is : false ≡ true). absurd (true≢false (sym is)))
refused_request asked false true false off code was =
    inr (λ (is : (is_some asked && false) ≡ true). absurd (true≢false (sym is ∙ no_more_and (is_some asked))))
refused_request asked false false put off code was = inr (λ (is : false ≡ true). absurd (true≢false (sym is)))

abbrev accepted_by : Option Command → Outcome → Bool
accepted_by flight outcome = is_request flight && says_done outcome

-- a command for a connection leaves the request as it was
abbrev requested : Option Asked → Option ℕ → Bool
requested asked refused = is_some asked && (is_none refused && true)

asked_landed : (flight : Option Command) (phase : Option Phase) (outcome : Outcome) (leg : Leg) (joined : Bool) (asked : Option Asked) (off : Option PutOff)
    (refused left : Option ℕ)
    → (accepted_by flight outcome ≡ true)
    ⊎ (is_asked_on
    (Some (landed_as flight (fate_with flight phase off outcome) outcome
    (record { leg = leg; joined = joined; asked = asked; flight = flight; put_off = off; refused = refused; left = left }))) ≡ true
    → (is_some asked && (is_none refused && not (is_request flight))) ≡ true)
asked_landed None phase outcome leg joined asked off refused left = inr (λ (is : requested asked refused ≡ true). is)
asked_landed (Some (Ask request)) phase (Created connection description) leg joined asked off refused left = inl refl
asked_landed (Some (Ask request)) phase (Answered code) leg joined asked off refused left =
    refused_request asked (is_success code) (is_wanted request phase) (passes (request_cause code) code && nat_lt (times_of off) most_put_off)
    (record { cause = request_cause code; times = times_of off + 1 }) code (is_some asked && (is_none refused && false))
asked_landed (Some (Ask request)) phase GivenUp leg joined asked off refused left = inr (λ (is : false ≡ true). absurd (true≢false (sym is)))
asked_landed (Some (Create call part)) phase outcome leg joined asked off refused left = inr (λ (is : requested asked refused ≡ true). is)
asked_landed (Some (Modify call)) phase outcome leg joined asked off refused left = inr (λ (is : requested asked refused ≡ true). is)
asked_landed (Some (Delete call)) phase outcome leg joined asked off refused left = inr (λ (is : requested asked refused ≡ true). is)

asked_answered : (phase : Option Phase) (outcome : Outcome) (found : Option Line)
    → Becomes is_asked_on (accepted_by (flight_in found) outcome) found (option_map (landed (fate_in found phase outcome) outcome) found)
unfolding landed
asked_answered phase outcome None = inr (λ (is : false ≡ true). is)
asked_answered phase outcome (Some line) =
    asked_landed line.flight phase outcome line.leg line.joined line.asked line.put_off line.refused line.left

idle_asked : (flight : Option Command) (asked : Option Asked) (refused : Option ℕ) → is_some flight ≡ false → requested asked refused ≡ true
    → (is_some asked && (is_none refused && not (is_request flight))) ≡ true
idle_asked None asked refused free is = is
idle_asked (Some command) asked refused free is = absurd (true≢false free)

-- a command that is sent to a line to which none is in flight: of a request nothing is on record yet, and else it was asked for so before
asked_sent : (command : Option Command) (found : Option Line) → (is_some command ≡ true → is_flying found ≡ false)
    → is_asked_on (option_map (sent_if command) found) ≡ true → is_asked_on found ≡ true
unfolding sent
asked_sent command None free is = is
asked_sent None (Some line) free is = is
asked_sent (Some (Ask asked)) (Some line) free is = absurd (true≢false (sym is))
asked_sent (Some (Create call joined)) (Some line) free is = idle_asked line.flight line.asked line.refused (free refl) is
asked_sent (Some (Modify call)) (Some line) free is = idle_asked line.flight line.asked line.refused (free refl) is
asked_sent (Some (Delete call)) (Some line) free is = idle_asked line.flight line.asked line.refused (free refl) is

asked_cleared_by : (b : Bool) (code : ℕ) (line : Line)
    → is_asked_on (Some (if b then record line { leg = Absent; left = None } else record line { left = Some code })) ≡ is_asked_on (Some line)
asked_cleared_by true code line = refl
asked_cleared_by false code line = refl

asked_cleared : (code : ℕ) (found : Option Line) → is_asked_on (option_map (cleared code) found) ≡ is_asked_on found
unfolding cleared
asked_cleared code None = refl
asked_cleared code (Some line) = asked_cleared_by (is_deleted code) code line

asked_tells : (line of : ℕ) (exchange : ExchangeState) (event : Told) → ((of ≡ line) ⊎ (of ≡ line → ⊥))
    → Steps is_asked_on (accepts line) line exchange (tells of event)
asked_tells line of exchange event (inr apart) =
    kept_far is_asked_on (accepts line) line exchange (tells of event) (far_same exchange line (tells of event) apart)
asked_tells line of exchange event (inl same) =
    inr (λ (is : is_asked_on (line_of (told exchange of event) line) ≡ true).
    absurd (true≢false
    (sym is
    ∙ ap (λ (n : ℕ). is_asked_on (line_of (told exchange n event) line)) same
    ∙ ap is_asked_on (told_record exchange line event)
    ∙ asked_heard event (line_of exchange line))))

asked_answers : (line of : ℕ) (exchange : ExchangeState) (outcome : Outcome) → ((of ≡ line) ⊎ (of ≡ line → ⊥))
    → Steps is_asked_on (accepts line) line exchange (answers of outcome)
asked_answers line of exchange outcome (inr apart) =
    kept_far is_asked_on (accepts line) line exchange (answers of outcome) (far_same exchange line (answers of outcome) apart)
asked_answers line of exchange outcome (inl same) =
    let made = accepted_by (flight_in (line_of exchange line)) outcome in
    subst (λ (n : ℕ). Steps is_asked_on (accepts line) line exchange (answers n outcome)) (sym same)
    (own_turn is_asked_on (accepts line) line exchange (answers line outcome) made (made_here line made)
    (steps_as is_asked_on made (line_of exchange line) (option_map (landed (fate_at exchange line outcome) outcome) (line_of exchange line))
    (line_of (answered exchange line outcome) line) (answered_record exchange line outcome)
    (asked_answered (found_phase exchange line outcome) outcome (line_of exchange line))))

free_by : (exchange : ExchangeState) (line : ℕ) (command : Option Command) → due exchange line ≡ command → is_some command ≡ true
    → is_flying (line_of exchange line) ≡ false
free_by exchange line None e some = absurd (true≢false (sym some))
free_by exchange line (Some command) e some = (free_where_due exchange line command e).0

asked_sends : (line of : ℕ) (exchange : ExchangeState) → ((of ≡ line) ⊎ (of ≡ line → ⊥)) → Steps is_asked_on (accepts line) line exchange (sends of)
asked_sends line of exchange (inr apart) =
    kept_far is_asked_on (accepts line) line exchange (sends of) (far_same exchange line (sends of) apart)
asked_sends line of exchange (inl same) =
    inr (λ (is : is_asked_on (line_of (sent_to exchange of) line) ≡ true).
    asked_sent (due exchange line) (line_of exchange line) (free_by exchange line (due exchange line) refl)
    (sym (ap (λ (n : ℕ). is_asked_on (line_of (sent_to exchange n) line)) same ∙ ap is_asked_on (sent_to_record exchange line)) ∙ is))

asked_clears : (line of code : ℕ) (exchange : ExchangeState) → ((of ≡ line) ⊎ (of ≡ line → ⊥)) → Steps is_asked_on (accepts line) line exchange (clears of code)
asked_clears line of code exchange (inr apart) =
    kept_far is_asked_on (accepts line) line exchange (clears of code) (far_same exchange line (clears of code) apart)
asked_clears line of code exchange (inl same) =
    inr (λ (is : is_asked_on (line_of (cleared_at exchange of code) line) ≡ true).
    sym (ap (λ (n : ℕ). is_asked_on (line_of (cleared_at exchange n code) line)) same
    ∙ ap is_asked_on (cleared_record exchange line code)
    ∙ asked_cleared code (line_of exchange line))
    ∙ is)

asked_steps : (line : ℕ) (exchange : ExchangeState) (turn : Turn) → Steps is_asked_on (accepts line) line exchange turn
asked_steps line exchange (tells of event) = asked_tells line of exchange event (cases_eq of line)
asked_steps line exchange (answers of outcome) = asked_answers line of exchange outcome (cases_eq of line)
asked_steps line exchange (sends of) = asked_sends line of exchange (cases_eq of line)
asked_steps line exchange (clears of code) = asked_clears line of code exchange (cases_eq of line)

-- Where a command is sent

pub after_both : (exchange : ExchangeState) (first behind : List Turn) → after exchange (first ++ behind) ≡ after (after exchange first) behind
unfolding after
after_both exchange [] behind = refl
after_both exchange (turn ∷ first) behind = after_both (after_one exchange turn) first behind

pub sent_behind : (exchange : ExchangeState) (before : List Turn) (line : ℕ)
    → after exchange (before ++ sends line ∷ []) ≡ sent_to (after exchange before) line
unfolding after
sent_behind exchange before line = after_both exchange before (sends line ∷ [])

request_sent : (command : Option Command) (found : Option Line) → is_request command ≡ true → is_asked_on (option_map (sent_if command) found) ≡ false
unfolding sent
request_sent command None e = refl
request_sent None (Some line) e = absurd (true≢false (sym e))
request_sent (Some (Ask asked)) (Some line) e = refl
request_sent (Some (Create call joined)) (Some line) e = absurd (true≢false (sym e))
request_sent (Some (Modify call)) (Some line) e = absurd (true≢false (sym e))
request_sent (Some (Delete call)) (Some line) e = absurd (true≢false (sym e))

creation_sent : (command : Option Command) (found : Option Line) → is_creation command ≡ true → is_some found ≡ true
    → is_bare (option_map (sent_if command) found) ≡ false
unfolding sent
creation_sent command None e some = absurd (true≢false (sym some))
creation_sent None (Some line) e some = absurd (true≢false (sym e))
creation_sent (Some (Ask asked)) (Some line) e some = absurd (true≢false (sym e))
creation_sent (Some (Create call joined)) (Some line) e some = refl
creation_sent (Some (Modify call)) (Some line) e some = absurd (true≢false (sym e))
creation_sent (Some (Delete call)) (Some line) e some = absurd (true≢false (sym e))

there_by : (exchange : ExchangeState) (line : ℕ) (command : Option Command) → due exchange line ≡ command → is_creation command ≡ true
    → is_some (line_of exchange line) ≡ true
there_by exchange line None e creates = absurd (true≢false (sym creates))
there_by exchange line (Some command) e creates = (free_where_due exchange line command e).1

-- The laws

pub accepted_where_asked : (count last line : ℕ) (before behind : List Turn) → is_request (due (after (opening count last) before) line) ≡ true
    → is_asked_on (line_of (after (after (opening count last) (before ++ sends line ∷ [])) behind) line) ≡ true
    → 1 ≤ count_turns (accepts line) (after (opening count last) (before ++ sends line ∷ [])) behind
accepted_where_asked count last line before behind asks is =
    let was = after (opening count last) before in
    let exchange = after (opening count last) (before ++ sends line ∷ []) in
    let first : is_asked_on (line_of exchange line) ≡ false =
    ap (λ (x : ExchangeState). is_asked_on (line_of x line)) (sent_behind (opening count last) before line)
    ∙ ap is_asked_on (sent_to_record was line)
    ∙ request_sent (due was line) (line_of was line) asks in
    came is_asked_on (accepts line) line (asked_steps line) exchange behind first is

pub ended_where_bare : (count last line : ℕ) (before behind : List Turn) → is_creation (due (after (opening count last) before) line) ≡ true
    → is_bare (line_of (after (after (opening count last) (before ++ sends line ∷ [])) behind) line) ≡ true
    → 1 ≤ count_turns (ends line) (after (opening count last) (before ++ sends line ∷ [])) behind
ended_where_bare count last line before behind creates is =
    let was = after (opening count last) before in
    let exchange = after (opening count last) (before ++ sends line ∷ []) in
    let first : is_bare (line_of exchange line) ≡ false =
    ap (λ (x : ExchangeState). is_bare (line_of x line)) (sent_behind (opening count last) before line)
    ∙ ap is_bare (sent_to_record was line)
    ∙ creation_sent (due was line) (line_of was line) creates (there_by was line (due was line) refl creates) in
    came is_bare (ends line) line (bare_steps line) exchange behind first is
