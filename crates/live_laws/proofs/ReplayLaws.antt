-- A written trace is replayed: what its moves show is what the gateway showed.
use Rattle.std.proofs.Common.{◌≡◌, ◌≢◌, ◌⊎◌, inl, inr, ℕ, ◌+◌, ◌-◌, ◌<◌, ◌≤◌, ◌^◌, Bool, true, false, eqb, List, [], ◌∷◌, ◌++◌, length, codes, Option, Some, None, refl, sym, ap, ◌∙◌, subst, arith, append_assoc, append-nil, true≢false}
use Rattle.std.specs.Prelude.{◌==◌, ◌&&◌, ◌||◌, nat_lt, nat_le, is_some, take, if◌then◌else◌}
use Rattle.std.specs.Str.{bytes_eq}
use Rattle.std.specs.List.{AllByRecursion, flat_map}
use Rattle.std.specs.Fmt.{decimal}
use Rattle.std.specs.Net.Text.{socket_v4_text}
use Rattle.std.specs.declared.net.socket_addr.SocketAddrV4.{SocketAddrV4}
use Rattle.std.proofs.lemmas.Bool.{ltb-false, eqb-true, or_from}
use Rattle.std.proofs.lemmas.Bool.Decides.{eqb_tells, nat_tests}
use Rattle.std.proofs.lemmas.Slice.Eq.{bytes_eq-Decides}
use Rattle.mg_bytes.specs.Lines.{is_line_feed, cut}
use Rattle.mg_bytes.specs.Words.{words}
use Rattle.mg_bytes.proofs.TextLaws.{words_more}
use Rattle.plain_machine.specs.declared.setup.Setup.{Setup}
use Rattle.machine_rules.specs.declared.refusal.Refusal.{Refusal}
use Rattle.machine_rules.specs.declared.refusal.Refusal.TheVariants.{NoSuchLine, TickTooFar, ClockBack}
use Rattle.plain_machine.specs.Arriving.{clock_after}
use Rattle.plain_machine.specs.Message.{Sent, datagrams_of}
use Rattle.plain_machine.specs.Packing.{put_out}
use Rattle.plain_machine.specs.Event.{GatewayEvent, datagram, phone, tick}
use Rattle.plain_machine.specs.Machine.{Machine, opening}
use Rattle.plain_machine.specs.Happening.{effect}
use Rattle.plain_machine.specs.Lists.{plain, machine_after, outputs_from, refusal_at}
use Rattle.plain_machine.specs.Refusing.{tick_refusal, refusal_of}
use Rattle.plain_machine.proofs.EffectLaws.{effect_now}
use Rattle.plain_machine.proofs.ListLaws.{machine_on}
use Rattle.transmission.specs.declared.output.OutDatagram.{OutDatagram}
use Rattle.transmission.specs.Packing.{joins, joined, packed_after}
use Rattle.rgw_scripts.specs.declared.step.ScriptLine.{ScriptLine}
use Rattle.rgw_scripts.specs.declared.step.ScriptLine.TheVariants.{Empty, From, Whole}
use Rattle.rgw_scripts.specs.declared.step.ScriptStep.{ScriptStep}
use Rattle.rgw_scripts.specs.declared.step.ScriptStep.TheVariants.{Datagram, At}
use Rattle.rgw_scripts.specs.Moves.{Move, Shown, Went, give, pass, ask, sends, refuses, move_went, event_went, told as answer_of}
use Rattle.rgw_scripts.specs.Script.{line_in, line_of_two, line_of_three}
use Rattle.rgw_scripts.specs.Status.{status_of}
use Rattle.traces.specs.declared.script.Script.{Script}
use Rattle.traces.specs.declared.telling.Mark.{Mark}
use Rattle.traces.specs.declared.telling.Mark.TheVariants.{Unsent, Lost}
use Rattle.traces.specs.Replaying.{move_in}
use Rattle.traces.specs.Telling.{mark, begins, is_mark, unsent_words, lost_words, broken_off, number_behind, told_output, told_mark, told as shown_text}
use Rattle.traces.specs.Running.{Run, opening_run, run_from}
use Rattle.traces.specs.Writing.{Entry, showed, became, arrived, typed, passed, hex_text, datagram_text, clock_text, at_clock, is_far, pass_text, caught_up, passed_to, opening_script, after_entry, entry_text, written, script_after, whole_text, step_move, IsPlay, taken_after}
use Rattle.live_play.specs.Readable.{Never, CanAnswer, KeepsClock, IsTaken, AreByTicks, AreLater}
use Rattle.live_laws.specs.Replay.{clock_moves, pass_moves, entry_moves, moves_of, IsWritable, AreWritable, owing, entry_told, told_in, ReadsBack}
use Rattle.live_laws.proofs.TickLaws.{joined_machine, joined_sent}
use Rattle.live_laws.proofs.ReadingLaws.{at_again, from_again, raw_again, never_append, never_decimal, never_address, never_hex, decimal_again}
use Rattle.live_laws.proofs.PieceLaws.{ended_line, cut_line, cut_ended, reads_input, reads_empty, reads_mark, reads_shown}

-- ---- texts that are read

-- a run reads a text, and is the other run then
abbrev pub ReadsText : Setup → Run → List ℕ → Run → Type 0
ReadsText setup run text end = (rest : List ℕ) → run_from setup run (cut (text ++ rest)) ≡ run_from setup end (cut rest)

text_on : (setup : Setup) (run mid end : Run) (a b : List ℕ) → ReadsText setup run a mid → ReadsText setup mid b end → ReadsText setup run (a ++ b) end
text_on setup run mid end a b p q rest = ap (λ (t : List ℕ). run_from setup run (cut t)) (append_assoc a b rest) ∙ p (b ++ rest) ∙ q rest

same_text : (setup : Setup) (run end : Run) (a b : List ℕ) → a ≡ b → ReadsText setup run a end → ReadsText setup run b end
same_text setup run end a b same p = subst (λ (t : List ℕ). ReadsText setup run t end) same p

same_end : (setup : Setup) (run end other : Run) (a : List ℕ) → end ≡ other → ReadsText setup run a end → ReadsText setup run a other
same_end setup run end other a same p = subst (λ (r : Run). ReadsText setup run a r) same p

-- ---- tests

if_not : {A : Type 0} (b : Bool) (x y : A) → b ≡ false → (if b then x else y) ≡ y
if_not true x y e = absurd (true≢false e)
if_not false x y e = refl

if_so : {A : Type 0} (b : Bool) (x y : A) → b ≡ true → (if b then x else y) ≡ x
if_so true x y e = refl
if_so false x y e = absurd (true≢false (sym e))

-- ---- numbers

same_least : (n : ℕ) → n ≤ n
same_least n = omega arith

same_near : (n : ℕ) → n ≤ n + 1000
same_near n = omega arith

not_less : (n : ℕ) → n < n → ⊥
not_less n lt = omega (arith, lt)

less_of : (a b : ℕ) → a ≤ b → a ≢ b → a < b
less_of a b le other = omega (arith, le, other)

less_on : (a b c : ℕ) → a ≤ b → b < c → a < c
less_on a b c le less = omega (arith, le, less)

least_of : (a b : ℕ) → a < b → a ≤ b
least_of a b less = omega (arith, less)

near_of : (a b : ℕ) → b - a ≤ 1000 → b ≤ a + 1000
near_of a b far = omega (arith, far)

other_of : (a b : ℕ) → a < b → (a == b) ≡ false
other_of a b lt = grind (arith, nat_tests, lt)

-- ---- where a replay stands beside the gateway

-- The gateway has taken one list, and the replay another one: its clock is behind by the ticks that aren't told yet, at which nothing
-- was sent. So it is where the gateway is once its clock goes on.
record Beside (setup : Setup) (before taken : List GatewayEvent) (script : Script) : Type 0 where
  told : (plain setup taken).now ≡ script.told
  clock : (plain setup before).now ≡ script.clock
  low : script.told ≤ script.clock
  near : script.clock ≤ script.told + 1000
  few : script.clock < 10 ^ 18
  same : script.told ≡ script.clock → plain setup taken ≡ plain setup before
  machine : script.told < script.clock → (effect setup (plain setup taken) (tick script.clock)).value ≡ plain setup before
  quiet : script.told < script.clock → (effect setup (plain setup taken) (tick script.clock)).sent ≡ []

plain_more : (setup : Setup) (taken : List GatewayEvent) (event : GatewayEvent) → plain setup (taken ++ event ∷ []) ≡ (effect setup (plain setup taken) event).value
unfolding machine_after
plain_more setup taken event = machine_on setup (opening setup) taken (event ∷ [])

ticked_now : (setup : Setup) (before : List GatewayEvent) (moment : ℕ) → (plain setup (before ++ tick moment ∷ [])).now ≡ moment
ticked_now setup before moment =
    ap (λ (m : Machine). m.now) (plain_more setup before (tick moment)) ∙ effect_now setup (plain setup before) (tick moment)

-- where the gateway's clock went to, the replay stands there
caught_beside : (setup : Setup) (before next : List GatewayEvent) (script : Script) → (plain setup before).now ≡ script.clock → script.clock < 10 ^ 18
    → plain setup next ≡ plain setup before → Beside setup before next (at_clock script)
caught_beside setup before next script clock few same = record {
  told = ap (λ (m : Machine). m.now) same ∙ clock;
  clock = clock;
  low = same_least script.clock;
  near = same_near script.clock;
  few = few;
  same = λ e. same;
  machine = λ lt. absurd (not_less script.clock lt);
  quiet = λ lt. absurd (not_less script.clock lt);
}

-- a later tick does the same from both
tick_machine : (setup : Setup) (before taken : List GatewayEvent) (script : Script) (moment : ℕ) → Beside setup before taken script → script.clock < moment
    → (effect setup (plain setup taken) (tick moment)).value ≡ (effect setup (plain setup before) (tick moment)).value
tick_machine setup before taken script moment b later = by_test (eqb_tells script.told script.clock) where
  by_test : ((eqb script.told script.clock ≡ true) × (script.told ≡ script.clock)) ⊎ ((eqb script.told script.clock ≡ false) × (script.told ≢ script.clock))
      → (effect setup (plain setup taken) (tick moment)).value ≡ (effect setup (plain setup before) (tick moment)).value
  by_test (inl is) = ap (λ (m : Machine). (effect setup m (tick moment)).value) (b.same is.1)
  by_test (inr is) =
      let lt : script.told < script.clock = less_of script.told script.clock b.low is.1 in
      let le : script.clock ≤ moment = omega (arith, later) in
      sym (joined_machine setup (plain setup taken) script.clock moment le)
      ∙ ap (λ (m : Machine). (effect setup m (tick moment)).value) (b.machine lt)

tick_sent : (setup : Setup) (before taken : List GatewayEvent) (script : Script) (moment : ℕ) → Beside setup before taken script → script.clock < moment
    → (effect setup (plain setup taken) (tick moment)).sent ≡ (effect setup (plain setup before) (tick moment)).sent
tick_sent setup before taken script moment b later = by_test (eqb_tells script.told script.clock) where
  by_test : ((eqb script.told script.clock ≡ true) × (script.told ≡ script.clock)) ⊎ ((eqb script.told script.clock ≡ false) × (script.told ≢ script.clock))
      → (effect setup (plain setup taken) (tick moment)).sent ≡ (effect setup (plain setup before) (tick moment)).sent
  by_test (inl is) = ap (λ (m : Machine). (effect setup m (tick moment)).sent) (b.same is.1)
  by_test (inr is) =
      let lt : script.told < script.clock = less_of script.told script.clock b.low is.1 in
      let le : script.clock ≤ moment = omega (arith, later) in
      sym (joined_sent setup (plain setup taken) script.clock moment le)
      ∙ ap (λ (s : List Sent). s ++ (effect setup (effect setup (plain setup taken) (tick script.clock)).value (tick moment)).sent) (b.quiet lt)
      ∙ ap (λ (m : Machine). (effect setup m (tick moment)).sent) (b.machine lt)

-- ---- what sends nothing

packs_something : (begun : OutDatagram) (more : List OutDatagram) → packed_after begun more ≡ [] → ⊥
unfolding packed_after
packs_something begun [] none = absurd cc
packs_something begun (next ∷ more) none = by_test (joins begun next) (packs_something (joined begun next) more) none where
  by_test : (b : Bool) → (packed_after (joined begun next) more ≡ [] → ⊥) → (if b then packed_after (joined begun next) more else begun ∷ packed_after next more) ≡ [] → ⊥
  by_test true rest e = rest e
  by_test false rest e = absurd cc

nothing_put : (sent : List Sent) → put_out sent ≡ [] → sent ≡ []
nothing_put [] none = refl
nothing_put (s ∷ ss) none = absurd (packs_something _ (datagrams_of ss) none)

outputs_of_one : (setup : Setup) (m : Machine) (event : GatewayEvent) → outputs_from setup m (event ∷ []) ≡ put_out (effect setup m event).sent
unfolding outputs_from
outputs_of_one setup m event = append-nil (put_out (effect setup m event).sent)

none_put : (setup : Setup) (m : Machine) (event : GatewayEvent) → (effect setup m event).sent ≡ [] → outputs_from setup m (event ∷ []) ≡ []
none_put setup m event none = outputs_of_one setup m event ∙ ap put_out none

no_outputs : (outputs : List OutDatagram) → (length outputs == 0) ≡ true → outputs ≡ []
no_outputs [] none = refl
no_outputs (x ∷ xs) none = absurd (omega (arith, eqb-true (length (x ∷ xs)) 0 none))

shown_sends : (outputs : List OutDatagram) → shown_text (sends outputs) ≡ flat_map told_output outputs
unfolding shown_text
shown_sends outputs = refl

nothing_shown : shown_text (sends []) ≡ []
nothing_shown = shown_sends []

-- ---- a tick of the script

tick_fine : (now moment : ℕ) → now ≤ moment → moment ≤ now + 1000 → moment < 10 ^ 18 → tick_refusal now moment ≡ None
tick_fine now moment low near few =
    let far : nat_lt (now + 1000) moment ≡ false = grind (arith, nat_tests, near) in
    let high : nat_le (2 ^ 62) moment ≡ false = grind (arith, nat_tests, few) in
    let back : nat_lt moment now ≡ false = grind (arith, nat_tests, low) in
    if_not (nat_lt (now + 1000) moment || nat_le (2 ^ 62) moment) _ _ (or_from (nat_lt (now + 1000) moment) (nat_le (2 ^ 62) moment) far high)
    ∙ if_not (nat_lt moment now) _ _ back

tick_went : (setup : Setup) (taken : List GatewayEvent) (moment : ℕ) → (plain setup taken).now ≤ moment → moment ≤ (plain setup taken).now + 1000 → moment < 10 ^ 18
    → move_went setup taken (give (tick moment))
    ≡ record { shown = sends (outputs_from setup (plain setup taken) (tick moment ∷ [])) ∷ []; taken = taken ++ tick moment ∷ [] }
unfolding move_went refusal_of
tick_went setup taken moment low near few =
    ap (λ (r : Option Refusal). event_went setup taken (tick moment) r) (tick_fine (plain setup taken).now moment low near few)

-- one that wasn't refused goes on by no more than a tick may

only_near : (far high back : Bool) → (if far || high then Some TickTooFar else (if back then Some ClockBack else None)) ≡ None → far ≡ false
only_near true high back none = absurd cc
only_near false high back none = refl

taken_near : (now moment : ℕ) → tick_refusal now moment ≡ None → moment ≤ now + 1000
taken_near now moment none =
    let near : nat_lt (now + 1000) moment ≡ false = only_near (nat_lt (now + 1000) moment) (nat_le (2 ^ 62) moment) (nat_lt moment now) none in
    grind (arith, nat_tests, near)

none_refused : (setup : Setup) (before : List GatewayEvent) (event : GatewayEvent) (refusal : Option Refusal) (shown : Shown) → IsTaken shown
    → (event_went setup before event refusal).shown ≡ shown ∷ [] → refusal ≡ None
none_refused setup before event None shown taken shows = refl
none_refused setup before event (Some refusal) shown taken shows =
    let is : refuses refusal ≡ shown = cc in
    absurd (subst IsTaken (sym is) taken)

played_near : (setup : Setup) (before : List GatewayEvent) (moment : ℕ) (shown : Shown) → IsTaken shown
    → (move_went setup before (give (tick moment))).shown ≡ shown ∷ [] → moment ≤ (plain setup before).now + 1000
unfolding move_went refusal_of
played_near setup before moment shown taken shows =
    taken_near (plain setup before).now moment
    (none_refused setup before (tick moment) (tick_refusal (plain setup before).now moment) shown taken shows)

-- a line that says a step, and what that showed
reads_step : (setup : Setup) (taken : List GatewayEvent) (told : List ℕ) (moves : List Move) (line : List ℕ) (step : ScriptStep) (move : Move) (shown : Shown)
    → Never is_line_feed line → line_in (words line) ≡ Some (Whole step) → move_in step ≡ Some move → begins mark line ≡ false
    → (move_went setup taken move).shown ≡ shown ∷ []
    → ReadsText setup (owing taken [] told moves) (ended_line line ++ shown_text shown)
    (owing (move_went setup taken move).taken [] (told ++ shown_text shown) (moves ++ move ∷ []))
reads_step setup taken told moves line step move shown free says is plain shows rest =
    let after = (move_went setup taken move).taken in
    ap (λ (t : List ℕ). run_from setup (owing taken [] told moves) (cut t)) (append_assoc (ended_line line) (shown_text shown) rest)
    ∙ ap (run_from setup (owing taken [] told moves)) (cut_ended line (shown_text shown ++ rest) free)
    ∙ reads_input setup taken told moves line step move says is plain (cut (shown_text shown ++ rest))
    ∙ ap (λ (l : List Shown). run_from setup (owing after (flat_map shown_text l) told (moves ++ move ∷ [])) (cut (shown_text shown ++ rest))) shows
    ∙ ap (λ (o : List ℕ). run_from setup (owing after o told (moves ++ move ∷ [])) (cut (shown_text shown ++ rest))) (append-nil (shown_text shown))
    ∙ reads_shown setup after told (moves ++ move ∷ []) shown rest

abbrev at_text : ℕ → List ℕ
at_text moment = codes "at " ++ decimal moment

at_feedless : (moment : ℕ) → Never is_line_feed (at_text moment)
at_feedless moment = (refl, (refl, (refl, never_decimal is_line_feed (λ d low high. grind (arith, nat_tests)) moment)))

reads_at : (setup : Setup) (taken : List GatewayEvent) (told : List ℕ) (moves : List Move) (moment : ℕ) (outputs : List OutDatagram)
    → (plain setup taken).now ≤ moment → moment ≤ (plain setup taken).now + 1000 → moment < 10 ^ 18
    → outputs_from setup (plain setup taken) (tick moment ∷ []) ≡ outputs
    → ReadsText setup (owing taken [] told moves) (ended_line (at_text moment) ++ shown_text (sends outputs))
    (owing (taken ++ tick moment ∷ []) [] (told ++ shown_text (sends outputs)) (moves ++ give (tick moment) ∷ []))
unfolding move_in
reads_at setup taken told moves moment outputs low near few sent =
    let went = tick_went setup taken moment low near few in
    let shows : (move_went setup taken (give (tick moment))).shown ≡ sends outputs ∷ [] =
    ap (λ (w : Went). w.shown) went ∙ ap (λ (o : List OutDatagram). sends o ∷ []) sent in
    same_end setup (owing taken [] told moves) _ _ (ended_line (at_text moment) ++ shown_text (sends outputs))
    (ap (λ (w : Went). owing w.taken [] (told ++ shown_text (sends outputs)) (moves ++ give (tick moment) ∷ [])) went)
    (reads_step setup taken told moves (at_text moment) (At moment) (give (tick moment)) (sends outputs) (at_feedless moment) (at_again moment few) refl refl shows)

-- one at which nothing is sent
reads_quietly : (setup : Setup) (taken : List GatewayEvent) (told : List ℕ) (moves : List Move) (moment : ℕ)
    → (plain setup taken).now ≤ moment → moment ≤ (plain setup taken).now + 1000 → moment < 10 ^ 18
    → outputs_from setup (plain setup taken) (tick moment ∷ []) ≡ []
    → ReadsText setup (owing taken [] told moves) (ended_line (at_text moment)) (owing (taken ++ tick moment ∷ []) [] told (moves ++ give (tick moment) ∷ []))
reads_quietly setup taken told moves moment low near few none =
    let moved = moves ++ give (tick moment) ∷ [] in
    let on = taken ++ tick moment ∷ [] in
    same_end setup (owing taken [] told moves) (owing on [] (told ++ shown_text (sends [])) moved) (owing on [] told moved) (ended_line (at_text moment))
    (ap (λ (s : List ℕ). owing on [] (told ++ s) moved) nothing_shown ∙ ap (λ (t : List ℕ). owing on [] t moved) (append-nil told))
    (same_text setup (owing taken [] told moves) (owing on [] (told ++ shown_text (sends [])) moved) (ended_line (at_text moment) ++ shown_text (sends [])) (ended_line (at_text moment))
    (ap (λ (s : List ℕ). ended_line (at_text moment) ++ s) nothing_shown ∙ append-nil (ended_line (at_text moment)))
    (reads_at setup taken told moves moment [] low near few none))

-- ---- what a text of a trace is read as

-- where a replay stands once it has read a text, beside a gateway that has taken these events
record ReadsOn (setup : Setup) (after taken : List GatewayEvent) (script : Script) (text : List ℕ) (more : List Move) (said : List ℕ) (told : List ℕ) (moves : List Move) : Type 0 where
  next : List GatewayEvent
  beside : Beside setup after next script
  reads : ReadsText setup (owing taken [] told moves) text (owing next [] (told ++ said) (moves ++ more))

reads_none : (setup : Setup) (taken : List GatewayEvent) (told : List ℕ) (moves : List Move) → ReadsText setup (owing taken [] told moves) [] (owing taken [] (told ++ []) (moves ++ []))
reads_none setup taken told moves rest =
    ap (λ (t : List ℕ). run_from setup (owing taken [] t moves) (cut rest)) (sym (append-nil told))
    ∙ ap (λ (m : List Move). run_from setup (owing taken [] (told ++ []) m) (cut rest)) (sym (append-nil moves))

reads_then : (setup : Setup) (mid after taken : List GatewayEvent) (first second : Script) (a b : List ℕ) (some more : List Move) (said too : List ℕ) (told : List ℕ) (moves : List Move)
    → (one : ReadsOn setup mid taken first a some said told moves) → ReadsOn setup after one.next second b more too (told ++ said) (moves ++ some)
    → ReadsOn setup after taken second (a ++ b) (some ++ more) (said ++ too) told moves
reads_then setup mid after taken first second a b some more said too told moves one other = record {
  next = other.next;
  beside = other.beside;
  reads = same_end setup (owing taken [] told moves) (owing other.next [] ((told ++ said) ++ too) ((moves ++ some) ++ more)) _ (a ++ b)
      (ap (λ (t : List ℕ). owing other.next [] t ((moves ++ some) ++ more)) (append_assoc told said too)
      ∙ ap (λ (m : List Move). owing other.next [] (told ++ (said ++ too)) m) (append_assoc moves some more))
      (text_on setup (owing taken [] told moves) (owing one.next [] (told ++ said) (moves ++ some)) (owing other.next [] ((told ++ said) ++ too) ((moves ++ some) ++ more)) a b one.reads other.reads);
}

-- ---- the script's clock goes to the gateway's

clock_said : (script : Script) → (script.told == script.clock) ≡ false → clock_text script ≡ ended_line (at_text script.clock)
clock_said script is = if_not (script.told == script.clock) _ _ is

clock_silent : (script : Script) → (script.told == script.clock) ≡ true → clock_text script ≡ []
clock_silent script is = if_so (script.told == script.clock) _ _ is

clock_moved : (script : Script) → (script.told == script.clock) ≡ false → clock_moves script ≡ give (tick script.clock) ∷ []
clock_moved script is = if_not (script.told == script.clock) _ _ is

clock_stays : (script : Script) → (script.told == script.clock) ≡ true → clock_moves script ≡ []
clock_stays script is = if_so (script.told == script.clock) _ _ is

record CaughtUp (setup : Setup) (before taken : List GatewayEvent) (script : Script) (told : List ℕ) (moves : List Move) : Type 0 where
  next : List GatewayEvent
  same : plain setup next ≡ plain setup before
  reads : ReadsText setup (owing taken [] told moves) (clock_text script) (owing next [] told (moves ++ clock_moves script))

catches_up : (setup : Setup) (before taken : List GatewayEvent) (script : Script) (told : List ℕ) (moves : List Move) → Beside setup before taken script
    → CaughtUp setup before taken script told moves
catches_up setup before taken script told moves b = by_test (eqb_tells script.told script.clock) where
  by_test : ((eqb script.told script.clock ≡ true) × (script.told ≡ script.clock)) ⊎ ((eqb script.told script.clock ≡ false) × (script.told ≢ script.clock))
      → CaughtUp setup before taken script told moves
  by_test (inl is) = record {
    next = taken;
    same = b.same is.1;
    reads = λ rest. ap (λ (t : List ℕ). run_from setup (owing taken [] told moves) (cut (t ++ rest))) (clock_silent script is.0)
        ∙ ap (λ (m : List Move). run_from setup (owing taken [] told m) (cut rest)) (sym (ap (λ (c : List Move). moves ++ c) (clock_stays script is.0) ∙ append-nil moves));
  }
  by_test (inr is) =
      let lt : script.told < script.clock = less_of script.told script.clock b.low is.1 in
      let low : (plain setup taken).now ≤ script.clock = subst (λ (n : ℕ). n ≤ script.clock) (sym b.told) b.low in
      let near : script.clock ≤ (plain setup taken).now + 1000 = subst (λ (n : ℕ). script.clock ≤ n + 1000) (sym b.told) b.near in
      let next = taken ++ tick script.clock ∷ [] in
      record {
        next = next;
        same = plain_more setup taken (tick script.clock) ∙ b.machine lt;
        reads = λ rest. ap (λ (t : List ℕ). run_from setup (owing taken [] told moves) (cut (t ++ rest))) (clock_said script is.0)
            ∙ reads_quietly setup taken told moves script.clock low near b.few (none_put setup (plain setup taken) (tick script.clock) (b.quiet lt)) rest
            ∙ ap (λ (c : List Move). run_from setup (owing next [] told (moves ++ c)) (cut rest)) (sym (clock_moved script is.0));
      }

-- ---- what comes in at one moment

-- it shows the same, and leads to the same machine, wherever the machine is the same
record WentAlike (setup : Setup) (one other : List GatewayEvent) (move : Move) : Type 0 where
  shown : (move_went setup one move).shown ≡ (move_went setup other move).shown
  after : plain setup (move_went setup one move).taken ≡ plain setup (move_went setup other move).taken

went_by : (setup : Setup) (one other : List GatewayEvent) (event : GatewayEvent) (refusal : Option Refusal) → plain setup one ≡ plain setup other
    → ((event_went setup one event refusal).shown ≡ (event_went setup other event refusal).shown)
    × (plain setup (event_went setup one event refusal).taken ≡ plain setup (event_went setup other event refusal).taken)
went_by setup one other event None same = (
  ap (λ (m : Machine). sends (outputs_from setup m (event ∷ [])) ∷ []) same,
  plain_more setup one event ∙ ap (λ (m : Machine). (effect setup m event).value) same ∙ sym (plain_more setup other event),
)
went_by setup one other event (Some refusal) same = (refl, same)

gives_alike : (setup : Setup) (one other : List GatewayEvent) (event : GatewayEvent) → plain setup one ≡ plain setup other → WentAlike setup one other (give event)
unfolding move_went
gives_alike setup one other event same =
    let both : refusal_at setup one event ≡ refusal_at setup other event = ap (λ (m : Machine). refusal_of m event) same in
    let by = went_by setup one other event (refusal_at setup other event) same in
    record {
      shown = ap (λ (r : Option Refusal). (event_went setup one event r).shown) both ∙ by.0;
      after = ap (λ (r : Option Refusal). plain setup (event_went setup one event r).taken) both ∙ by.1;
    }

goes_alike : (setup : Setup) (one other : List GatewayEvent) (move : Move) → KeepsClock move → plain setup one ≡ plain setup other → WentAlike setup one other move
unfolding move_went
goes_alike setup one other (give (datagram source bytes)) keeps same = gives_alike setup one other (datagram source bytes) same
goes_alike setup one other (give (phone line act)) keeps same = gives_alike setup one other (phone line act) same
goes_alike setup one other (give (tick moment)) keeps same = absurd keeps
goes_alike setup one other (pass by) keeps same = absurd keeps
goes_alike setup one other (ask line) keeps same = record {
  shown = ap (λ (m : Machine). (if nat_le 1 line && nat_le line setup.names.lines then answer_of (status_of m line) else refuses NoSuchLine) ∷ []) same;
  after = same;
}

went_clock : (setup : Setup) (before : List GatewayEvent) (event : GatewayEvent) (refusal : Option Refusal) → clock_after (plain setup before).now event ≡ (plain setup before).now
    → (plain setup (event_went setup before event refusal).taken).now ≡ (plain setup before).now
went_clock setup before event None keeps =
    ap (λ (m : Machine). m.now) (plain_more setup before event) ∙ effect_now setup (plain setup before) event ∙ keeps
went_clock setup before event (Some refusal) keeps = refl

keeps_clock : (setup : Setup) (before : List GatewayEvent) (move : Move) → KeepsClock move → (plain setup (move_went setup before move).taken).now ≡ (plain setup before).now
unfolding move_went
keeps_clock setup before (give (datagram source bytes)) keeps = went_clock setup before (datagram source bytes) (refusal_at setup before (datagram source bytes)) refl
keeps_clock setup before (give (phone line act)) keeps = went_clock setup before (phone line act) (refusal_at setup before (phone line act)) refl
keeps_clock setup before (give (tick moment)) keeps = absurd keeps
keeps_clock setup before (pass by) keeps = absurd keeps
keeps_clock setup before (ask line) keeps = refl

-- the text of what came in is read as its move wherever that shows this
abbrev ReadsMove : Setup → List ℕ → Move → Shown → Type 0
ReadsMove setup text move shown =
    (taken : List GatewayEvent) (told : List ℕ) (moves : List Move) → (move_went setup taken move).shown ≡ shown ∷ []
    → ReadsText setup (owing taken [] told moves) (text ++ shown_text shown) (owing (move_went setup taken move).taken [] (told ++ shown_text shown) (moves ++ move ∷ []))

came_in : (setup : Setup) (before taken : List GatewayEvent) (script : Script) (told : List ℕ) (moves : List Move) (text : List ℕ) (move : Move) (shown : Shown)
    → Beside setup before taken script → KeepsClock move → (move_went setup before move).shown ≡ shown ∷ [] → ReadsMove setup text move shown
    → ReadsOn setup (move_went setup before move).taken taken (at_clock script) (clock_text script ++ text ++ shown_text shown) (clock_moves script ++ move ∷ []) (shown_text shown) told moves
came_in setup before taken script told moves text move shown b keeps shows read =
    let caught = catches_up setup before taken script told moves b in
    let alike = goes_alike setup caught.next before move keeps caught.same in
    let after = (move_went setup caught.next move).taken in
    let moved = moves ++ clock_moves script in
    record {
      next = after;
      beside = caught_beside setup (move_went setup before move).taken after script (keeps_clock setup before move keeps ∙ b.clock) b.few alike.after;
      reads = same_end setup (owing taken [] told moves) (owing after [] (told ++ shown_text shown) (moved ++ move ∷ [])) _ (clock_text script ++ text ++ shown_text shown)
          (ap (λ (m : List Move). owing after [] (told ++ shown_text shown) m) (append_assoc moves (clock_moves script) (move ∷ [])))
          (same_text setup (owing taken [] told moves) (owing after [] (told ++ shown_text shown) (moved ++ move ∷ [])) (clock_text script ++ (text ++ shown_text shown)) _
          (sym (append_assoc (clock_text script) text (shown_text shown)))
          (text_on setup (owing taken [] told moves) (owing caught.next [] told moved) (owing after [] (told ++ shown_text shown) (moved ++ move ∷ [])) (clock_text script) (text ++ shown_text shown)
          caught.reads (read caught.next told moved (alike.shown ∙ shows))));
    }

-- ---- datagrams and lines

abbrev raw_line : SocketAddrV4 → List ℕ → List ℕ
raw_line source bytes = codes "raw " ++ (socket_v4_text source ++ (32 ∷ hex_text bytes))

raw_text : (source : SocketAddrV4) (bytes : List ℕ) → codes "raw " ++ socket_v4_text source ++ codes " " ++ hex_text bytes ++ codes "\n" ≡ ended_line (raw_line source bytes)
raw_text source bytes =
    ap (λ (t : List ℕ). t ++ codes "\n")
    (append_assoc (codes "raw " ++ socket_v4_text source) (codes " ") (hex_text bytes) ∙ append_assoc (codes "raw ") (socket_v4_text source) (codes " " ++ hex_text bytes))

raw_feedless : (source : SocketAddrV4) (bytes : List ℕ) → CanAnswer source → AllByRecursion (λ byte. byte < 256) bytes → Never is_line_feed (raw_line source bytes)
raw_feedless source bytes can all = (
  refl,
  (
    refl,
    (
      refl,
      (
        refl,
        never_append is_line_feed (socket_v4_text source) (32 ∷ hex_text bytes) (never_address is_line_feed (λ d low high. grind (arith, nat_tests)) source can)
            (refl, never_hex is_line_feed (λ d low high. grind (arith, nat_tests)) bytes all),
      ),
    ),
  ),
)

from_feedless : (source : SocketAddrV4) → CanAnswer source → Never is_line_feed (codes "from " ++ socket_v4_text source)
from_feedless source can = (refl, (refl, (refl, (refl, (refl, never_address is_line_feed (λ d low high. grind (arith, nat_tests)) source can)))))

reads_raw : (setup : Setup) (source : SocketAddrV4) (bytes : List ℕ) (shown : Shown) → CanAnswer source → AllByRecursion (λ byte. byte < 256) bytes → bytes ≢ []
    → ReadsMove setup (ended_line (raw_line source bytes)) (give (datagram source bytes)) shown
unfolding move_in
reads_raw setup source bytes shown can all some taken told moves shows =
    reads_step setup taken told moves (raw_line source bytes) (Datagram source bytes) (give (datagram source bytes)) shown (raw_feedless source bytes can all)
    (raw_again source bytes can all some) refl refl shows

reads_from : (setup : Setup) (source : SocketAddrV4) (shown : Shown) → CanAnswer source
    → ReadsMove setup (codes "from " ++ socket_v4_text source ++ codes "\n--\n") (give (datagram source [])) shown
reads_from setup source shown can taken told moves shows rest =
    let line = codes "from " ++ socket_v4_text source in
    let behind = shown_text shown ++ rest in
    let run = owing taken [] told moves in
    let move = give (datagram source []) in
    let after = (move_went setup taken move).taken in
    ap (λ (t : List ℕ). run_from setup run (cut t)) (append_assoc (line ++ codes "\n--\n") (shown_text shown) rest ∙ append_assoc line (codes "\n--\n") behind)
    ∙ ap (run_from setup run) (cut_line line (45 ∷ 45 ∷ 10 ∷ behind) (from_feedless source can))
    ∙ ap (λ (pieces : List (List ℕ)). run_from setup run (ended_line line ∷ pieces)) (cut_line (codes "--") behind (refl, (refl, tt)))
    ∙ reads_empty setup taken told moves line source (from_again source can) refl (cut behind)
    ∙ ap (λ (l : List Shown). run_from setup (owing after (flat_map shown_text l) told (moves ++ move ∷ [])) (cut behind)) shows
    ∙ ap (λ (o : List ℕ). run_from setup (owing after o told (moves ++ move ∷ [])) (cut behind)) (append-nil (shown_text shown))
    ∙ reads_shown setup after told (moves ++ move ∷ []) shown rest

reads_datagram : (setup : Setup) (source : SocketAddrV4) (bytes : List ℕ) (shown : Shown) → CanAnswer source → AllByRecursion (λ byte. byte < 256) bytes
    → ReadsMove setup (datagram_text source bytes) (give (datagram source bytes)) shown
unfolding datagram_text
reads_datagram setup source [] shown can all = reads_from setup source shown can
reads_datagram setup source (b ∷ bs) shown can all =
    let some : (length (b ∷ bs) == 0) ≡ false = grind (arith, nat_tests) in
    let text : datagram_text source (b ∷ bs) ≡ ended_line (raw_line source (b ∷ bs)) =
    if_not (length (b ∷ bs) == 0) _ _ some ∙ raw_text source (b ∷ bs) in
    subst (λ (t : List ℕ). ReadsMove setup t (give (datagram source (b ∷ bs))) shown) (sym text) (reads_raw setup source (b ∷ bs) shown can all (λ e. absurd cc))

-- a line that says a move says a step
whole_step : (found : Option ScriptLine) (move : Move) → step_move found ≡ Some move → (step : ScriptStep) × ((found ≡ Some (Whole step)) × (move_in step ≡ Some move))
whole_step None move e = absurd cc
whole_step (Some Empty) move e = absurd cc
whole_step (Some (From source)) move e = absurd cc
whole_step (Some (Whole step)) move e = (step, (refl, e))

-- the first word of a told line is no word of a step
no_step : (more : List (List ℕ)) → step_move (line_in ((124 ∷ []) ∷ more)) ≡ None
unfolding line_in line_of_two line_of_three
no_step [] = refl
no_step (first ∷ []) = refl
no_step (first ∷ second ∷ []) = refl
no_step (first ∷ second ∷ other ∷ more) = refl

told_says_none : (rest : List ℕ) → step_move (line_in (words (124 ∷ 32 ∷ rest))) ≡ None
told_says_none rest =
    ap (λ (all : List (List ℕ)). step_move (line_in all)) (words_more (124 ∷ []) rest (λ e. absurd cc) (refl, tt)) ∙ no_step (words rest)

no_told : (line : List ℕ) (move : Move) → step_move (line_in (words line)) ≡ Some move → take (length mark) line ≢ mark
no_told [] move says is = absurd cc
no_told (a ∷ []) move says is = absurd cc
no_told (a ∷ b ∷ rest) move says is =
    let same : (a ∷ b ∷ rest) ≡ 124 ∷ 32 ∷ rest = cc in
    let none : step_move (line_in (words (a ∷ b ∷ rest))) ≡ None = ap (λ (l : List ℕ). step_move (line_in (words l))) same ∙ told_says_none rest in
    absurd cc

-- a line that says a step doesn't begin as a told one
plain_line : (line : List ℕ) (move : Move) → step_move (line_in (words line)) ≡ Some move → begins mark line ≡ false
plain_line line move says = by_test (begins mark line) refl where
  by_test : (told : Bool) → begins mark line ≡ told → told ≡ false
  by_test false is = refl
  by_test true is = absurd (no_told line move says ((bytes_eq-Decides (take (length mark) line) mark).0 is))

reads_line : (setup : Setup) (line : List ℕ) (move : Move) (shown : Shown) → Never is_line_feed line
    → step_move (line_in (words line)) ≡ Some move → ReadsMove setup (ended_line line) move shown
reads_line setup line move shown free says taken told moves shows =
    let whole = whole_step (line_in (words line)) move says in
    reads_step setup taken told moves line whole.0 move shown free whole.1.0 whole.1.1 (plain_line line move says) shows

-- ---- ticks

-- where a moment is too far for one tick of the script, its clock has gone on before
record PassedTo (setup : Setup) (before taken : List GatewayEvent) (script : Script) (text : List ℕ) (more : List Move) (moment : ℕ) (told : List ℕ) (moves : List Move) : Type 0 where
  next : List GatewayEvent
  beside : Beside setup before next script
  later : script.clock < moment
  near : moment ≤ script.told + 1000
  reads : ReadsText setup (owing taken [] told moves) text (owing next [] told (moves ++ more))

passes : (setup : Setup) (before taken : List GatewayEvent) (script : Script) (moment : ℕ) (told : List ℕ) (moves : List Move) → Beside setup before taken script
    → script.clock < moment → moment ≤ script.clock + 1000
    → PassedTo setup before taken (caught_up script moment) (pass_text script moment) (pass_moves script moment) moment told moves
passes setup before taken script moment told moves b later near = by_test (is_far script moment) refl where
  by_test : (far : Bool) → is_far script moment ≡ far
      → PassedTo setup before taken (if far then at_clock script else script) (if far then clock_text script else []) (if far then clock_moves script else []) moment told moves
  by_test true is =
      let caught = catches_up setup before taken script told moves b in
      record {
        next = caught.next;
        beside = caught_beside setup before caught.next script b.clock b.few caught.same;
        later = later;
        near = near;
        reads = caught.reads;
      }
  by_test false is = record {
    next = taken;
    beside = b;
    later = later;
    near = near_of script.told moment (ltb-false 1000 (moment - script.told) is);
    reads = λ rest. ap (λ (m : List Move). run_from setup (owing taken [] told m) (cut rest)) (sym (append-nil moves));
  }

-- a tick at which nothing is sent isn't told yet
quiet_beside : (setup : Setup) (before taken : List GatewayEvent) (script : Script) (moment : ℕ) → Beside setup before taken script → script.clock < moment
    → moment ≤ script.told + 1000 → moment < 10 ^ 18 → (effect setup (plain setup before) (tick moment)).sent ≡ []
    → Beside setup (before ++ tick moment ∷ []) taken (record script { clock = moment })
quiet_beside setup before taken script moment b later near few quiet =
    let lt : script.told < moment = less_on script.told script.clock moment b.low later in
    record {
      told = b.told;
      clock = ticked_now setup before moment;
      low = least_of script.told moment lt;
      near = near;
      few = few;
      same = λ e. absurd (not_less moment (subst (λ (n : ℕ). n < moment) e lt));
      machine = λ more. tick_machine setup before taken script moment b later ∙ sym (plain_more setup before (tick moment));
      quiet = λ more. tick_sent setup before taken script moment b later ∙ quiet;
    }

-- and one at which something is sent is told with its moment
loud_beside : (setup : Setup) (before taken : List GatewayEvent) (script : Script) (moment : ℕ) → Beside setup before taken script → script.clock < moment → moment < 10 ^ 18
    → Beside setup (before ++ tick moment ∷ []) (taken ++ tick moment ∷ []) (record { told = moment; clock = moment })
loud_beside setup before taken script moment b later few =
    caught_beside setup (before ++ tick moment ∷ []) (taken ++ tick moment ∷ []) (record { told = moment; clock = moment }) (ticked_now setup before moment) few
    (plain_more setup taken (tick moment) ∙ tick_machine setup before taken script moment b later ∙ sym (plain_more setup before (tick moment)))

tick_reads : (setup : Setup) (before taken : List GatewayEvent) (script : Script) (moment : ℕ) (outputs : List OutDatagram) (told : List ℕ) (moves : List Move)
    → Beside setup before taken script → script.clock < moment → moment ≤ script.clock + 1000 → moment < 10 ^ 18
    → outputs_from setup (plain setup before) (tick moment ∷ []) ≡ outputs
    → ReadsOn setup (before ++ tick moment ∷ []) taken (after_entry script (showed (passed moment) (give (tick moment)) (sends outputs)))
    (entry_text script (showed (passed moment) (give (tick moment)) (sends outputs))) (entry_moves script (showed (passed moment) (give (tick moment)) (sends outputs)))
    (shown_text (sends outputs)) told moves
tick_reads setup before taken script moment outputs told moves b later near few sent = by_test (length outputs == 0) refl where
  p : PassedTo setup before taken (caught_up script moment) (pass_text script moment) (pass_moves script moment) moment told moves
  p = passes setup before taken script moment told moves b later near

  quietly : outputs ≡ []
      → ReadsOn setup (before ++ tick moment ∷ []) taken (passed_to script moment) (pass_text script moment) (pass_moves script moment) (shown_text (sends outputs)) told moves
  quietly none =
      let silent : (effect setup (plain setup before) (tick moment)).sent ≡ [] =
      nothing_put (effect setup (plain setup before) (tick moment)).sent (sym (outputs_of_one setup (plain setup before) (tick moment)) ∙ sent ∙ none) in
      let said : told ++ shown_text (sends outputs) ≡ told =
      ap (λ (o : List OutDatagram). told ++ shown_text (sends o)) none ∙ ap (λ (s : List ℕ). told ++ s) nothing_shown ∙ append-nil told in
      record {
        next = p.next;
        beside = quiet_beside setup before p.next (caught_up script moment) moment p.beside p.later p.near few silent;
        reads = λ rest. p.reads rest ∙ ap (λ (t : List ℕ). run_from setup (owing p.next [] t (moves ++ pass_moves script moment)) (cut rest)) (sym said);
      }

  loudly : ReadsOn setup (before ++ tick moment ∷ []) taken (at_clock (passed_to script moment))
      (pass_text script moment ++ clock_text (passed_to script moment) ++ flat_map told_output outputs) (pass_moves script moment ++ clock_moves (passed_to script moment))
      (shown_text (sends outputs)) told moves
  loudly =
      let lt : (caught_up script moment).told < moment = less_on (caught_up script moment).told (caught_up script moment).clock moment p.beside.low p.later in
      let other : eqb (caught_up script moment).told moment ≡ false = other_of (caught_up script moment).told moment lt in
      let low : (plain setup p.next).now ≤ moment = subst (λ (n : ℕ). n ≤ moment) (sym p.beside.told) (least_of (caught_up script moment).told moment lt) in
      let close : moment ≤ (plain setup p.next).now + 1000 = subst (λ (n : ℕ). moment ≤ n + 1000) (sym p.beside.told) p.near in
      let shows : outputs_from setup (plain setup p.next) (tick moment ∷ []) ≡ outputs =
      outputs_of_one setup (plain setup p.next) (tick moment) ∙ ap put_out (tick_sent setup before p.next (caught_up script moment) moment p.beside p.later)
      ∙ sym (outputs_of_one setup (plain setup before) (tick moment)) ∙ sent in
      let next = p.next ++ tick moment ∷ [] in
      let moved = moves ++ pass_moves script moment in
      record {
        next = next;
        beside = loud_beside setup before p.next (caught_up script moment) moment p.beside p.later few;
        reads = same_end setup (owing taken [] told moves) (owing next [] (told ++ shown_text (sends outputs)) (moved ++ give (tick moment) ∷ [])) _
            (pass_text script moment ++ clock_text (passed_to script moment) ++ flat_map told_output outputs)
            (ap (λ (m : List Move). owing next [] (told ++ shown_text (sends outputs)) m)
            (append_assoc moves (pass_moves script moment) (give (tick moment) ∷ [])
            ∙ ap (λ (c : List Move). moves ++ (pass_moves script moment ++ c)) (sym (clock_moved (passed_to script moment) other))))
            (same_text setup (owing taken [] told moves) (owing next [] (told ++ shown_text (sends outputs)) (moved ++ give (tick moment) ∷ []))
            (pass_text script moment ++ (ended_line (at_text moment) ++ shown_text (sends outputs))) _
            (sym (append_assoc (pass_text script moment) (ended_line (at_text moment)) (shown_text (sends outputs)))
            ∙ ap (λ (s : List ℕ). pass_text script moment ++ ended_line (at_text moment) ++ s) (shown_sends outputs)
            ∙ ap (λ (c : List ℕ). pass_text script moment ++ c ++ flat_map told_output outputs) (sym (clock_said (passed_to script moment) other)))
            (text_on setup (owing taken [] told moves) (owing p.next [] told moved) (owing next [] (told ++ shown_text (sends outputs)) (moved ++ give (tick moment) ∷ []))
            (pass_text script moment) (ended_line (at_text moment) ++ shown_text (sends outputs)) p.reads
            (reads_at setup p.next told moved moment outputs low close few shows)));
      }

  by_test : (none : Bool) → (length outputs == 0) ≡ none
      → ReadsOn setup (before ++ tick moment ∷ []) taken (if none then passed_to script moment else at_clock (passed_to script moment))
      (if none then pass_text script moment else pass_text script moment ++ clock_text (passed_to script moment) ++ flat_map told_output outputs)
      (if none then pass_moves script moment else pass_moves script moment ++ clock_moves (passed_to script moment)) (shown_text (sends outputs)) told moves
  by_test true is = quietly (no_outputs outputs is)
  by_test false is = loudly

-- ---- marks

unsent_again : (place : ℕ) → place < 10 ^ 18 → is_mark (mark ++ (codes "! not sent " ++ decimal place)) ≡ true
unfolding is_mark
unsent_again place few =
    let line = mark ++ (codes "! not sent " ++ decimal place) in
    ap (λ (n : Option ℕ). is_some n || is_some (number_behind lost_words line) || bytes_eq line broken_off) (decimal_again place few)

lost_again : (place : ℕ) → place < 10 ^ 18 → is_mark (mark ++ (codes "! lost on its way " ++ decimal place)) ≡ true
unfolding is_mark
lost_again place few =
    let line = mark ++ (codes "! lost on its way " ++ decimal place) in
    ap (λ (n : Option ℕ). is_some (number_behind unsent_words line) || is_some n || bytes_eq line broken_off) (decimal_again place few)

mark_reads : (setup : Setup) (taken : List GatewayEvent) (told : List ℕ) (moves : List Move) (line : List ℕ) → Never is_line_feed line → is_mark (mark ++ line) ≡ true
    → ReadsText setup (owing taken [] told moves) (ended_line (mark ++ line)) (owing taken [] (told ++ []) (moves ++ []))
mark_reads setup taken told moves line free is rest =
    ap (run_from setup (owing taken [] told moves)) (cut_ended (mark ++ line) rest (refl, (refl, free)))
    ∙ reads_mark setup taken told moves line is (cut rest)
    ∙ reads_none setup taken told moves rest

number_feedless : (number : ℕ) → Never is_line_feed (decimal number)
number_feedless number = never_decimal is_line_feed (λ d low high. grind (arith, nat_tests)) number

reads_became : (setup : Setup) (taken : List GatewayEvent) (told : List ℕ) (moves : List Move) (fate : Mark) (place : ℕ) → place < 10 ^ 18
    → ReadsText setup (owing taken [] told moves) (told_mark fate place) (owing taken [] (told ++ []) (moves ++ []))
reads_became setup taken told moves Unsent place few =
    mark_reads setup taken told moves (codes "! not sent " ++ decimal place)
    (never_append is_line_feed (codes "! not sent ") (decimal place) (refl, (refl, (refl, (refl, (refl, (refl, (refl, (refl, (refl, (refl, (refl, tt)))))))))))
    (number_feedless place)) (unsent_again place few)
reads_became setup taken told moves Lost place few =
    mark_reads setup taken told moves (codes "! lost on its way " ++ decimal place)
    (never_append is_line_feed (codes "! lost on its way ") (decimal place)
    (refl, (refl, (refl, (refl, (refl, (refl, (refl, (refl, (refl, (refl, (refl, (refl, (refl, (refl, (refl, (refl, (refl, (refl, tt))))))))))))))))))
    (number_feedless place)) (lost_again place few)

-- ---- entries

abbrev taken_at : Setup → List GatewayEvent → Entry → List GatewayEvent
taken_at setup before (showed input move shown) = (move_went setup before move).taken
taken_at setup before (became fate place) = before

abbrev EntryReads : Setup → List GatewayEvent → List GatewayEvent → Script → Entry → List ℕ → List Move → Type 0
EntryReads setup before taken script entry told moves =
    ReadsOn setup (taken_at setup before entry) taken (after_entry script entry) (entry_text script entry) (entry_moves script entry) (entry_told entry) told moves

-- a tick that wasn't refused
passed_reads : (setup : Setup) (before taken : List GatewayEvent) (script : Script) (moment : ℕ) (shown : Shown) (told : List ℕ) (moves : List Move)
    → Beside setup before taken script → (plain setup before).now < moment → moment < 10 ^ 18 → IsTaken shown
    → (move_went setup before (give (tick moment))).shown ≡ shown ∷ []
    → EntryReads setup before taken script (showed (passed moment) (give (tick moment)) shown) told moves
passed_reads setup before taken script moment shown told moves b goes_on few is_taken shows =
    let outputs = outputs_from setup (plain setup before) (tick moment ∷ []) in
    let later : script.clock < moment = subst (λ (n : ℕ). n < moment) b.clock goes_on in
    let low : (plain setup before).now ≤ moment = least_of (plain setup before).now moment goes_on in
    let close : moment ≤ (plain setup before).now + 1000 = played_near setup before moment shown is_taken shows in
    let near : moment ≤ script.clock + 1000 = subst (λ (n : ℕ). moment ≤ n + 1000) b.clock close in
    let went = tick_went setup before moment low close few in
    let is : sends outputs ≡ shown = only (sends outputs) shown (sym (ap (λ (w : Went). w.shown) went) ∙ shows) in
    subst (λ (s : Shown). EntryReads setup before taken script (showed (passed moment) (give (tick moment)) s) told moves) is
    (subst (λ (after : List GatewayEvent). ReadsOn setup after taken (after_entry script (showed (passed moment) (give (tick moment)) (sends outputs)))
    (entry_text script (showed (passed moment) (give (tick moment)) (sends outputs))) (entry_moves script (showed (passed moment) (give (tick moment)) (sends outputs)))
    (shown_text (sends outputs)) told moves) (sym (ap (λ (w : Went). w.taken) went))
    (tick_reads setup before taken script moment outputs told moves b later near few refl)) where
      only : (x y : Shown) → (x ∷ []) ≡ (y ∷ []) → x ≡ y
      only x y e = cc

entry_reads : (setup : Setup) (before taken : List GatewayEvent) (script : Script) (entry : Entry) (entries : List Entry) (told : List ℕ) (moves : List Move)
    → Beside setup before taken script → IsPlay setup before (entry ∷ entries) → AreByTicks (entry ∷ entries) → AreLater setup before (entry ∷ entries) → IsWritable entry
    → EntryReads setup before taken script entry told moves
entry_reads setup before taken script (showed (arrived source bytes) move shown) entries told moves b play ticks later can =
    subst (λ (m : Move). (move_went setup before m).shown ≡ shown ∷ [] → EntryReads setup before taken script (showed (arrived source bytes) m shown) told moves) (sym play.0)
    (λ shows. came_in setup before taken script told moves (datagram_text source bytes) (give (datagram source bytes)) shown b tt shows (reads_datagram setup source bytes shown can.0 can.1)) play.1
entry_reads setup before taken script (showed (typed line) move shown) entries told moves b play ticks later can =
    came_in setup before taken script told moves (ended_line line) move shown b ticks.0 play.1 (reads_line setup line move shown can play.0)
entry_reads setup before taken script (showed (passed moment) move shown) entries told moves b play ticks later can =
    subst (λ (m : Move). (move_went setup before m).shown ≡ shown ∷ [] → EntryReads setup before taken script (showed (passed moment) m shown) told moves) (sym play.0)
    (λ shows. passed_reads setup before taken script moment shown told moves b later.0 can ticks.0 shows) play.1
entry_reads setup before taken script (became fate place) entries told moves b play ticks later can =
    record { next = taken; beside = b; reads = reads_became setup taken told moves fate place can }

all_read : (setup : Setup) (before taken : List GatewayEvent) (script : Script) (entries : List Entry) (told : List ℕ) (moves : List Move)
    → Beside setup before taken script → IsPlay setup before entries → AreByTicks entries → AreLater setup before entries → AreWritable entries
    → ReadsOn setup (taken_after setup before entries) taken (script_after script entries) (written script entries) (moves_of script entries) (told_in entries) told moves
unfolding written script_after moves_of
all_read setup before taken script [] told moves b play ticks later can = record { next = taken; beside = b; reads = reads_none setup taken told moves }
all_read setup before taken script (showed input move shown ∷ entries) told moves b play ticks later can =
    let entry : Entry = showed input move shown in
    let one = entry_reads setup before taken script entry entries told moves b play ticks later can.0 in
    reads_then setup (move_went setup before move).taken (taken_after setup (move_went setup before move).taken entries) taken (after_entry script entry) (script_after (after_entry script entry) entries)
    (entry_text script entry) (written (after_entry script entry) entries) (entry_moves script entry) (moves_of (after_entry script entry) entries) (entry_told entry) (told_in entries) told moves one
    (all_read setup (move_went setup before move).taken one.next (after_entry script entry) entries (told ++ entry_told entry) (moves ++ entry_moves script entry) one.beside play.2 ticks.1 later.1 can.1)
all_read setup before taken script (became fate place ∷ entries) told moves b play ticks later can =
    let entry : Entry = became fate place in
    let one = entry_reads setup before taken script entry entries told moves b play ticks later can.0 in
    reads_then setup before (taken_after setup before entries) taken script (script_after script entries)
    (entry_text script entry) (written script entries) (entry_moves script entry) (moves_of script entries) (entry_told entry) (told_in entries) told moves one
    (all_read setup before one.next script entries (told ++ entry_told entry) (moves ++ entry_moves script entry) one.beside play ticks later can.1)

-- ---- the whole trace

opening_beside : (setup : Setup) → Beside setup [] [] opening_script
unfolding machine_after
opening_beside setup = record {
  told = refl;
  clock = refl;
  low = same_least 0;
  near = same_near 0;
  few = omega arith;
  same = λ e. refl;
  machine = λ lt. absurd (not_less 0 lt);
  quiet = λ lt. absurd (not_less 0 lt);
}

run_ends : (setup : Setup) (run : Run) → run_from setup run (cut []) ≡ Some run
unfolding run_from cut
run_ends setup run = refl

pub reads_back : (setup : Setup) (entries : List Entry) → IsPlay setup [] entries → AreByTicks entries → AreLater setup [] entries → AreWritable entries
    → ReadsBack setup entries
reads_back setup entries play ticks later can =
    let all = all_read setup [] [] opening_script entries [] [] (opening_beside setup) play ticks later can in
    let script = script_after opening_script entries in
    let caught = catches_up setup (taken_after setup [] entries) all.next script (told_in entries) (moves_of opening_script entries) all.beside in
    let end = owing caught.next [] (told_in entries) (moves_of opening_script entries ++ clock_moves script) in
    record {
      end = end;
      runs = ap (λ (t : List ℕ). run_from setup opening_run (cut t)) (sym (append-nil (whole_text entries)))
          ∙ text_on setup opening_run (owing all.next [] (told_in entries) (moves_of opening_script entries)) end (written opening_script entries) (clock_text script) all.reads caught.reads []
          ∙ run_ends setup end;
      ends = refl;
      moves = refl;
      told = refl;
      comes = caught.same;
    }
