-- What the moves made so far have shown.
use Rattle.std.proofs.Common.{◌≡◌, ℕ, ◌+◌, ◌<◌, ◌≤◌, ◌^◌, ◌/◌, ◌%◌, List, [], ◌∷◌, ◌++◌, length, take, get_or, None, Some, refl, sym, ap, subst, ◌∙◌, cond, arith, append_assoc, append-nil, zero-add, add-zero, add_assoc, count_by, ⊎_elim}
use Rattle.std.specs.Prelude.{replicate, min, true, false, ◌&&◌, ◌==◌, nat_le, Result, Ok, Err, OnOk, OnErr, IfOk}
use Rattle.std.specs.Result.{result_err}
use Rattle.std.specs.List.{flat_map}
use Rattle.std.proofs.lemmas.List.{replicate-append-replicate, take_more}
use Rattle.std.proofs.lemmas.List.Sums.{sum_by-append}
use Rattle.std.proofs.Math.Nat.{min-eq_left, min-eq_right}
use Rattle.std.proofs.lemmas.Bool.{lt-ltb, le-leb, leb-true, cases_lt, cases_Bool}
use Rattle.std.proofs.lemmas.Bool.Decides.{nat_tests}
use Rattle.transmission.specs.declared.output.OutDatagram.{OutDatagram}
use Rattle.machine_rules.specs.declared.refusal.Refusal.{Refusal}
use Rattle.machine_rules.specs.declared.refusal.Refusal.TheVariants.{OutOfMemory, TickTooFar, NoSuchLine}
use Rattle.plain_machine.specs.declared.setup.Setup.{Setup}
use Rattle.plain_machine.specs.Event.{GatewayEvent, tick}
use Rattle.gateway_core.specs.GatewayState.{GatewayState}
use Rattle.gateway_core.specs.Stands.{Stands, Took}
use Rattle.plain_machine.specs.Refusing.{tick_refusal, refusal_of, Ends}
use Rattle.plain_machine.specs.Lists.{plain}
use Rattle.plain_machine.proofs.EndLaws.{ends_fine, ends_cause}
use Rattle.rgw_scripts.specs.declared.step.ScriptStep.{ScriptStep}
use Rattle.rgw_scripts.specs.Status.{LineStatus, status_of}
use Rattle.rgw_scripts.specs.Moves.{Move, give, pass, ask, moves_of_wait, moves_of, all_moves, Shown, sends, refuses, tells, given, move_went, went, printed, is_refused}
use Rattle.rgw_scripts.proofs.MoveLemmas.{went_more}
use Rattle.rgw_play.specs.declared.player.Player.{Player}
use Rattle.rgw_play.specs.Player.{Prints, Moved, Finishes}

pub on_ok : {F P Q : Type 0} (r : Result (Unit {0}) F) → (P → Q) → OnOk r P → OnOk r Q
on_ok (Ok done) f p = f p
on_ok (Err fault) f p = tt

pub on_ok_both : {F P Q R : Type 0} (r : Result (Unit {0}) F) → (P → Q → R) → OnOk r P → OnOk r Q → OnOk r R
on_ok_both (Ok done) f p q = f p q
on_ok_both (Err fault) f p q = tt

flat_more : (f : Shown → List ℕ) (xs ys : List Shown) → flat_map f (xs ++ ys) ≡ flat_map f xs ++ flat_map f ys
flat_more f [] ys = refl
flat_more f (x ∷ xs) ys = ap (λ (s : List ℕ). f x ++ s) (flat_more f xs ys) ∙ sym (append_assoc (f x) (flat_map f xs) (flat_map f ys))

count_more : (xs ys : List Shown) → count_by is_refused (xs ++ ys) ≡ count_by is_refused xs + count_by is_refused ys
count_more xs ys = sum_by-append (λ (s : Shown). cond (is_refused s) 1 0) xs ys

-- one thing is shown
pub prints_one : (p q : Player) (shown : Shown) → q.out.items ≡ p.out.items ++ printed shown → q.refused ≡ p.refused + cond (is_refused shown) 1 0 → Prints p (shown ∷ []) q
prints_one p q shown text counted = record {
  text = text ∙ ap (λ (t : List ℕ). p.out.items ++ t) (sym (append-nil (printed shown)));
  counted = counted ∙ ap (λ (k : ℕ). p.refused + k) (sym (zero-add (cond (is_refused shown) 1 0)));
}

pub prints_nothing : (p : Player) → Prints p [] p
prints_nothing p = record { text = sym (append-nil p.out.items); counted = sym (add-zero p.refused) }

pub prints_more : (p q r : Player) (xs ys : List Shown) → Prints p xs q → Prints q ys r → Prints p (xs ++ ys) r
prints_more p q r xs ys first second = record {
  text = second.text ∙ ap (λ (t : List ℕ). t ++ flat_map printed ys) first.text
      ∙ append_assoc p.out.items (flat_map printed xs) (flat_map printed ys) ∙ ap (λ (t : List ℕ). p.out.items ++ t) (sym (flat_more printed xs ys));
  counted = second.counted ∙ ap (λ (k : ℕ). k + count_by is_refused ys) first.counted
      ∙ add_assoc p.refused (count_by is_refused xs) (count_by is_refused ys) ∙ ap (λ (k : ℕ). p.refused + k) (sym (count_more xs ys));
}

-- nothing yet
pub moved_nothing : (p : Player) → Moved p [] p
unfolding went
moved_nothing p = record { setup = refl; stands = λ before s. s; prints = λ before s. prints_nothing p }

-- one move
pub moved_one : (p q : Player) (move : Move) → q.gateway.setup ≡ p.gateway.setup
    → ((before : List GatewayEvent) → Stands p.gateway before → Stands q.gateway (move_went p.gateway.setup before move).taken)
    → ((before : List GatewayEvent) → Stands p.gateway before → Prints p (move_went p.gateway.setup before move).shown q)
    → Moved p (move ∷ []) q
unfolding went
moved_one p q move same stands prints = record {
  setup = same;
  stands = stands;
  prints = λ before s. subst (λ (shown : List Shown). Prints p shown q) (sym (append-nil (move_went p.gateway.setup before move).shown)) (prints before s);
}

-- moves, and then more
pub moved_more : (p q r : Player) (xs ys : List Move) → Moved p xs q → Moved q ys r → Moved p (xs ++ ys) r
moved_more p q r xs ys first second =
    let setup = p.gateway.setup in
    record {
      setup = second.setup ∙ first.setup;
      stands = λ before s.
          let taken = (went setup before xs).taken in
          rw (went_more setup before xs ys)
          (subst (λ (t : Setup). Stands r.gateway (went t taken ys).taken) first.setup (second.stands taken (first.stands before s)));
      prints = λ before s.
          let taken = (went setup before xs).taken in
          rw (went_more setup before xs ys)
          (prints_more p q r (went setup before xs).shown (went setup taken ys).shown (first.prints before s)
          (subst (λ (t : Setup). Prints q (went t taken ys).shown r) first.setup (second.prints taken (first.stands before s))));
    }

pub moved_along : (p q : Player) (xs ys : List Move) → xs ≡ ys → Moved p xs q → Moved p ys q
moved_along p q xs ys same moved = subst (λ (moves : List Move). Moved p moves q) same moved

-- the same move once more
pub moved_again : (p q r : Player) (move : Move) (k : ℕ) → Moved p (replicate k move) q → Moved q (move ∷ []) r → Moved p (replicate (k + 1) move) r
moved_again p q r move k first last =
    moved_along p r (replicate k move ++ move ∷ []) (replicate (k + 1) move) (replicate-append-replicate k 1 move) (moved_more p q r (replicate k move) (move ∷ []) first last)

flat_moves : (xs ys : List ScriptStep) → all_moves (xs ++ ys) ≡ all_moves xs ++ all_moves ys
flat_moves [] ys = refl
flat_moves (x ∷ xs) ys = ap (λ (s : List Move). moves_of x ++ s) (flat_moves xs ys) ∙ sym (append_assoc (moves_of x) (all_moves xs) (all_moves ys))

-- the steps up to one place more
pub moved_step : (p q r : Player) (steps : List ScriptStep) (i : ℕ) (step : ScriptStep) → i < length steps → step ≡ get_or steps i step
    → Moved p (all_moves (take i steps)) q → Moved q (moves_of step) r → Moved p (all_moves (take (i + 1) steps)) r
moved_step p q r steps i step inside is first last =
    let more : take (i + 1) steps ≡ take i steps ++ step ∷ [] = take_more steps i step inside ∙ ap (λ (s : ScriptStep). take i steps ++ s ∷ []) (sym is) in
    let all : all_moves (take i steps) ++ moves_of step ≡ all_moves (take (i + 1) steps) =
    ap (λ (m : List Move). all_moves (take i steps) ++ m) (sym (append-nil (moves_of step))) ∙ sym (flat_moves (take i steps) (step ∷ [])) ∙ sym (ap all_moves more) in
    moved_along p r (all_moves (take i steps) ++ moves_of step) (all_moves (take (i + 1) steps)) all (moved_more p q r (all_moves (take i steps)) (moves_of step) first last)

-- An event

-- an event that is taken
pub taken_moved : (p q : Player) (g : GatewayState) (event : GatewayEvent) (outputs : List OutDatagram) → q.gateway ≡ g
    → Took p.gateway (event ∷ []) g [] outputs
    → ((before : List GatewayEvent) → Stands p.gateway before → Ends (plain p.gateway.setup before) event None)
    → Prints p (sends outputs ∷ []) q → Moved p (give event ∷ []) q
unfolding move_went
taken_moved p q g event outputs kept took ends prints =
    let setup = p.gateway.setup in
    moved_one p q (give event) (ap (λ (h : GatewayState). h.setup) kept ∙ took.setup)
    (λ before s. rw (ends_fine (plain setup before) event (ends before s)) (subst (λ (h : GatewayState). Stands h (before ++ event ∷ [])) (sym kept) (took.stands before s)))
    (λ before s. rw (ends_fine (plain setup before) event (ends before s), ← took.sent before s) prints)

-- an event that is refused
pub refused_moved : (p q : Player) (g : GatewayState) (event : GatewayEvent) (refusal : Refusal) → q.gateway ≡ g
    → Took p.gateway [] g [] [] → (refusal ≡ OutOfMemory → ⊥)
    → ((before : List GatewayEvent) → Stands p.gateway before → Ends (plain p.gateway.setup before) event (Some refusal))
    → Prints p (refuses refusal ∷ []) q → Moved p (give event ∷ []) q
unfolding move_went
refused_moved p q g event refusal kept took other ends prints =
    let setup = p.gateway.setup in
    moved_one p q (give event) (ap (λ (h : GatewayState). h.setup) kept ∙ took.setup)
    (λ before s. rw (ends_cause (plain setup before) event refusal other (ends before s))
    (subst (λ (h : GatewayState). Stands h before) (sym kept) (rw (append-nil before) at (took.stands before s))))
    (λ before s. rw (ends_cause (plain setup before) event refusal other (ends before s)) prints)

-- what came of an event is printed

prints_as : (p mid q : Player) (shown : List Shown) → mid.out.items ≡ p.out.items → mid.refused ≡ p.refused → Prints mid shown q → Prints p shown q
prints_as p mid q shown text counted prints = record {
  text = prints.text ∙ ap (λ (t : List ℕ). t ++ flat_map printed shown) text;
  counted = prints.counted ∙ ap (λ (k : ℕ). k + count_by is_refused shown) counted;
}

finished : (p mid q : Player) (event : GatewayEvent) (given : Result (List OutDatagram) Refusal) → mid.out.items ≡ p.out.items → mid.refused ≡ p.refused
    → IfOk given (λ outputs. Took p.gateway (event ∷ []) mid.gateway [] outputs) → OnErr given (Took p.gateway [] mid.gateway [] [])
    → ((before : List GatewayEvent) → Stands p.gateway before → Ends (plain p.gateway.setup before) event (result_err given))
    → Finishes given mid q → Moved p (give event ∷ []) q
finished p mid q event (Ok outputs) text counted took none ends f =
    taken_moved p q mid.gateway event outputs f.0 took ends (prints_as p mid q (sends outputs ∷ []) text counted f.1)
finished p mid q event (Err refusal) text counted took none ends f =
    refused_moved p q mid.gateway event refusal f.1 none f.0 ends (prints_as p mid q (refuses refusal ∷ []) text counted f.2)

pub finished_moved : {F : Type 0} (r : Result (Unit {0}) F) (p mid q : Player) (event : GatewayEvent) (given : Result (List OutDatagram) Refusal) → mid.out.items ≡ p.out.items
    → mid.refused ≡ p.refused → IfOk given (λ outputs. Took p.gateway (event ∷ []) mid.gateway [] outputs) → OnErr given (Took p.gateway [] mid.gateway [] [])
    → ((before : List GatewayEvent) → Stands p.gateway before → Ends (plain p.gateway.setup before) event (result_err given))
    → OnOk r (Finishes given mid q) → OnOk r (Moved p (give event ∷ []) q)
finished_moved (Ok done) p mid q event given text counted took none ends f = finished p mid q event given text counted took none ends f
finished_moved (Err fault) p mid q event given text counted took none ends f = tt

-- Ticks

-- a tick too far is refused, however far it would go
too_far : (now moment : ℕ) → now + 1000 < moment → tick_refusal now moment ≡ Some TickTooFar
too_far now moment past = rw (lt-ltb (now + 1000) moment past) refl

far_alike : (setup : Setup) (before : List GatewayEvent) (moment moment' : ℕ) → (plain setup before).now + 1000 < moment → (plain setup before).now + 1000 < moment'
    → given setup before (tick moment) ≡ given setup before (tick moment')
unfolding refusal_of
far_alike setup before moment moment' past past' =
    rw (too_far (plain setup before).now moment past, too_far (plain setup before).now moment' past') refl

-- the largest number of the code is past every clock
pub capped_alike : (setup : Setup) (before : List GatewayEvent) (now by moment : ℕ) → now ≡ (plain setup before).now → now < 2 ^ 62 → moment ≡ min (now + by) 18446744073709551615
    → given setup before (tick moment) ≡ given setup before (tick ((plain setup before).now + by))
capped_alike setup before now by moment is small capped =
    ⊎_elim
    (λ (past : 18446744073709551615 < now + by).
    let last : moment ≡ 18446744073709551615 = capped ∙ min-eq_right (omega (arith, past)) in
    rw last (far_alike setup before 18446744073709551615 ((plain setup before).now + by) (omega (arith, past, small, is)) (omega (arith, past, small, is))))
    (λ (within : now + by ≤ 18446744073709551615).
    let all : moment ≡ (plain setup before).now + by = capped ∙ min-eq_left within ∙ ap (λ (n : ℕ). n + by) is in
    rw all refl)
    (cases_lt 18446744073709551615 (now + by))

-- a tick so many ms past now
pub passed : (p q : Player) (by now moment : ℕ) → ((before : List GatewayEvent) → Stands p.gateway before → now ≡ (plain p.gateway.setup before).now)
    → now < 2 ^ 62 → moment ≡ min (now + by) 18446744073709551615 → Moved p (give (tick moment) ∷ []) q → Moved p (pass by ∷ []) q
unfolding move_went went
passed p q by now moment is small capped moved = record {
  setup = moved.setup;
  stands = λ before s. rw (← capped_alike p.gateway.setup before now by moment (is before s) small capped) (moved.stands before s);
  prints = λ before s. rw (← capped_alike p.gateway.setup before now by moment (is before s) small capped) (moved.prints before s);
}

not_equal : (m n : ℕ) → (m ≡ n → ⊥) → (m == n) ≡ false
not_equal m n other = grind (arith, nat_tests)

-- ticks of a second, and one of the rest
pub waited : (p q r : Player) (by : ℕ) → (by % 1000 ≡ 0 → ⊥) → Moved p (replicate (by / 1000) (pass 1000)) q → Moved q (pass (by % 1000) ∷ []) r → Moved p (moves_of_wait by) r
waited p q r by rest first last = rw (not_equal (by % 1000) 0 rest) (moved_more p q r (replicate (by / 1000) (pass 1000)) (pass (by % 1000) ∷ []) first last)

-- Lines

both_not : (line lines : ℕ) → (1 ≤ line → line ≤ lines → ⊥) → (nat_le 1 line && nat_le line lines) ≡ false
both_not line lines none = ⊎_elim
    (λ (low : nat_le 1 line ≡ true). ⊎_elim
    (λ (high : nat_le line lines ≡ true). absurd (none (leb-true 1 line low) (leb-true line lines high)))
    (λ (high : nat_le line lines ≡ false). rw (low, high) refl)
    (cases_Bool (nat_le line lines)))
    (λ (low : nat_le 1 line ≡ false). rw low refl)
    (cases_Bool (nat_le 1 line))

pub told_moved : (p q : Player) (line : ℕ) (status : LineStatus) → q.gateway ≡ p.gateway → 1 ≤ line → line ≤ p.gateway.setup.names.lines
    → ((before : List GatewayEvent) → Stands p.gateway before → status_of (plain p.gateway.setup before) line ≡ Some status)
    → Prints p (tells status ∷ []) q → Moved p (ask line ∷ []) q
unfolding move_went
told_moved p q line status kept low high is prints =
    moved_one p q (ask line) (ap (λ (g : GatewayState). g.setup) kept)
    (λ before s. subst (λ (g : GatewayState). Stands g before) (sym kept) s)
    (λ before s. rw (le-leb 1 line low, le-leb line p.gateway.setup.names.lines high, is before s) prints)

pub untold_moved : (p q : Player) (line : ℕ) → q.gateway ≡ p.gateway → (1 ≤ line → line ≤ p.gateway.setup.names.lines → ⊥)
    → Prints p (refuses NoSuchLine ∷ []) q → Moved p (ask line ∷ []) q
unfolding move_went
untold_moved p q line kept none prints =
    moved_one p q (ask line) (ap (λ (g : GatewayState). g.setup) kept)
    (λ before s. subst (λ (g : GatewayState). Stands g before) (sym kept) s)
    (λ before s. rw (both_not line p.gateway.setup.names.lines none) prints)
