-- Lives whose commands are few enough at each of their moments have numbers that follow the time of day.
use Rattle.std.proofs.Common.{◌≡◌, ◌⊎◌, ℕ, ◌+◌, ◌<◌, ◌≤◌, true, List, sym, ap, ◌∙◌, subst, arith, ◌≢◌, ◌-◌, ◌/◌, ◌%◌, Bool, false, ◌==◌, ◌&&◌, nat_lt, [], ◌∷◌, ◌++◌, inl, inr, refl, append-nil, append_assoc, ⊎_elim}
use Rattle.std.specs.Prelude.{All, AllPairs}
use Rattle.std.proofs.lemmas.Nat.{div-mul-add}
use Rattle.plain_machine.specs.declared.setup.Setup.{Setup}
use Rattle.plain_machine.specs.Posting.{numbers, id_on, line_of_id, first_number}
use Rattle.plain_machine.specs.Message.{Begun}
use Rattle.machine_laws.specs.Starting.{BeganUnder, safe_time, shortest_life, longest_life, most_after}
use Rattle.machine_laws.proofs.EachLemmas.{all_from_each, each_from_all, each_weaker, Each, EachAfter, each_after_at, each_back, each_mapped}
use Rattle.machine_laws.proofs.PostLogs.{starts_apart, first_low, count_both, count_none, count_one}
use Rattle.outage_laws.specs.Lives.{Life, LivesStep, clock_of, gateway_of, lives_are_taken, lives_of, lives_opening, plain_lives}
use Rattle.outage_laws.specs.Apart.{AreApart, BeganByTime, BeginsLater, IsByTime, LieApart, StartsLater, begun_of, ArePaced, KeepsPace, StartsByTime, keeps_pace, moved, own_of}
use Rattle.outage_laws.proofs.LinkedLives.{IsOverBefore}
use Rattle.outage_laws.proofs.TimedLives.{IsTimed, TimedWorld, life_began, lives_timed}
use Rattle.outage_laws.proofs.PairLemmas.{pairs_both, pairs_from, pairs_to, pairs_with}
use Rattle.machine_laws.proofs.FitLemmas.{each_two as each_and}
use Rattle.std.proofs.lemmas.Bool.{and_parts, cases_Bool, cases_lt, eqb-true, eqb-false}
use Rattle.std.proofs.lemmas.Bool.Decides.{nat_tests}
use Rattle.machine_laws.specs.Numbering.{start_on, IsBehind, IsInTurn}
use Rattle.machine_laws.specs.Saying.{HasNumbersLeft, begun_in, count_of}
use Rattle.small_rules.specs.Numbering.{first_at}
use Rattle.outage_laws.proofs.OwnEvents.{all_in_turn}

-- Lives whose numbers follow the time of day lie apart.

-- one id is one number of one line
same_line : (line number other another : ℕ) → number < numbers → another < numbers → id_on line number ≡ id_on other another → line ≡ other
same_line line number other another below small same =
    sym (div-mul-add line numbers number below) ∙ ap (λ (id : ℕ). line_of_id id) same ∙ div-mul-add other numbers another small

begins_later : (day first next : ℕ) (one other : Begun) → first + shortest_life ≤ next → day + one.moment ≤ next → BeganByTime day first one → BeganByTime day next other → BeginsLater one other
begins_later day first next one other apart over was is = λ same.
    let ids : id_on was.line was.number ≡ id_on is.line is.number = sym was.is ∙ same ∙ is.is in
    let line : was.line ≡ is.line = same_line was.line was.number is.line is.number was.below is.below ids in
    let number : was.number ≡ is.number = (let small = was.below in let low = is.below in omega (arith, ids, line, small, low)) in
    let began : BeganUnder is.line first (day + one.moment) is.number =
    subst (λ (l : ℕ). BeganUnder l first (day + one.moment) is.number) line (subst (λ (n : ℕ). BeganUnder was.line first (day + one.moment) n) number was.began) in
    let far : (day + one.moment) + safe_time ≤ day + other.moment =
    starts_apart is.line first (day + one.moment) next (day + other.moment) is.number apart over was.within began is.began in
    omega (arith, far)

-- when the number of a later life was drawn an earlier one had begun its last command
over_by_then : (day : ℕ) (drawn : Life → ℕ) (now : ℕ) (earlier later : Life) → IsTimed now earlier → IsOverBefore earlier later → StartsLater day drawn earlier later
    → Each (λ (b : Begun). day + b.moment ≤ drawn later) (begun_of earlier)
over_by_then day drawn now earlier later timed over starts = by_case (cases_lt (drawn later) (day + later.start)) where
  by_case : (drawn later < day + later.start) ⊎ (day + later.start ≤ drawn later) → Each (λ (b : Begun). day + b.moment ≤ drawn later) (begun_of earlier)
  by_case (inl before) = each_from_all (λ (b : Begun). day + b.moment ≤ drawn later) (begun_of earlier) (starts.over before)
  by_case (inr at) =
      each_weaker (λ (b : Begun). b.moment ≤ earlier.start + (gateway_of earlier).now) (λ (b : Begun). day + b.moment ≤ drawn later) (λ b past. omega (arith, past, over, at))
      (begun_of earlier) (life_began now earlier timed)

pub by_time_they_lie_apart : (day : ℕ) (drawn : Life → ℕ) (setup : Setup) (steps : List LivesStep) → lives_are_taken setup (lives_opening setup) steps ≡ true
    → All (IsByTime day drawn) (lives_of (plain_lives setup steps)) → AllPairs (StartsLater day drawn) (lives_of (plain_lives setup steps)) → LieApart (lives_of (plain_lives setup steps))
by_time_they_lie_apart day drawn setup steps taken by_time starts =
    pairs_to AreApart lives
    (pairs_with (λ (life : Life). IsTimed now life × IsByTime day drawn life) (λ (earlier later : Life). IsOverBefore earlier later × StartsLater day drawn earlier later) AreApart both lives
    (each_and (IsTimed now) (IsByTime day drawn) lives timed.each (each_from_all (IsByTime day drawn) lives by_time))
    (pairs_both IsOverBefore (StartsLater day drawn) lives timed.follow (pairs_from (StartsLater day drawn) lives starts))) where
      lives : List Life
      lives = lives_of (plain_lives setup steps)

      now : ℕ
      now = clock_of setup (plain_lives setup steps)

      timed : TimedWorld setup (plain_lives setup steps)
      timed = lives_timed setup steps taken

      both : (earlier later : Life) → IsTimed now earlier × IsByTime day drawn earlier → IsTimed now later × IsByTime day drawn later → IsOverBefore earlier later × StartsLater day drawn earlier later
          → AreApart earlier later
      both earlier later one two follows =
          all_from_each (λ (b : Begun). All (BeginsLater b) (begun_of later)) (begun_of earlier)
          (each_weaker (λ (b : Begun). (day + b.moment ≤ drawn later) × BeganByTime day (drawn earlier) b) (λ (b : Begun). All (BeginsLater b) (begun_of later))
          (λ b was. all_from_each (BeginsLater b) (begun_of later)
          (each_weaker (BeganByTime day (drawn later)) (BeginsLater b)
          (λ other is. begins_later day (drawn earlier) (drawn later) b other follows.1.apart was.0 was.1 is)
          (begun_of later) (each_from_all (BeganByTime day (drawn later)) (begun_of later) two.1)))
          (begun_of earlier)
          (each_and (λ (b : Begun). day + b.moment ≤ drawn later) (BeganByTime day (drawn earlier)) (begun_of earlier) (over_by_then day drawn now earlier later one.0 follows.0 follows.1)
          (each_from_all (BeganByTime day (drawn earlier)) (begun_of earlier) one.1)))

-- Of the commands before and behind one

-- when it began, fewer had begun of its line than may
few_at : (before some after : List Begun) (one : Begun) → keeps_pace before (some ++ one ∷ after) ≡ true
    → count_of (line_of_id one.id) (before ++ some) < most_after one.moment
unfolding keeps_pace
few_at before [] after one paced =
    let test : nat_lt (count_of (line_of_id one.id) before) (most_after one.moment) ≡ true =
    (and_parts (nat_lt (count_of (line_of_id one.id) before) (most_after one.moment)) (keeps_pace (before ++ one ∷ []) after) paced).0 in
    subst (λ (l : List Begun). count_of (line_of_id one.id) l < most_after one.moment) (sym (append-nil before)) (grind (arith, nat_tests, test))
few_at before (x ∷ some) after one paced =
    let rest = (and_parts (nat_lt (count_of (line_of_id x.id) before) (most_after x.moment)) (keeps_pace (before ++ x ∷ []) (some ++ one ∷ after)) paced).1 in
    subst (λ (l : List Begun). count_of (line_of_id one.id) l < most_after one.moment) (append_assoc before (x ∷ []) some)
    (few_at (before ++ x ∷ []) some after one rest)

-- what holds at each place holds of each
at_each : {X : Type 0} (P : X → Type 0) (all before xs : List X) → all ≡ before ++ xs → ((some more : List X) (x : X) → all ≡ some ++ x ∷ more → P x) → Each P xs
at_each P all before [] is at = tt
at_each {X} P all before (x ∷ xs) is at =
    (at before xs x is, at_each P all (before ++ x ∷ []) xs (is ∙ sym (append_assoc before (x ∷ []) xs)) at)

within_at : (waited : ℕ) (life : Life) (before after : List Begun) (one : Begun) → All (λ (b : Begun). waited + b.moment ≤ longest_life) (own_of life) → own_of life ≡ before ++ one ∷ after
    → waited + one.moment ≤ longest_life
within_at waited life before after one all is =
    (each_back (λ (b : Begun). waited + b.moment ≤ longest_life) before (one ∷ after)
    (subst (λ (l : List Begun). Each (λ (b : Begun). waited + b.moment ≤ longest_life) l) is (each_from_all (λ (b : Begun). waited + b.moment ≤ longest_life) (own_of life) all))).0

-- None uses its numbers up

count_more : (line : ℕ) (before : List Begun) (x : Begun) (bound : ℕ) → count_of line before ≤ bound → (line_of_id x.id ≡ line → count_of line before < bound)
    → count_of line (before ++ x ∷ []) ≤ bound
count_more line before x bound low less = by_test (line_of_id x.id == line) refl where
  both : count_of line (before ++ x ∷ []) ≡ count_of line before + count_of line (x ∷ [])
  both = count_both line before (x ∷ [])

  by_test : (b : Bool) → (line_of_id x.id == line) ≡ b → count_of line (before ++ x ∷ []) ≤ bound
  by_test true e =
      let same : line_of_id x.id ≡ line = eqb-true (line_of_id x.id) line e in
      let one : count_of line (x ∷ []) ≡ 1 = count_one line x same in
      omega (arith, both, one, less same)
  by_test false e =
      let none : count_of line (x ∷ []) ≡ 0 = count_none line (x ∷ []) (eqb-false (line_of_id x.id) line e, tt) in
      omega (arith, both, none, low)

count_bound : (line bound : ℕ) (all before xs : List Begun) → all ≡ before ++ xs
    → ((some more : List Begun) (x : Begun) → all ≡ some ++ x ∷ more → line_of_id x.id ≡ line → count_of line some < bound)
    → count_of line before ≤ bound → count_of line all ≤ bound
count_bound line bound all before [] is at low =
    subst (λ (l : List Begun). count_of line l ≤ bound) (sym (is ∙ append-nil before)) low
count_bound line bound all before (x ∷ xs) is at low =
    count_bound line bound all (before ++ x ∷ []) xs (is ∙ sym (append_assoc before (x ∷ []) xs)) at
    (count_more line before x bound low (at before xs x is))

pub paced_left : (waited : ℕ) (life : Life) → ArePaced waited (own_of life) → HasNumbersLeft (own_of life)
paced_left waited life pace line =
    let few : count_of line (own_of life) ≤ most_after longest_life =
    count_bound line (most_after longest_life) (own_of life) [] (own_of life) refl at (omega arith) in
    let low : first_number line ≤ 1 = first_low line in
    omega (arith, few, low) where
      at : (some more : List Begun) (x : Begun) → own_of life ≡ some ++ x ∷ more → line_of_id x.id ≡ line → count_of line some < most_after longest_life
      at some more x is of =
          let here : count_of (line_of_id x.id) some < most_after x.moment = few_at [] some more x (subst (λ (l : List Begun). keeps_pace [] l ≡ true) is pace.few) in
          let there : count_of line some < most_after x.moment = subst (λ (l : ℕ). count_of l some < most_after x.moment) of here in
          let within : waited + x.moment ≤ longest_life = within_at waited life some more x pace.within is in
          omega (arith, there, within)

-- Its numbers follow the time of day

-- its start is that of the time of day
start_is : (time : ℕ) (life : Life) (line : ℕ) → life.setup.first ≡ first_at time → start_on life.setup line ≡ first_number line + first_at time
start_is time life line starts = ap (λ (n : ℕ). first_number line + n) (omega (arith, starts))

-- as long as it began few by its own moment it did by a later one
few_later : (count moment more : ℕ) → count < most_after moment → moment ≤ more → count < most_after more
few_later count moment more few on = omega (arith, few, on)

since_drawn : (day drawn start moment : ℕ) → drawn ≤ day + start → moment ≤ (day + (start + moment)) - drawn
since_drawn day drawn start moment before = omega (arith, before)

within_drawn : (day drawn start moment : ℕ) → ((day + start) - drawn) + moment ≤ longest_life → day + (start + moment) ≤ drawn + longest_life
within_drawn day drawn start moment within = omega (arith, within)

one_by_time : (day : ℕ) (drawn : Life → ℕ) (life : Life) (before after : List Begun) (one : Begun) → StartsByTime day drawn life → KeepsPace day drawn life → own_of life ≡ before ++ one ∷ after
    → BeganByTime day (drawn life) (moved life.start one)
one_by_time day drawn life before after one starts pace is = record {
  line = line;
  number = turn.number;
  below = turn.below;
  is = turn.is;
  began = record {
    place = count_of line before;
    since = (let low = starts.before in omega (arith, low));
    few = few_later (count_of line before) one.moment ((day + (life.start + one.moment)) - drawn life)
        (few_at [] before after one (subst (λ (l : List Begun). keeps_pace [] l ≡ true) is pace.few))
        (since_drawn day (drawn life) life.start one.moment starts.before);
    behind = subst (λ (start : ℕ). IsBehind line start (count_of line before) turn.number) (start_is (drawn life) life line starts.number) turn.behind;
  };
  within = within_drawn day (drawn life) life.start one.moment (within_at ((day + life.start) - drawn life) life before after one pace.within is);
} where
  line : ℕ
  line = line_of_id one.id

  turn : IsInTurn life.setup before one
  turn =
      each_after_at (IsInTurn life.setup) [] before one after
      (subst (λ (log : List Begun). EachAfter (IsInTurn life.setup) [] log) is (all_in_turn life.setup life.took (paced_left ((day + life.start) - drawn life) life pace)))

-- so it is of any life, whatever was refused
pub paced_follow : (day : ℕ) (drawn : Life → ℕ) (life : Life) → StartsByTime day drawn life → KeepsPace day drawn life → IsByTime day drawn life
paced_follow day drawn life starts pace =
    all_from_each (BeganByTime day (drawn life)) (begun_of life)
    (each_mapped (BeganByTime day (drawn life)) (moved life.start) (own_of life)
    (at_each (λ (b : Begun). BeganByTime day (drawn life) (moved life.start b)) (own_of life) [] (own_of life) refl
    (λ before after one is. one_by_time day drawn life before after one starts pace is)))

pub paced_lie_apart : (day : ℕ) (drawn : Life → ℕ) (setup : Setup) (steps : List LivesStep) → lives_are_taken setup (lives_opening setup) steps ≡ true
    → All (StartsByTime day drawn) (lives_of (plain_lives setup steps)) → All (KeepsPace day drawn) (lives_of (plain_lives setup steps))
    → AllPairs (StartsLater day drawn) (lives_of (plain_lives setup steps)) → LieApart (lives_of (plain_lives setup steps))
paced_lie_apart day drawn setup steps taken starts paces later =
    by_time_they_lie_apart day drawn setup steps taken
    (all_from_each (IsByTime day drawn) lives
    (each_weaker (λ (life : Life). StartsByTime day drawn life × KeepsPace day drawn life) (IsByTime day drawn) (λ life is. paced_follow day drawn life is.0 is.1) lives
    (each_and (StartsByTime day drawn) (KeepsPace day drawn) lives (each_from_all (StartsByTime day drawn) lives starts) (each_from_all (KeepsPace day drawn) lives paces)))) later where
      lives : List Life
      lives = lives_of (plain_lives setup steps)
