use Rattle.std.proofs.Common.{◌≡◌, ◌+◌, ◌-◌, ◌≤◌, ℕ, true, List, [], ◌∷◌, ◌++◌, refl, sym, subst, arith}
use Rattle.std.specs.Prelude.{All, AllPairs, nat_le}
use Rattle.std.specs.List.{list_all}
use Rattle.std.proofs.lemmas.Bool.{and_parts, leb-true}
use Rattle.plain_machine.specs.Example.{two_lines}
use Rattle.plain_machine.specs.Message.{Begun}
use Rattle.machine_laws.specs.Saying.{HasNumbersLeft}
use Rattle.machine_laws.specs.Starting.{longest_life, shortest_life}
use Rattle.machine_laws.proofs.EachLemmas.{Each, all_from_each}
use Rattle.agent_core.specs.World.{ticking}
use Rattle.world_laws.proofs.ExampleLemmas.{two_lines_set_up}
use Rattle.outage_laws.specs.Lives.{Life, LivesWorld, lives_of, stepping}
use Rattle.outage_laws.specs.Apart.{ArePaced, IsByTime, KeepsPace, StartsByTime, StartsLater, keeps_pace, own_of}
use Rattle.outage_laws.specs.LifeExample.{first_life, lives}
use Rattle.outage_laws.specs.LawExample.{answered_late, at_start, by_the_day}
use Rattle.outage_laws.proofs.Computing.{on_examples}
use Rattle.outage_laws.proofs.CountedLives.{paced_follow, paced_left, paced_lie_apart}
use Rattle.outage_laws.proofs.PairLemmas.{Pairs, pairs_to}
use Rattle.outage_laws.proofs.law_examples.what_is_asked_of_lives_has_examples.Goals as goal

-- what holds of two lives holds of all
both_are : (P : Life → Type 0) (w : LivesWorld) (earlier : Life) → w.over ≡ earlier ∷ [] → P earlier → P w.life → All P (lives_of w)
both_are P w earlier one first second = all_from_each P (lives_of w) (subst (λ (over : List Life). Each P (over ++ w.life ∷ [])) (sym one) (first, (second, tt)))

starts_later : (w : LivesWorld) (earlier : Life) → w.over ≡ earlier ∷ [] → StartsLater 0 at_start earlier w.life →
    AllPairs (StartsLater 0 at_start) (lives_of w)
starts_later w earlier one later =
    pairs_to (StartsLater 0 at_start) (lives_of w)
    (subst (λ (over : List Life). Pairs (StartsLater 0 at_start) (over ++ w.life ∷ [])) (sym one) ((later, tt), (tt, tt)))

-- it starts a second later, and its number isn't drawn before its start
later_by : (earlier later : Life) → earlier.start + shortest_life ≤ later.start → StartsLater 0 at_start earlier later
later_by earlier later apart = record { apart = apart; over = λ less. absurd (omega (arith, less)) }

-- a life keeps pace where its tests say so

each_within : (waited : ℕ) (log : List Begun) → list_all (λ (b : Begun). nat_le (waited + b.moment) longest_life) log ≡ true →
    Each (λ (b : Begun). waited + b.moment ≤ longest_life) log
each_within waited [] all = tt
each_within waited (b ∷ log) all =
    let both = and_parts (nat_le (waited + b.moment) longest_life) (list_all (λ (x : Begun). nat_le (waited + x.moment) longest_life) log) all in
    (leb-true (waited + b.moment) longest_life both.0, each_within waited log both.1)

paced_by : (waited : ℕ) (life : Life) → keeps_pace [] (own_of life) ≡ true →
    list_all (λ (b : Begun). nat_le (waited + b.moment) longest_life) (own_of life) ≡ true → ArePaced waited (own_of life)
paced_by waited life few within = record {
  few = few;
  within = all_from_each (λ (b : Begun). waited + b.moment ≤ longest_life) (own_of life) (each_within waited (own_of life) within);
}

-- the first life, as it is over

abbrev first : Life
first = (lives (first_life ++ stepping (ticking 1001) ∷ [])).life

first_paced : KeepsPace 0 at_start first
unfolding on_examples
first_paced = paced_by 0 first refl refl

second_paced : KeepsPace 0 at_start (lives by_the_day).life
unfolding on_examples
second_paced = paced_by 0 (lives by_the_day).life refl refl

later_paced : KeepsPace 0 at_start (lives answered_late).life
unfolding on_examples
later_paced = paced_by 0 (lives answered_late).life refl refl

first_starts : StartsByTime 0 at_start first
unfolding on_examples
first_starts = record { number = refl; before = leb-true _ _ refl }

second_starts : StartsByTime 0 at_start (lives by_the_day).life
unfolding on_examples
second_starts = record { number = refl; before = leb-true _ _ refl }

later_starts : StartsByTime 0 at_start (lives answered_late).life
unfolding on_examples
later_starts = record { number = refl; before = leb-true _ _ refl }

pub returns : goal.returns
unfolding on_examples
returns c = record {
  set_up = two_lines_set_up;
  taken = refl;
  left = both_are (λ (life : Life). HasNumbersLeft (own_of life)) (lives by_the_day) first refl (paced_left 0 first first_paced) (paced_left 0 (lives by_the_day).life second_paced);
  apart = paced_lie_apart 0 at_start two_lines by_the_day refl (both_are (StartsByTime 0 at_start) (lives by_the_day) first refl first_starts second_starts)
      (both_are (KeepsPace 0 at_start) (lives by_the_day) first refl first_paced second_paced) (starts_later (lives by_the_day) first refl (later_by first (lives by_the_day).life (leb-true _ _ refl)));
  taken_on = refl;
  apart_then = paced_lie_apart 0 at_start two_lines answered_late refl (both_are (StartsByTime 0 at_start) (lives answered_late) first refl first_starts later_starts)
      (both_are (KeepsPace 0 at_start) (lives answered_late) first refl first_paced later_paced) (starts_later (lives answered_late) first refl (later_by first (lives answered_late).life (leb-true _ _ refl)));
  answer = (_, refl, refl, λ same. absurd (let e : 0 ≡ 1 = same in omega (arith, e)));
  by_time = both_are (IsByTime 0 at_start) (lives by_the_day) first refl (paced_follow 0 at_start first first_starts first_paced)
      (paced_follow 0 at_start (lives by_the_day).life second_starts second_paced);
  starts = starts_later (lives by_the_day) first refl (later_by first (lives by_the_day).life (leb-true _ _ refl));
  starts_by_time = both_are (StartsByTime 0 at_start) (lives by_the_day) first refl first_starts second_starts;
  paced = both_are (KeepsPace 0 at_start) (lives by_the_day) first refl first_paced second_paced;
}
