use Rattle.std.proofs.Common.{◌≡◌, ℕ, ◌+◌, ◌-◌, ◌≤◌, Bool, true, ◌&&◌, List, [], ◌∷◌, refl, arith}
use Rattle.std.specs.Prelude.{All, nat_le}
use Rattle.std.proofs.lemmas.Bool.{and_parts, leb-true}
use Rattle.plain_machine.specs.Message.{Begun}
use Rattle.machine_laws.specs.Starting.{longest_life, shortest_life}
use Rattle.machine_laws.proofs.EachLemmas.{Each, all_from_each, each_from_all, each_weaker}
use Rattle.outage_laws.specs.Lives.{Life, lives_of}
use Rattle.outage_laws.specs.Apart.{AreApart, BeginsLater, KeepsPace, StartsByTime, StartsLater, begun_of, keeps_pace, own_of}
use Rattle.outage_laws.specs.LifeExample.{drawn_then, lives, waited_lives}
use Rattle.outage_laws.proofs.Computing.{on_examples}
use Rattle.outage_laws.proofs.PairLemmas.{Pairs, pairs_from, pairs_to}
use Rattle.outage_laws.proofs.start_examples.lives_whose_starts_waited_lie_apart.Goals as goal

-- what lies apart, place by place
abbrev BeginSoon : Life → Life → Type 0
BeginSoon earlier later = Each (λ (one : Begun). Each (BeginsLater one) (begun_of later)) (begun_of earlier)

both_soon : (earlier later : Life) → AreApart earlier later → BeginSoon earlier later
both_soon earlier later apart =
    each_weaker (λ (one : Begun). All (BeginsLater one) (begun_of later)) (λ (one : Begun). Each (BeginsLater one) (begun_of later))
    (λ one all. each_from_all (BeginsLater one) (begun_of later) all) (begun_of earlier)
    (each_from_all (λ (one : Begun). All (BeginsLater one) (begun_of later)) (begun_of earlier) apart)

all_soon : (lives : List Life) → Pairs AreApart lives → Pairs BeginSoon lives
all_soon [] pairs = tt
all_soon (life ∷ more) pairs = (each_weaker (AreApart life) (BeginSoon life) (both_soon life) more pairs.0, all_soon more pairs.1)

-- the premises as tests, which compute

abbrev are_low : ℕ → ℕ → List Begun → Bool
are_low waited most [] = true
are_low waited most (one ∷ more) = nat_le (waited + one.moment) most && are_low waited most more

all_low : (waited most : ℕ) (begun : List Begun) → are_low waited most begun ≡ true → Each (λ (one : Begun). waited + one.moment ≤ most) begun
all_low waited most [] low = tt
all_low waited most (one ∷ more) low =
    let both = and_parts (nat_le (waited + one.moment) most) (are_low waited most more) low in
    (leb-true (waited + one.moment) most both.0, all_low waited most more both.1)

abbrev waited_before : Life → ℕ
waited_before life = (300 + life.start) - drawn_then life

abbrev are_paced : List Life → Bool
are_paced [] = true
are_paced (life ∷ more) = (keeps_pace [] (own_of life) && are_low (waited_before life) longest_life (own_of life)) && are_paced more

all_paced : (lives : List Life) → are_paced lives ≡ true → Each (KeepsPace 300 drawn_then) lives
all_paced [] paced = tt
all_paced (life ∷ more) paced =
    let both = and_parts (keeps_pace [] (own_of life) && are_low (waited_before life) longest_life (own_of life)) (are_paced more) paced in
    let own = and_parts (keeps_pace [] (own_of life)) (are_low (waited_before life) longest_life (own_of life)) both.0 in (
      record {
        few = own.0;
        within = all_from_each (λ (one : Begun). waited_before life + one.moment ≤ longest_life) (own_of life)
            (all_low (waited_before life) longest_life (own_of life) own.1);
      },
      all_paced more both.1,
    )

abbrev are_later : Life → List Life → Bool
are_later earlier [] = true
are_later earlier (later ∷ more) =
    (nat_le (drawn_then earlier + shortest_life) (drawn_then later) && are_low 300 (drawn_then later) (begun_of earlier)) && are_later earlier more

all_later : (earlier : Life) (lives : List Life) → are_later earlier lives ≡ true → Each (StartsLater 300 drawn_then earlier) lives
all_later earlier [] behind = tt
all_later earlier (later ∷ more) behind =
    let both =
    and_parts (nat_le (drawn_then earlier + shortest_life) (drawn_then later) && are_low 300 (drawn_then later) (begun_of earlier)) (are_later earlier more) behind in
    let own = and_parts (nat_le (drawn_then earlier + shortest_life) (drawn_then later)) (are_low 300 (drawn_then later) (begun_of earlier)) both.0 in (
      record {
        apart = leb-true (drawn_then earlier + shortest_life) (drawn_then later) own.0;
        over = λ before. all_from_each (λ (one : Begun). 300 + one.moment ≤ drawn_then later) (begun_of earlier)
            (all_low 300 (drawn_then later) (begun_of earlier) own.1);
      },
      all_later earlier more both.1,
    )

abbrev follow : List Life → Bool
follow [] = true
follow (life ∷ more) = are_later life more && follow more

all_follow : (lives : List Life) → follow lives ≡ true → Pairs (StartsLater 300 drawn_then) lives
all_follow [] behind = tt
all_follow (life ∷ more) behind =
    let both = and_parts (are_later life more) (follow more) behind in
    (all_later life more both.0, all_follow more both.1)

low : (moment bound : ℕ) → moment ≤ bound → moment ≤ bound
low moment bound within = within

pub returns : goal.returns
unfolding on_examples
returns c = record {
  number = refl;
  taken = refl;
  began = refl;
  by_time =
      all_from_each (StartsByTime 300 drawn_then) (lives_of (lives (waited_lives 36))) (
        record { number = refl; before = low 0 300 (omega arith) },
        (record { number = refl; before = low 1800 2301 (omega arith) }, tt),
      );
  paced = all_from_each (KeepsPace 300 drawn_then) (lives_of (lives (waited_lives 36))) (all_paced (lives_of (lives (waited_lives 36))) refl);
  later = pairs_to (StartsLater 300 drawn_then) (lives_of (lives (waited_lives 36))) (all_follow (lives_of (lives (waited_lives 36))) refl);
  one_number = λ apart.
      let soon : Pairs BeginSoon (lives_of (lives (waited_lives 0))) =
      all_soon (lives_of (lives (waited_lives 0))) (pairs_from AreApart (lives_of (lives (waited_lives 0))) apart) in
      absurd (let late : 60001 ≤ 2002 = soon.0.0.0.0 refl in omega (arith, late));
}
