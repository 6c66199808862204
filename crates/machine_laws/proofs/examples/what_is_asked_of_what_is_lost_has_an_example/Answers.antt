use Rattle.std.proofs.Common.{◌≡◌, ◌≤◌, ℕ, zero, suc, ◌+◌, List, [], ◌∷◌, length, refl, sym, ap, subst, ◌∙◌, arith}
use Rattle.std.proofs.lemmas.List.{length-append}
use Rattle.std.proofs.lemmas.List.Elements.{filter-append}
use Rattle.transmission.specs.Arrival.{Arrival}
use Rattle.transmission.specs.HistoryExample.{comes}
use Rattle.transmission.specs.Firsts.{IsCopy, a_first, firsts_of, firsts_with, kind_of, lost, young_of}
use Rattle.transmission.specs.Kept.{entries_of}
use Rattle.transmission.specs.Memory.{is_young, most_firsts}
use Rattle.transmission.proofs.KindLaws.{firsts_on, firsts_with_first, kind_first, kind_lost}
use Rattle.plain_machine.specs.Transactions.{command_arrival}
use Rattle.machine_laws.specs.Example.{arriving, keeping, transacting}
use Rattle.machine_laws.proofs.EachLemmas.{Each, all_from_each, each_push}
use Rattle.machine_laws.proofs.examples.what_is_asked_of_what_is_lost_has_an_example.Goals as goal

-- none of them has the id of the next

none_copied : (count : ℕ) (a : Arrival) → count ≤ a.id → Each (λ (first : Arrival). ¬ IsCopy a first) (arriving count)
unfolding arriving
none_copied zero a less = tt
none_copied (suc count) a less =
    each_push (λ (first : Arrival). ¬ IsCopy a first) (arriving count) (comes count 1000 65) (none_copied count a (omega (arith, less)))
    (λ copy. absurd (let same : count ≡ a.id = copy.0 in omega (arith, same, less)))

-- all of them are young

all_young : (count : ℕ) → length (young_of 1000 (arriving count)) ≡ count
unfolding arriving
all_young zero = refl
all_young (suc count) =
    let before = all_young count in
    let more = length-append (young_of 1000 (arriving count)) (comes count 1000 65 ∷ []) in
    let parts = ap (λ (xs : List Arrival). length xs) (filter-append (λ (first : Arrival). is_young 1000 first.moment) (arriving count) (comes count 1000 65 ∷ [])) in
    parts ∙ more ∙ ap (λ (n : ℕ). n + 1) before ∙ (omega arith)

-- and each is a first

all_firsts : (count : ℕ) → count ≤ most_firsts → firsts_of most_firsts (arriving count) ≡ arriving count
unfolding arriving
all_firsts zero few = refl
all_firsts (suc count) few =
    let before = all_firsts count (omega (arith, few)) in
    let young = all_young count in
    let first : kind_of most_firsts (arriving count) (comes count 1000 65) ≡ a_first =
    (kind_first most_firsts (arriving count) (comes count 1000 65)).1 (
      all_from_each (λ (first : Arrival). ¬ IsCopy (comes count 1000 65) first) (arriving count) (none_copied count (comes count 1000 65) (omega arith)),
      omega (arith, young, few),
    ) in
    firsts_on most_firsts (arriving count) (comes count 1000 65 ∷ []) ∙ ap (λ (firsts : List Arrival). firsts_with most_firsts firsts (comes count 1000 65)) before
    ∙ firsts_with_first most_firsts (arriving count) (comes count 1000 65) first

-- so what comes when there are as many as may be is lost

one_more : (a : Arrival) → a.moment ≡ 1000 → most_firsts ≤ a.id → kind_of most_firsts (firsts_of most_firsts (arriving most_firsts)) a ≡ lost
one_more a at new =
    let young = all_young most_firsts in
    let full : most_firsts ≤ length (young_of a.moment (arriving most_firsts)) =
    subst (λ (moment : ℕ). most_firsts ≤ length (young_of moment (arriving most_firsts))) (sym at) (omega (arith, young)) in
    ap (λ (firsts : List Arrival). kind_of most_firsts firsts a) (all_firsts most_firsts (omega arith))
    ∙ (kind_lost most_firsts (arriving most_firsts) a).1 (
      all_from_each (λ (first : Arrival). ¬ IsCopy a first) (arriving most_firsts) (none_copied most_firsts a new),
      full,
    )

pub returns : goal.returns
returns c = record {
  keeps_most = ap entries_of (sym (all_firsts most_firsts (omega arith)));
  lost = one_more (command_arrival (keeping (arriving most_firsts)) (transacting most_firsts)) refl (omega arith);
}
