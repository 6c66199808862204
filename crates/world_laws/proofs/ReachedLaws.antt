-- The firsts among all that arrived are the firsts of the history; and what holds of all that arrived holds of them.
use Rattle.std.proofs.Common.{◌≡◌, ℕ, ◌-◌, ◌<◌, ◌≤◌, List, [], ◌∷◌, map, length, refl, sym, ap, ◌∙◌, subst, arith}
use Rattle.std.specs.Prelude.{fold, AllPairs}
use Rattle.std.specs.List.{slice_index_or}
use Rattle.std.proofs.lemmas.List.{map-append, length-map, get_or-map}
use Rattle.transmission.specs.Arrival.{Arrival}
use Rattle.transmission.specs.Memory.{memory_time, most_firsts}
use Rattle.transmission.specs.Firsts.{Kind, a_first, a_repeat, lost, kind_of, added, firsts_with, firsts_of}
use Rattle.transmission.proofs.KindLaws.{firsts_apart}
use Rattle.machine_laws.proofs.EachLemmas.{Each, each_push}
use Rattle.world_laws.specs.Reached.{Reached, added_by, as_arrival, executed_with}

added_each : (P : Reached → Type 0) (kind : Kind) (firsts : List Reached) (one : Reached) → Each P firsts → P one → Each P (added_by kind firsts one)
added_each P a_first firsts one all is = each_push P firsts one all is
added_each P (a_repeat copied) firsts one all is = all
added_each P lost firsts one all is = all

executed_each_from : (P : Reached → Type 0) (arrived firsts : List Reached) → Each P firsts → Each P arrived → Each P (fold executed_with firsts arrived)
unfolding executed_with
executed_each_from P [] firsts all each = all
executed_each_from P (one ∷ arrived) firsts all each =
    executed_each_from P arrived (executed_with firsts one) (added_each P (kind_of most_firsts (map as_arrival firsts) (as_arrival one)) firsts one all each.0) each.1

pub executed_each : (P : Reached → Type 0) (arrived : List Reached) → Each P arrived → Each P (fold executed_with [] arrived)
executed_each P arrived each = executed_each_from P arrived [] tt each

added_is : (kind : Kind) (firsts : List Reached) (one : Reached) → map as_arrival (added_by kind firsts one) ≡ added kind (map as_arrival firsts) (as_arrival one)
added_is a_first firsts one = map-append as_arrival firsts (one ∷ [])
added_is (a_repeat copied) firsts one = refl
added_is lost firsts one = refl

executed_is_from : (arrived firsts : List Reached)
    → map as_arrival (fold executed_with firsts arrived) ≡ fold (firsts_with most_firsts) (map as_arrival firsts) (map as_arrival arrived)
unfolding executed_with firsts_with
executed_is_from [] firsts = refl
executed_is_from (one ∷ arrived) firsts =
    executed_is_from arrived (executed_with firsts one)
    ∙ ap (λ (fs : List Arrival). fold (firsts_with most_firsts) fs (map as_arrival arrived))
    (added_is (kind_of most_firsts (map as_arrival firsts) (as_arrival one)) firsts one)

-- each first as it arrived
pub executed_is : (arrived : List Reached) → map as_arrival (fold executed_with [] arrived) ≡ firsts_of most_firsts (map as_arrival arrived)
executed_is arrived = executed_is_from arrived []

-- no two of them have one id within 30,000 ms
abbrev pub Apart : Reached → Reached → Type 0
Apart first later = first.asked.id ≡ later.asked.id → memory_time ≤ later.asked.moment - first.asked.moment

at_mapped : (xs : List Reached) (i : ℕ) (d : Reached) → i < length xs → slice_index_or (map as_arrival xs) i (as_arrival d) ≡ as_arrival (slice_index_or xs i d)
at_mapped xs i d within = get_or-map as_arrival xs i d (as_arrival d) within

pub executed_apart : (arrived : List Reached) → AllPairs Apart (fold executed_with [] arrived)
executed_apart arrived = λ i j d less within same.
    let xs = fold executed_with [] arrived in
    let pairs : AllPairs (λ (f g : Arrival). f.id ≡ g.id → memory_time ≤ g.moment - f.moment) (map as_arrival xs) =
    subst (AllPairs (λ (f g : Arrival). f.id ≡ g.id → memory_time ≤ g.moment - f.moment)) (sym (executed_is arrived)) (firsts_apart most_firsts (map as_arrival arrived)) in
    let first = at_mapped xs i d (omega (arith, less, within)) in
    let later = at_mapped xs j d within in
    let inside : j < length (map as_arrival xs) = omega (arith, within, length-map xs as_arrival) in
    let far = pairs i j (as_arrival d) less inside (ap (λ (a : Arrival). a.id) first ∙ same ∙ sym (ap (λ (a : Arrival). a.id) later)) in
    omega (arith, far, ap (λ (a : Arrival). a.moment) first, ap (λ (a : Arrival). a.moment) later)
