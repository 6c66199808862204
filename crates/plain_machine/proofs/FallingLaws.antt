-- What falls due: the first first, each at its own moment, up to when nothing is due.
use Rattle.std.proofs.Common.{◌≡◌, ℕ, zero, suc, ◌+◌, ◌-◌, ◌*◌, ◌<◌, ◌≤◌, ◌≢◌, Bool, true, false, ◌==◌, List, [], ◌∷◌, length, get_or, Option, Some, None, refl, sym, ap, ◌∙◌, subst, arith, inl, inr}
use Rattle.std.specs.Prelude.{◌⊎◌, slice_get, slice_set}
use Rattle.std.specs.List.{sum_by}
use Rattle.std.proofs.Math.Nat.{mul-le-mul_right}
use Rattle.std.proofs.lemmas.Bool.Decides.{Decides-eqb}
use Rattle.std.proofs.lemmas.List.{get_or-set_same}
use Rattle.std.proofs.lemmas.List.Sums.{sum_by-set, sum_by-cons}
use Rattle.std.proofs.lemmas.Option.{slice_get_within, get_or_from_slice_get}
use Rattle.timers.specs.declared.due_item.DueItem.{DueItem}
use Rattle.plain_machine.specs.declared.setup.Setup.{Setup}
use Rattle.plain_machine.specs.declared.endpoint.Endpoint.{Endpoint}
use Rattle.plain_machine.specs.Effect.{Effect, silently, behind, afterwards}
use Rattle.plain_machine.specs.Machine.{Endpoints, with_turn, with_own, on_own}
use Rattle.plain_machine.specs.Falling.{due_on, post_due, first_due, due_by, happened_on, happened_under, happened, go_on, passed, room, pass, things_of_a_line, own_things}
use Rattle.plain_machine.proofs.EffectLaws.{happened_lines, other_endpoint, either_own, either_line, on_this}
use Rattle.plain_machine.proofs.FirstLemmas.{IsDueOn, first_on, post_line, by_moment, endpoint_is, endpoint_line, earliest_own, earliest_on}
use Rattle.plain_machine.proofs.LeftLemmas.{post_has, Happens, has_by, first_happens, none_before, due_count, twelve_at_most, happens_less, post_happens, own_none_before, own_count, two_at_most, own_happens_less}

-- How much is due up to a moment

abbrev total : ℕ → Endpoints → ℕ
total moment endpoints = sum_by (due_count moment) endpoints.list + own_count moment endpoints.own

sum_most : (moment : ℕ) (list : List Endpoint) → sum_by (due_count moment) list ≤ things_of_a_line * length list
sum_most moment [] = omega arith
sum_most moment (endpoint ∷ list) =
    omega (arith, sum_by-cons (due_count moment) endpoint list, twelve_at_most moment endpoint, sum_most moment list)

abbrev per_moment : Endpoints → ℕ
per_moment endpoints = things_of_a_line * length endpoints.list + own_things

total_most : (moment : ℕ) (endpoints : Endpoints) → total moment endpoints ≤ per_moment endpoints
total_most moment endpoints = omega (arith, sum_most moment endpoints.list, two_at_most moment endpoints.own)

-- What happens on one line, or of the gateway itself

happened_is : (setup : Setup) (endpoints : Endpoints) (item : DueItem) (is : IsDueOn 1 endpoints.list item)
    → happened setup endpoints item ≡ with_turn endpoints item.line (happened_on item.kind setup item.line item.moment is.endpoint)
happened_is setup endpoints item is =
    either_line endpoints item.line (happened_under item.kind setup 0 item.moment) (happened_on item.kind setup item.line item.moment) (endpoint_line endpoints item is)
    ∙ on_this endpoints item.line is.endpoint (happened_on item.kind setup item.line item.moment) (endpoint_is endpoints item is)

own_happened_is : (setup : Setup) (endpoints : Endpoints) (item : DueItem) → post_due 0 endpoints.own ≡ Some item
    → happened setup endpoints item ≡ on_own endpoints (happened_under item.kind setup 0 item.moment)
own_happened_is setup endpoints item is =
    either_own endpoints item.line (happened_under item.kind setup 0 item.moment) (happened_on item.kind setup item.line item.moment)
    (ap (λ (line : ℕ). line == 0) (post_line 0 endpoints.own item is))

less_sum : (moment : ℕ) (list : List Endpoint) (place : ℕ) (was is : Endpoint) → slice_get list place ≡ Some was → due_count moment is < due_count moment was
    → sum_by (due_count moment) (slice_set list place is) < sum_by (due_count moment) list
less_sum moment list place was is at less =
    let here : get_or list place was ≡ was = get_or_from_slice_get list place was was at in
    let sums = sum_by-set (due_count moment) list place is was (slice_get_within list place was at) in
    let same : due_count moment (get_or list place was) ≡ due_count moment was = ap (due_count moment) here in
    omega (arith, sums, same, less)

first_less : (a b c : ℕ) → a < b → a + c < b + c
first_less a b c less = omega (arith, less)

second_less : (a b c : ℕ) → b < c → a + b < a + c
second_less a b c less = omega (arith, less)

-- at that moment there is less to come
less_to_come : (setup : Setup) (endpoints : Endpoints) (item : DueItem) → first_due endpoints ≡ Some item
    → total item.moment (happened setup endpoints item).value < total item.moment endpoints
less_to_come setup endpoints item first = by_case (first_on endpoints item first) where
  by_case : (post_due 0 endpoints.own ≡ Some item) ⊎ IsDueOn 1 endpoints.list item → total item.moment (happened setup endpoints item).value < total item.moment endpoints
  by_case (inl is) =
      rw (own_happened_is setup endpoints item is)
      (second_less _ _ _ (own_happens_less item.moment item.kind endpoints.own _ (post_happens setup 0 endpoints.own item is)))
  by_case (inr is) =
      let place : item.line - 1 ≡ is.place = omega (arith, is.line) in
      rw (happened_is setup endpoints item is, place)
      (first_less _ _ _ (less_sum item.moment endpoints.list is.place is.endpoint _ is.at
      (happens_less item.moment item.kind is.endpoint _ (first_happens setup item.line is.endpoint item is.due))))

-- and something was due then
some_due : (setup : Setup) (endpoints : Endpoints) (item : DueItem) → first_due endpoints ≡ Some item → 0 < total item.moment endpoints
some_due setup endpoints item first = omega (arith, less_to_come setup endpoints item first)

-- Nothing falls due earlier than what happened

get_set_same : (list : List Endpoint) (place : ℕ) (was is endpoint : Endpoint) → slice_get list place ≡ Some was → slice_get (slice_set list place is) place ≡ Some endpoint
    → is ≡ endpoint
get_set_same list place was is endpoint at found =
    sym (get_or-set_same list place is is (slice_get_within list place was at)) ∙ get_or_from_slice_get (slice_set list place is) place endpoint is found

-- after what happened to the gateway itself
own_not_earlier : (setup : Setup) (endpoints : Endpoints) (item next : DueItem) → first_due endpoints ≡ Some item → post_due 0 endpoints.own ≡ Some item
    → first_due (happened setup endpoints item).value ≡ Some next → item.moment ≤ next.moment
own_not_earlier setup endpoints item next first is after =
    by_case (first_on (with_own endpoints (happened_under item.kind setup 0 item.moment endpoints.own).value) next
    (subst (λ (t : Effect Endpoints). first_due t.value ≡ Some next) (own_happened_is setup endpoints item is) after)) where
      by_each : (post_has next.moment endpoints.own next.kind ≡ true) ⊎ (item.moment < next.moment) → item.moment ≤ next.moment
      by_each (inl before) = own_none_before endpoints.own item next.kind next.moment is before
      by_each (inr later) = omega (arith, later)

      by_case : (post_due 0 (happened_under item.kind setup 0 item.moment endpoints.own).value ≡ Some next) ⊎ IsDueOn 1 endpoints.list next → item.moment ≤ next.moment
      by_case (inl own) =
          by_each ((post_happens setup 0 endpoints.own item is).each next.kind next.moment
          (post_happens setup 0 (happened_under item.kind setup 0 item.moment endpoints.own).value next own).on)
      by_case (inr on) =
          earliest_on endpoints item next on.place on.endpoint first on.at (subst (λ (l : ℕ). due_on (l, on.endpoint) ≡ Some next) on.line on.due)

-- after what happened on a line
line_not_earlier : (setup : Setup) (endpoints : Endpoints) (item next : DueItem) → first_due endpoints ≡ Some item → (is : IsDueOn 1 endpoints.list item)
    → IsDueOn 1 (happened setup endpoints item).value.list next → item.moment ≤ next.moment
line_not_earlier setup endpoints item next first is later =
    let now = (happened_on item.kind setup item.line item.moment is.endpoint).value in
    let h = first_happens setup item.line is.endpoint item is.due in
    let place : item.line - 1 ≡ is.place = omega (arith, is.line) in
    let list : (happened setup endpoints item).value.list ≡ slice_set endpoints.list is.place now =
    ap (λ (t : Effect Endpoints). t.value.list) (happened_is setup endpoints item is) ∙ ap (λ (p : ℕ). slice_set endpoints.list p now) place in
    let at : slice_get (slice_set endpoints.list is.place now) later.place ≡ Some later.endpoint =
    subst (λ (xs : List Endpoint). slice_get xs later.place ≡ Some later.endpoint) list later.at in
    by_place is.place is.endpoint now later.place later.endpoint is.at is.due h at (subst (λ (l : ℕ). due_on (l, later.endpoint) ≡ Some next) later.line later.due)
    (first_happens setup next.line later.endpoint next later.due).on (later.place == is.place) refl where
      by_each : (was : Endpoint) → due_on (item.line, was) ≡ Some item → (has_by next.moment was next.kind ≡ true) ⊎ (item.moment < next.moment) → item.moment ≤ next.moment
      by_each was due (inl before) = none_before item.line was item next.kind next.moment due before
      by_each was due (inr later) = omega (arith, later)

      by_place : (place : ℕ) (was now : Endpoint) (other : ℕ) (endpoint : Endpoint) → slice_get endpoints.list place ≡ Some was → due_on (item.line, was) ≡ Some item
          → Happens item.moment item.kind was now → slice_get (slice_set endpoints.list place now) other ≡ Some endpoint → due_on (1 + other, endpoint) ≡ Some next
          → has_by next.moment endpoint next.kind ≡ true → (b : Bool) → (other == place) ≡ b → item.moment ≤ next.moment
      by_place place was now other endpoint at due h found on has true e =
          let same_place : other ≡ place = (Decides-eqb other place).0 e in
          let here : slice_get (slice_set endpoints.list place now) place ≡ Some endpoint = subst (λ (p : ℕ). slice_get (slice_set endpoints.list place now) p ≡ Some endpoint) same_place found in
          let same : now ≡ endpoint = get_set_same endpoints.list place was now endpoint at here in
          by_each was due (h.each next.kind next.moment (subst (λ (s : Endpoint). has_by next.moment s next.kind ≡ true) (sym same) has))
      by_place place was now other endpoint at due h found on has false e =
          earliest_on endpoints item next other endpoint first
          (sym (other_endpoint endpoints.list place other now (λ same. absurd (let b : (other == place) ≡ true = (Decides-eqb other place).1 same in cc))) ∙ found) on

not_earlier : (setup : Setup) (endpoints : Endpoints) (item next : DueItem) → first_due endpoints ≡ Some item → first_due (happened setup endpoints item).value ≡ Some next
    → item.moment ≤ next.moment
not_earlier setup endpoints item next first after = by_case (first_on endpoints item first) where
  by_next : IsDueOn 1 endpoints.list item → (post_due 0 (happened setup endpoints item).value.own ≡ Some next) ⊎ IsDueOn 1 (happened setup endpoints item).value.list next
      → item.moment ≤ next.moment
  by_next is (inl own) =
      earliest_own endpoints item next first (subst (λ (t : Effect Endpoints). post_due 0 t.value.own ≡ Some next) (happened_is setup endpoints item is) own)
  by_next is (inr later) = line_not_earlier setup endpoints item next first is later

  by_case : (post_due 0 endpoints.own ≡ Some item) ⊎ IsDueOn 1 endpoints.list item → item.moment ≤ next.moment
  by_case (inl is) = own_not_earlier setup endpoints item next first is after
  by_case (inr is) = by_next is (first_on (happened setup endpoints item).value next after)

-- How much is left

abbrev left_by : Option DueItem → Endpoints → ℕ → ℕ
left_by None endpoints moment = 0
left_by (Some item) endpoints moment = (moment - item.moment) * per_moment endpoints + total item.moment endpoints

-- how much is left to happen up to a moment: of the moments after the first at which something is due as much as there can
-- be, and what is due at that
pub left : Endpoints → ℕ → ℕ
left endpoints moment = left_by (due_by endpoints moment) endpoints moment

fits_in : (moment at k now : ℕ) → now ≤ k → (moment - at) * k + now ≤ (moment + 1) * k
fits_in moment at k now most =
    let rest : (moment - at) * k ≤ moment * k = mul-le-mul_right k (omega arith) in
    let whole : (moment + 1) * k ≡ moment * k + k = omega arith in
    omega (arith, rest, most, whole)

-- there is room for it
pub left_fits : (endpoints : Endpoints) (moment : ℕ) → left endpoints moment ≤ room endpoints moment
unfolding left
left_fits endpoints moment = by_due (due_by endpoints moment) where
  by_due : (found : Option DueItem) → left_by found endpoints moment ≤ room endpoints moment
  by_due None = omega arith
  by_due (Some item) =
      fits_in moment item.moment (per_moment endpoints) (total item.moment endpoints) (total_most item.moment endpoints)

left_none : (endpoints : Endpoints) (moment : ℕ) → due_by endpoints moment ≡ None → left endpoints moment ≡ 0
unfolding left
left_none endpoints moment none = ap (λ (o : Option DueItem). left_by o endpoints moment) none

left_some : (endpoints : Endpoints) (moment : ℕ) (item : DueItem) → due_by endpoints moment ≡ Some item
    → left endpoints moment ≡ (moment - item.moment) * per_moment endpoints + total item.moment endpoints
unfolding left
left_some endpoints moment item some = ap (λ (o : Option DueItem). left_by o endpoints moment) some

later_less : (moment at next k now : ℕ) → at < next → next ≤ moment → now ≤ k → (moment - next) * k + now ≤ (moment - at) * k
later_less moment at next k now later before most =
    let one : (moment - next + 1) * k ≤ (moment - at) * k = mul-le-mul_right k (omega arith) in
    let whole : (moment - next + 1) * k ≡ (moment - next) * k + k = omega arith in
    omega (arith, one, whole, most)

under : (a b c : ℕ) → a ≤ b → 0 < c → a < b + c
under a b c most some = omega (arith, most, some)

-- each thing that happens leaves less
pub left_falls : (setup : Setup) (endpoints : Endpoints) (moment : ℕ) (item : DueItem) → due_by endpoints moment ≡ Some item
    → left (happened setup endpoints item).value moment < left endpoints moment
left_falls setup endpoints moment item due =
    let after = (happened setup endpoints item).value in
    let first = (by_moment endpoints moment item due).0 in
    rw (left_some endpoints moment item due) (by_next after (due_by after moment) refl first (ap (λ (n : ℕ). things_of_a_line * n + own_things) (happened_lines setup endpoints item))
    (some_due setup endpoints item first) (less_to_come setup endpoints item first)
    (λ next is. not_earlier setup endpoints item next first (by_moment after moment next is).0)) where
      by_order : (after : Endpoints) (next : DueItem) → next.moment ≤ moment → per_moment after ≡ per_moment endpoints → 0 < total item.moment endpoints
          → total item.moment after < total item.moment endpoints → item.moment ≤ next.moment → (b : Bool) → (next.moment == item.moment) ≡ b
          → (moment - next.moment) * per_moment after + total next.moment after < (moment - item.moment) * per_moment endpoints + total item.moment endpoints
      by_order after next before same some less order true e =
          let at : next.moment ≡ item.moment = (Decides-eqb next.moment item.moment).0 e in
          rw (at, same) (second_less _ _ _ less)
      by_order after next before same some less order false e =
          let apart : next.moment ≢ item.moment = λ at. absurd (let b : (next.moment == item.moment) ≡ true = (Decides-eqb next.moment item.moment).1 at in cc) in
          let most : total next.moment after ≤ per_moment after = total_most next.moment after in
          let falls = later_less moment item.moment next.moment (per_moment after) (total next.moment after) (omega (arith, order, apart)) before most in
          rw (← same) (under _ _ _ falls some)

      by_next : (after : Endpoints) (found : Option DueItem) → due_by after moment ≡ found → first_due endpoints ≡ Some item → per_moment after ≡ per_moment endpoints
          → 0 < total item.moment endpoints → total item.moment after < total item.moment endpoints
          → ((next : DueItem) → due_by after moment ≡ Some next → item.moment ≤ next.moment)
          → left after moment < (moment - item.moment) * per_moment endpoints + total item.moment endpoints
      by_next after None none first same some less order = rw (left_none after moment none) (omega (arith, some))
      by_next after (Some next) is first same some less order =
          rw (left_some after moment next is)
          (by_order after next (by_moment after moment next is).1 same some less (order next is) (next.moment == item.moment) refl)

-- More room than is needed changes nothing

on_none : (n : ℕ) (setup : Setup) (endpoints : Endpoints) (moment : ℕ) → due_by endpoints moment ≡ None → passed n setup endpoints moment ≡ silently endpoints
unfolding passed
on_none zero setup endpoints moment none = refl
on_none (suc n) setup endpoints moment none = ap (λ (o : Option DueItem). go_on o setup endpoints (λ next. passed n setup next moment)) none

on_some : (n : ℕ) (setup : Setup) (endpoints : Endpoints) (moment : ℕ) (item : DueItem) → due_by endpoints moment ≡ Some item
    → passed (suc n) setup endpoints moment ≡ afterwards (happened setup endpoints item) (λ next. passed n setup next moment)
unfolding passed
on_some n setup endpoints moment item due = ap (λ (o : Option DueItem). go_on o setup endpoints (λ next. passed n setup next moment)) due

then_same : (first : Effect Endpoints) (some other : Endpoints → Effect Endpoints) → some first.value ≡ other first.value → afterwards first some ≡ afterwards first other
then_same first some other same = ap (behind first.sent) same

no_room : (k : ℕ) (setup : Setup) (endpoints : Endpoints) (moment : ℕ) (found : Option DueItem) → due_by endpoints moment ≡ found → left endpoints moment ≤ 0
    → passed zero setup endpoints moment ≡ passed k setup endpoints moment
no_room k setup endpoints moment None none enough = on_none zero setup endpoints moment none ∙ sym (on_none k setup endpoints moment none)
no_room k setup endpoints moment (Some item) some enough = absurd (omega (arith, left_falls setup endpoints moment item some, enough))

some_room : (n k : ℕ) (setup : Setup) (endpoints : Endpoints) (moment : ℕ) (found : Option DueItem) → due_by endpoints moment ≡ found → left endpoints moment ≤ suc n
    → left endpoints moment ≤ k
    → ((item : DueItem) (j : ℕ) → left (happened setup endpoints item).value moment ≤ n → left (happened setup endpoints item).value moment ≤ j
    → passed n setup (happened setup endpoints item).value moment ≡ passed j setup (happened setup endpoints item).value moment)
    → passed (suc n) setup endpoints moment ≡ passed k setup endpoints moment
some_room n k setup endpoints moment None none enough more next = on_none (suc n) setup endpoints moment none ∙ sym (on_none k setup endpoints moment none)
some_room n zero setup endpoints moment (Some item) some enough more next = absurd (omega (arith, left_falls setup endpoints moment item some, more))
some_room n (suc k) setup endpoints moment (Some item) some enough more next =
    let less = left_falls setup endpoints moment item some in
    on_some n setup endpoints moment item some
    ∙ then_same (happened setup endpoints item) (λ e. passed n setup e moment) (λ e. passed k setup e moment) (next item k (omega (arith, less, enough)) (omega (arith, less, more)))
    ∙ sym (on_some k setup endpoints moment item some)

passed_same : (n k : ℕ) (setup : Setup) (endpoints : Endpoints) (moment : ℕ) → left endpoints moment ≤ n → left endpoints moment ≤ k
    → passed n setup endpoints moment ≡ passed k setup endpoints moment
passed_same zero k setup endpoints moment enough more = no_room k setup endpoints moment (due_by endpoints moment) refl enough
passed_same (suc n) k setup endpoints moment enough more =
    some_room n k setup endpoints moment (due_by endpoints moment) refl enough more (λ item j fits goes. passed_same n j setup (happened setup endpoints item).value moment fits goes)

-- The laws

pub pass_none : (setup : Setup) (endpoints : Endpoints) (moment : ℕ) → due_by endpoints moment ≡ None → pass setup endpoints moment ≡ silently endpoints
unfolding pass
pass_none setup endpoints moment none = on_none (room endpoints moment) setup endpoints moment none

pub pass_some : (setup : Setup) (endpoints : Endpoints) (moment : ℕ) (item : DueItem) → due_by endpoints moment ≡ Some item
    → pass setup endpoints moment ≡ afterwards (happened setup endpoints item) (λ next. pass setup next moment)
unfolding pass
pass_some setup endpoints moment item some =
    let after = (happened setup endpoints item).value in
    let fits : left endpoints moment ≤ room endpoints moment = left_fits endpoints moment in
    let less : left after moment < left endpoints moment = left_falls setup endpoints moment item some in
    passed_same (room endpoints moment) (suc (room endpoints moment)) setup endpoints moment fits (omega (arith, fits))
    ∙ on_some (room endpoints moment) setup endpoints moment item some
    ∙ then_same (happened setup endpoints item) (λ e. passed (room endpoints moment) setup e moment) (λ e. passed (room e moment) setup e moment)
    (passed_same (room endpoints moment) (room after moment) setup after moment (omega (arith, less, fits)) (left_fits after moment))

-- what a pass leaves is due later
nothing_after : (n : ℕ) (setup : Setup) (endpoints : Endpoints) (moment : ℕ) → left endpoints moment ≤ n → due_by (pass setup endpoints moment).value moment ≡ None
nothing_after zero setup endpoints moment enough = by_due (due_by endpoints moment) refl where
  by_due : (found : Option DueItem) → due_by endpoints moment ≡ found → due_by (pass setup endpoints moment).value moment ≡ None
  by_due None none = rw (pass_none setup endpoints moment none) none
  by_due (Some item) some = absurd (omega (arith, left_falls setup endpoints moment item some, enough))
nothing_after (suc n) setup endpoints moment enough =
    by_due (due_by endpoints moment) refl (λ item fits. nothing_after n setup (happened setup endpoints item).value moment fits) where
      by_due : (found : Option DueItem) → due_by endpoints moment ≡ found
          → ((item : DueItem) → left (happened setup endpoints item).value moment ≤ n → due_by (pass setup (happened setup endpoints item).value moment).value moment ≡ None)
          → due_by (pass setup endpoints moment).value moment ≡ None
      by_due None none next = rw (pass_none setup endpoints moment none) none
      by_due (Some item) some next =
          rw (pass_some setup endpoints moment item some) (next item (omega (arith, left_falls setup endpoints moment item some, enough)))

pub nothing_left : (setup : Setup) (endpoints : Endpoints) (moment : ℕ) → due_by (pass setup endpoints moment).value moment ≡ None
nothing_left setup endpoints moment = nothing_after (left endpoints moment) setup endpoints moment (omega arith)
