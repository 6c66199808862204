-- What is given up, the first first, up to when nothing is due.
use Rattle.std.proofs.Common.{◌≡◌, ℕ, zero, suc, ◌<◌, ◌≤◌, List, [], Option, Some, None, refl, sym, ap, ◌∙◌, arith}
use Rattle.std.specs.List.{cons_option}
use Rattle.timers.specs.declared.due_item.DueItem.{DueItem}
use Rattle.plain_machine.specs.declared.setup.Setup.{Setup}
use Rattle.plain_machine.specs.declared.given_up.GivenUpCommand.{GivenUpCommand}
use Rattle.plain_machine.specs.Machine.{Endpoints}
use Rattle.plain_machine.specs.Falling.{due_by, happened, room}
use Rattle.plain_machine.specs.GivingUp.{given_up_at, given_up_on, given_up_of, given_up_until}
use Rattle.plain_machine.proofs.FallingLaws.{left, left_fits, left_falls}

on_none : (n : ℕ) (setup : Setup) (endpoints : Endpoints) (moment : ℕ) → due_by endpoints moment ≡ None → given_up_of n setup endpoints moment ≡ []
unfolding given_up_of
on_none zero setup endpoints moment none = refl
on_none (suc n) setup endpoints moment none = ap (λ (o : Option DueItem). given_up_on o setup endpoints (λ next. given_up_of n setup next moment)) none

on_some : (n : ℕ) (setup : Setup) (endpoints : Endpoints) (moment : ℕ) (item : DueItem) → due_by endpoints moment ≡ Some item
    → given_up_of (suc n) setup endpoints moment ≡ cons_option (given_up_at endpoints item) (given_up_of n setup (happened setup endpoints item).value moment)
unfolding given_up_of
on_some n setup endpoints moment item due = ap (λ (o : Option DueItem). given_up_on o setup endpoints (λ next. given_up_of n setup next moment)) due

-- More room than is needed changes nothing

no_room : (k : ℕ) (setup : Setup) (endpoints : Endpoints) (moment : ℕ) (found : Option DueItem) → due_by endpoints moment ≡ found → left endpoints moment ≤ 0
    → given_up_of zero setup endpoints moment ≡ given_up_of k setup endpoints moment
no_room k setup endpoints moment None none enough = on_none zero setup endpoints moment none ∙ sym (on_none k setup endpoints moment none)
no_room k setup endpoints moment (Some item) some enough = absurd (omega (arith, left_falls setup endpoints moment item some, enough))

some_room : (n k : ℕ) (setup : Setup) (endpoints : Endpoints) (moment : ℕ) (found : Option DueItem) → due_by endpoints moment ≡ found → left endpoints moment ≤ suc n
    → left endpoints moment ≤ k
    → ((item : DueItem) (j : ℕ) → left (happened setup endpoints item).value moment ≤ n → left (happened setup endpoints item).value moment ≤ j
    → given_up_of n setup (happened setup endpoints item).value moment ≡ given_up_of j setup (happened setup endpoints item).value moment)
    → given_up_of (suc n) setup endpoints moment ≡ given_up_of k setup endpoints moment
some_room n k setup endpoints moment None none enough more next = on_none (suc n) setup endpoints moment none ∙ sym (on_none k setup endpoints moment none)
some_room n zero setup endpoints moment (Some item) some enough more next = absurd (omega (arith, left_falls setup endpoints moment item some, more))
some_room n (suc k) setup endpoints moment (Some item) some enough more next =
    let less = left_falls setup endpoints moment item some in
    on_some n setup endpoints moment item some
    ∙ ap (cons_option (given_up_at endpoints item)) (next item k (omega (arith, less, enough)) (omega (arith, less, more)))
    ∙ sym (on_some k setup endpoints moment item some)

given_up_same : (n k : ℕ) (setup : Setup) (endpoints : Endpoints) (moment : ℕ) → left endpoints moment ≤ n → left endpoints moment ≤ k
    → given_up_of n setup endpoints moment ≡ given_up_of k setup endpoints moment
given_up_same zero k setup endpoints moment enough more = no_room k setup endpoints moment (due_by endpoints moment) refl enough
given_up_same (suc n) k setup endpoints moment enough more =
    some_room n k setup endpoints moment (due_by endpoints moment) refl enough more (λ item j fits goes. given_up_same n j setup (happened setup endpoints item).value moment fits goes)

-- The laws

pub given_up_none : (setup : Setup) (endpoints : Endpoints) (moment : ℕ) → due_by endpoints moment ≡ None → given_up_until setup endpoints moment ≡ []
unfolding given_up_until
given_up_none setup endpoints moment none = on_none (room endpoints moment) setup endpoints moment none

pub given_up_some : (setup : Setup) (endpoints : Endpoints) (moment : ℕ) (item : DueItem) → due_by endpoints moment ≡ Some item
    → given_up_until setup endpoints moment ≡ cons_option (given_up_at endpoints item) (given_up_until setup (happened setup endpoints item).value moment)
unfolding given_up_until
given_up_some setup endpoints moment item some =
    let after = (happened setup endpoints item).value in
    let fits : left endpoints moment ≤ room endpoints moment = left_fits endpoints moment in
    let less : left after moment < left endpoints moment = left_falls setup endpoints moment item some in
    given_up_same (room endpoints moment) (suc (room endpoints moment)) setup endpoints moment fits (omega (arith, fits))
    ∙ on_some (room endpoints moment) setup endpoints moment item some
    ∙ ap (cons_option (given_up_at endpoints item)) (given_up_same (room endpoints moment) (room after moment) setup after moment (omega (arith, less, fits)) (left_fits after moment))
