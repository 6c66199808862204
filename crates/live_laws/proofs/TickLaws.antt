-- Two ticks are one.
use Rattle.std.proofs.Common.{◌≡◌, ℕ, suc, zero, ◌≤◌, Bool, true, false, List, [], ◌++◌, Option, Some, None, refl, sym, ◌∙◌, ap, arith, append_assoc}
use Rattle.std.specs.Prelude.{nat_le, if◌then◌else◌}
use Rattle.std.proofs.lemmas.Bool.{leb-true, le-leb, true≢false}
use Rattle.timers.specs.declared.due_item.DueItem.{DueItem}
use Rattle.plain_machine.specs.declared.setup.Setup.{Setup}
use Rattle.plain_machine.specs.Effect.{Effect, silently, behind, afterwards}
use Rattle.plain_machine.specs.Message.{Sent}
use Rattle.plain_machine.specs.Event.{tick}
use Rattle.plain_machine.specs.Machine.{Endpoints, Machine}
use Rattle.plain_machine.specs.Falling.{first_due, if_by, due_by, happened, go_on, passed, room, pass}
use Rattle.plain_machine.specs.Happening.{effect}
use Rattle.plain_machine.proofs.FallingLaws.{pass_some}

-- what is due up to a moment is due up to a later one
later_by : (found : Option DueItem) (item : DueItem) (a b : ℕ) → if_by a found ≡ Some item → a ≤ b → if_by b found ≡ Some item
later_by None item a b is le = absurd cc
later_by (Some x) item a b is le = by_test (nat_le x.moment a) refl is where
  by_test : (test : Bool) → nat_le x.moment a ≡ test → (if test then Some x else None) ≡ Some item → (if nat_le x.moment b then Some x else None) ≡ Some item
  by_test true e same = rw (le-leb x.moment b (omega (arith, leb-true x.moment a e, le))) same
  by_test false e same = absurd cc

later_due : (endpoints : Endpoints) (item : DueItem) (a b : ℕ) → due_by endpoints a ≡ Some item → a ≤ b → due_by endpoints b ≡ Some item
unfolding due_by
later_due endpoints item a b is le = later_by (first_due endpoints) item a b is le

-- one thing, another one, and what comes after them
behind_both : {A : Type 0} (first second : List Sent) (last : Effect A) → behind first (behind second last) ≡ behind (first ++ second) last
behind_both first second last = ap (λ (s : List Sent). let found : Effect _ = record { value = last.value; sent = s } in found) (sym (append_assoc first second last.sent))

split_passed : (n : ℕ) (setup : Setup) (endpoints : Endpoints) (a b : ℕ) → a ≤ b
    → pass setup endpoints b ≡ afterwards (passed n setup endpoints a) (λ next. pass setup next b)
unfolding passed
split_passed zero setup endpoints a b le = refl
split_passed (suc n) setup endpoints a b le = by_due (due_by endpoints a) refl (λ item. split_passed n setup (happened setup endpoints item).value a b le) where
  by_due : (found : Option DueItem) → due_by endpoints a ≡ found
      → ((item : DueItem) → pass setup (happened setup endpoints item).value b
      ≡ afterwards (passed n setup (happened setup endpoints item).value a) (λ next. pass setup next b))
      → pass setup endpoints b ≡ afterwards (go_on found setup endpoints (λ next. passed n setup next a)) (λ next. pass setup next b)
  by_due None is rest = refl
  by_due (Some item) is rest =
      pass_some setup endpoints b item (later_due endpoints item a b is le)
      ∙ ap (λ (e : Effect Endpoints). behind (happened setup endpoints item).sent e) (rest item)
      ∙ behind_both (happened setup endpoints item).sent (passed n setup (happened setup endpoints item).value a).sent
      (pass setup (passed n setup (happened setup endpoints item).value a).value b)

passed_is_pass : (setup : Setup) (endpoints : Endpoints) (moment : ℕ) → passed (room endpoints moment) setup endpoints moment ≡ pass setup endpoints moment
unfolding pass
passed_is_pass setup endpoints moment = refl

pub split_pass : (setup : Setup) (endpoints : Endpoints) (a b : ℕ) → a ≤ b → pass setup endpoints b ≡ afterwards (pass setup endpoints a) (λ next. pass setup next b)
split_pass setup endpoints a b le =
    split_passed (room endpoints a) setup endpoints a b le
    ∙ ap (λ (e : Effect Endpoints). afterwards e (λ next. pass setup next b)) (passed_is_pass setup endpoints a)

pub joined_machine : (setup : Setup) (m : Machine) (first second : ℕ) → first ≤ second
    → (effect setup (effect setup m (tick first)).value (tick second)).value ≡ (effect setup m (tick second)).value
unfolding effect
joined_machine setup m first second le = ap (λ (e : Effect Endpoints). let found : Machine = record m { now = second; endpoints = e.value } in found) (sym (split_pass setup m.endpoints first second le))

pub joined_sent : (setup : Setup) (m : Machine) (first second : ℕ) → first ≤ second
    → (effect setup m (tick first)).sent ++ (effect setup (effect setup m (tick first)).value (tick second)).sent ≡ (effect setup m (tick second)).sent
unfolding effect
joined_sent setup m first second le = ap (λ (e : Effect Endpoints). e.sent) (sym (split_pass setup m.endpoints first second le))
