-- What a tick makes of a line is the line's own, and of the gateway itself its own.
use Rattle.std.proofs.Common.{◌≡◌, ℕ, zero, suc, ◌<◌, ◌≤◌, Bool, true, false, ◌==◌, if◌then◌else◌, List, [], Option, Some, None, refl, sym, ap, subst, ◌∙◌, arith}
use Rattle.std.specs.Prelude.{nat_le, option_map, option_and_then}
use Rattle.std.proofs.lemmas.Bool.{le-leb, leb-true}
use Rattle.std.proofs.lemmas.Bool.Decides.{Decides-eqb}
use Rattle.std.proofs.lemmas.Option.{none-some}
use Rattle.timers.specs.declared.due_item.DueItem.{DueItem}
use Rattle.plain_machine.specs.declared.setup.Setup.{Setup}
use Rattle.plain_machine.specs.declared.endpoint.Endpoint.{Endpoint}
use Rattle.plain_machine.specs.Effect.{Effect, behind}
use Rattle.plain_machine.specs.Message.{Sent}
use Rattle.plain_machine.specs.Machine.{Endpoints, endpoint_at, on_line}
use Rattle.plain_machine.specs.Falling.{due_on, post_due, due_at, due_by, if_by, happened_on, happened_under, happened, pass}
use Rattle.plain_machine.proofs.EffectLaws.{either_own, either_line, on_this}
use Rattle.plain_machine.proofs.FirstLemmas.{item_same, first_at, none_by}
use Rattle.plain_machine.proofs.FallingLaws.{left, left_falls, pass_none, pass_some}
use Rattle.machine_laws.proofs.OwningLemmas.{this_turns, of_both, owned_here, owned_elsewhere, happened_owned, own_happened_owned, happening_owned}
use Rattle.machine_laws.proofs.WaitLaws.{others_wait, own_waits}
use Rattle.machine_laws.specs.Belonging.{of_line}
use Rattle.machine_laws.specs.Passing.{seen, PassesAlone, rests, goes_on, line_due, line_happens, own_happens}

-- What is seen of the endpoints goes on by itself

-- what happens, where it is of this one
pub record Here {S : Type 0} (due : S → Option DueItem) (happens : DueItem → S → Effect S) (setup : Setup) (moment n : ℕ) (view : Endpoints → S)
    (endpoints : Endpoints) (item : DueItem) : Type 0 where
  first : if_by moment (due (view endpoints)) ≡ Some item
  becomes : view (happened setup endpoints item).value ≡ (happens item (view endpoints)).value
  sends : of_line n (happened setup endpoints item).sent ≡ (happens item (view endpoints)).sent

-- and where it is of another
pub record There {S : Type 0} (setup : Setup) (n : ℕ) (view : Endpoints → S) (endpoints : Endpoints) (item : DueItem) : Type 0 where
  stays : view (happened setup endpoints item).value ≡ view endpoints
  silent : of_line n (happened setup endpoints item).sent ≡ []

module _ {S : Type 0} (due : S → Option DueItem) (happens : DueItem → S → Effect S) (setup : Setup) (moment n : ℕ) (view : Endpoints → S)
    (here : (endpoints : Endpoints) (item : DueItem) → due_by endpoints moment ≡ Some item → item.line ≡ n → Here due happens setup moment n view endpoints item)
    (there : (endpoints : Endpoints) (item : DueItem) → due_by endpoints moment ≡ Some item → (item.line == n) ≡ false → There setup n view endpoints item)
    (none : (endpoints : Endpoints) → due_by endpoints moment ≡ None → if_by moment (due (view endpoints)) ≡ None) where
  abbrev Passes : Endpoints → Type 0
  Passes endpoints = PassesAlone due happens moment (view endpoints) (seen view n (pass setup endpoints moment))

  none_passes : (endpoints : Endpoints) → due_by endpoints moment ≡ None → Passes endpoints
  none_passes endpoints is =
      rests (view endpoints) _ (none endpoints is) (ap (seen view n) (pass_none setup endpoints moment is))

  some_passes : (endpoints : Endpoints) (item : DueItem) → due_by endpoints moment ≡ Some item → Passes (happened setup endpoints item).value → Passes endpoints
  some_passes endpoints item is rest = by_line (item.line == n) refl where
    next : Endpoints
    next = (happened setup endpoints item).value

    after : Effect S
    after = seen view n (pass setup next moment)

    done : (sent : List Sent) → of_line n (happened setup endpoints item).sent ≡ sent → seen view n (pass setup endpoints moment) ≡ behind sent after
    done sent same =
        ap (seen view n) (pass_some setup endpoints moment item is)
        ∙ ap (λ (sent : List Sent). let x : Effect S = record { value = after.value; sent = sent } in x)
        (of_both n (happened setup endpoints item).sent (pass setup next moment).sent)
        ∙ ap (λ (sent : List Sent). behind sent after) same

    by_line : (b : Bool) → (item.line == n) ≡ b → Passes endpoints
    by_line true e =
        let h = here endpoints item is ((Decides-eqb item.line n).0 e) in
        goes_on (view endpoints) item after _ h.first
        (subst (λ (s : S). PassesAlone due happens moment s after) h.becomes rest)
        (done (happens item (view endpoints)).sent h.sends)
    by_line false e =
        let t = there endpoints item is e in
        subst (λ (x : Effect S). PassesAlone due happens moment (view endpoints) x) (sym (done [] t.silent))
        (subst (λ (s : S). PassesAlone due happens moment s after) t.stays rest)

  passes_by : (k : ℕ) (endpoints : Endpoints) → left endpoints moment ≤ k → (found : Option DueItem) → due_by endpoints moment ≡ found → Passes endpoints
  passes_by k endpoints enough None is = none_passes endpoints is
  passes_by zero endpoints enough (Some item) is = absurd (let falls = left_falls setup endpoints moment item is in omega (arith, falls, enough))
  passes_by (suc k) endpoints enough (Some item) is =
      some_passes endpoints item is
      (passes_by k (happened setup endpoints item).value (let falls = left_falls setup endpoints moment item is in omega (arith, falls, enough))
      (due_by (happened setup endpoints item).value moment) refl)

  passes : (endpoints : Endpoints) → Passes endpoints
  passes endpoints = passes_by (left endpoints moment) endpoints (omega arith) (due_by endpoints moment) refl

-- there is one outcome
pub passes_once : {S : Type 0} (due : S → Option DueItem) (happens : DueItem → S → Effect S) (moment : ℕ) (was : S) (one other : Effect S)
    → PassesAlone due happens moment was one → PassesAlone due happens moment was other → one ≡ other
passes_once {S} due happens moment was one other (rests w t none is) (rests w' t' none' is') = is ∙ sym is'
passes_once {S} due happens moment was one other (rests w t none is) (goes_on w' item rest t' some own is') = absurd (none-some item (sym none ∙ some))
passes_once {S} due happens moment was one other (goes_on w item rest t some own is) (rests w' t' none is') = absurd (none-some item (sym none ∙ some))
passes_once {S} due happens moment was one other (goes_on w item rest t some own is) (goes_on w' item' rest' t' some' own' is') =
    let same : item ≡ item' = item_same item item' (sym some ∙ some') in
    let moved : PassesAlone due happens moment (happens item' was).value rest =
    subst (λ (i : DueItem). PassesAlone due happens moment (happens i was).value rest) same own in
    let after : rest ≡ rest' = passes_once due happens moment (happens item' was).value rest rest' moved own' in
    is ∙ ap (λ (i : DueItem). behind (happens i was).sent rest) same ∙ ap (behind (happens item' was).sent) after ∙ sym is'

-- One item by a moment

by_moment_is : (moment : ℕ) (found : Option DueItem) (item : DueItem) → found ≡ Some item → item.moment ≤ moment → if_by moment found ≡ Some item
by_moment_is moment found item is before =
    ap (if_by moment) is ∙ ap (λ (b : Bool). if b then Some item else None) (le-leb item.moment moment before)

later_is : (moment : ℕ) (found : Option DueItem) → ((other : DueItem) → found ≡ Some other → moment < other.moment) → if_by moment found ≡ None
later_is moment None later = refl
later_is moment (Some other) later = by_test (nat_le other.moment moment) refl (later other refl) where
  by_test : (b : Bool) → nat_le other.moment moment ≡ b → moment < other.moment → (if b then Some other else None) ≡ None
  by_test true e after = absurd (let before : other.moment ≤ moment = leb-true other.moment moment e in omega (arith, before, after))
  by_test false e after = refl

-- A line

not_zero : (line : ℕ) → 1 ≤ line → (line == 0) ≡ false
not_zero line some = by_test (line == 0) refl where
  by_test : (b : Bool) → (line == 0) ≡ b → b ≡ false
  by_test true e = absurd (let none : line ≡ 0 = (Decides-eqb line 0).0 e in omega (arith, some, none))
  by_test false e = refl

due_at_line : (endpoints : Endpoints) (line : ℕ) → 1 ≤ line → due_at endpoints line ≡ line_due line (endpoint_at endpoints line)
due_at_line endpoints line some =
    ap (λ (b : Bool). if b then post_due 0 endpoints.own else option_and_then (λ (s : Endpoint). due_on (line, s)) (endpoint_at endpoints line)) (not_zero line some)

module _ (setup : Setup) (line moment : ℕ) (some : 1 ≤ line) where
  abbrev LineHere : Endpoints → DueItem → Type 0
  LineHere endpoints item = Here (line_due line) (line_happens setup line) setup moment line (λ (e : Endpoints). endpoint_at e line) endpoints item

  line_here : (endpoints : Endpoints) (item : DueItem) → due_by endpoints moment ≡ Some item → item.line ≡ line → LineHere endpoints item
  line_here endpoints item is same = record {
    first = by_moment_is moment (line_due line (endpoint_at endpoints line)) item due_here first.1;
    becomes = (by_endpoint (endpoint_at endpoints line) refl).0;
    sends = (by_endpoint (endpoint_at endpoints line) refl).1;
  } where
    first : (due_at endpoints item.line ≡ Some item) × (item.moment ≤ moment)
    first = first_at endpoints moment item is

    due_here : line_due line (endpoint_at endpoints line) ≡ Some item
    due_here = sym (due_at_line endpoints line some) ∙ ap (due_at endpoints) (sym same) ∙ first.0

    turns : happened setup endpoints item ≡ on_line endpoints line (happened_on item.kind setup line item.moment)
    turns =
        either_line endpoints item.line (happened_under item.kind setup 0 item.moment) (happened_on item.kind setup item.line item.moment)
        (ap (λ (n : ℕ). n == 0) same ∙ not_zero line some)
        ∙ ap (λ (n : ℕ). on_line endpoints n (happened_on item.kind setup n item.moment)) same

    by_endpoint : (found : Option Endpoint) → endpoint_at endpoints line ≡ found
        → (endpoint_at (happened setup endpoints item).value line ≡ (line_happens setup line item found).value)
        × (of_line line (happened setup endpoints item).sent ≡ (line_happens setup line item found).sent)
    by_endpoint None at = absurd (none-some item (ap (line_due line) (sym at) ∙ due_here))
    by_endpoint (Some endpoint) at = (
      ap (λ (t : Effect Endpoints). endpoint_at t.value line) turns ∙ this_turns endpoints line (happened_on item.kind setup line item.moment)
          ∙ ap (option_map (λ (s : Endpoint). (happened_on item.kind setup line item.moment s).value)) at,
      ap (λ (t : Effect Endpoints). of_line line t.sent) (turns ∙ on_this endpoints line endpoint (happened_on item.kind setup line item.moment) at)
          ∙ owned_here line _ (happened_owned item.kind setup line item.moment endpoint),
    )

  line_there : (endpoints : Endpoints) (item : DueItem) → due_by endpoints moment ≡ Some item → (item.line == line) ≡ false
      → There setup line (λ (e : Endpoints). endpoint_at e line) endpoints item
  line_there endpoints item is apart = record {
    stays = others_wait setup endpoints item line (λ same. (let t : (item.line == line) ≡ true = (Decides-eqb item.line line).1 (sym same) in absurd cc));
    silent = owned_elsewhere item.line line (happened setup endpoints item).sent (happening_owned setup endpoints item) apart;
  }

  line_none : (endpoints : Endpoints) → due_by endpoints moment ≡ None → if_by moment (line_due line (endpoint_at endpoints line)) ≡ None
  line_none endpoints is =
      later_is moment (line_due line (endpoint_at endpoints line))
      (λ other due. none_by endpoints moment line other is (due_at_line endpoints line some ∙ due))

  pub line_passes : (endpoints : Endpoints)
      → PassesAlone (line_due line) (line_happens setup line) moment (endpoint_at endpoints line)
      (seen (λ (e : Endpoints). endpoint_at e line) line (pass setup endpoints moment))
  line_passes endpoints =
      passes (line_due line) (line_happens setup line) setup moment line (λ (e : Endpoints). endpoint_at e line) line_here line_there line_none endpoints

-- The gateway itself

module _ (setup : Setup) (moment : ℕ) where
  own_here : (endpoints : Endpoints) (item : DueItem) → due_by endpoints moment ≡ Some item → item.line ≡ 0
      → Here (post_due 0) (own_happens setup) setup moment 0 (λ (e : Endpoints). e.own) endpoints item
  own_here endpoints item is same =
      let first = first_at endpoints moment item is in
      let turns = either_own endpoints item.line (happened_under item.kind setup 0 item.moment) (happened_on item.kind setup item.line item.moment)
      (ap (λ (n : ℕ). n == 0) same) in
      record {
        first = by_moment_is moment (post_due 0 endpoints.own) item (ap (due_at endpoints) (sym same) ∙ first.0) first.1;
        becomes = ap (λ (t : Effect Endpoints). t.value.own) turns;
        sends = ap (λ (t : Effect Endpoints). of_line 0 t.sent) turns ∙ owned_here 0 _ (own_happened_owned item.kind setup item.moment endpoints.own);
      }

  own_there : (endpoints : Endpoints) (item : DueItem) → due_by endpoints moment ≡ Some item → (item.line == 0) ≡ false
      → There setup 0 (λ (e : Endpoints). e.own) endpoints item
  own_there endpoints item is apart = record {
    stays = own_waits setup endpoints item (λ same. (let t : (item.line == 0) ≡ true = (Decides-eqb item.line 0).1 same in absurd cc));
    silent = owned_elsewhere item.line 0 (happened setup endpoints item).sent (happening_owned setup endpoints item) apart;
  }

  own_none : (endpoints : Endpoints) → due_by endpoints moment ≡ None → if_by moment (post_due 0 endpoints.own) ≡ None
  own_none endpoints is = later_is moment (post_due 0 endpoints.own) (λ other due. none_by endpoints moment 0 other is due)

  pub own_passes : (endpoints : Endpoints)
      → PassesAlone (post_due 0) (own_happens setup) moment endpoints.own
      (seen (λ (e : Endpoints). e.own) 0 (pass setup endpoints moment))
  own_passes endpoints = passes (post_due 0) (own_happens setup) setup moment 0 (λ (e : Endpoints). e.own) own_here own_there own_none endpoints
