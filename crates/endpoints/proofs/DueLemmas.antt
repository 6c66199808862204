-- The table of due moments stays in step with the endpoints, and its least is what falls due first of all.
use Rattle.std.proofs.Common.{◌≡◌, ◌≢◌, ℕ, zero, suc, ◌+◌, ◌-◌, ◌<◌, ◌≤◌, ◌==◌, if◌then◌else◌, nat_lt, Bool, true, false, List, [], ◌∷◌, length, Option, Some, None, refl, sym, ap, ◌∙◌, subst, get_or, arith}
use Rattle.std.specs.Prelude.{slice_get, slice_set, option_and_then, IfSome}
use Rattle.std.proofs.lemmas.Bool.{eq-eqb, eqb-true, leb-true, leb-false}
use Rattle.std.proofs.lemmas.Bool.Decides.{nat_tests}
use Rattle.std.proofs.lemmas.Option.{none-some, same_Some, slice_get-get_or}
use Rattle.plain_machine.specs.declared.post.Post.{Post}
use Rattle.plain_machine.specs.declared.endpoint.Endpoint.{Endpoint}
use Rattle.plain_machine.specs.Machine.{Endpoints}
use Rattle.plain_machine.specs.Falling.{due_on, post_due, due_at, first_due}
use Rattle.plain_machine.proofs.FirstLemmas.{first_there, earliest_of, line_is, none_of}
use Rattle.timers.specs.declared.kind.DueKind.{DueKind}
use Rattle.timers.specs.declared.due_item.DueItem.{DueItem}
use Rattle.timers.specs.Order.{kind_number}
use Rattle.timers.specs.Table.{Table, DueState, due, place_at, moment_of, with_moment, without, least_of, IsLeast}
use Rattle.timers.proofs.OrderLemmas.{kind_exact}
use Rattle.timers.proofs.LeastLemmas.{least_of-none, same_from_neither}
use Rattle.timers.proofs.TableLaws.{moment_of-with_moment, moment_of-with_other, moment_of-without, moment_of-without_other}
use Rattle.endpoints.specs.Saving.{endpoints_of}
use Rattle.endpoints.specs.DueTable.{cleared, entered, moment_if, Has, Renews, InStep}

neither : (b : Bool) → b ≡ true → b ≡ false → ⊥
neither b t f = cc

-- Of two kinds

same_kind : (a b : DueKind) → (kind_number a == kind_number b) ≡ true → a ≡ b
same_kind a b e = kind_exact a b (eqb-true (kind_number a) (kind_number b) e)

itself : (kind : DueKind) → (kind_number kind == kind_number kind) ≡ true
itself kind = eq-eqb (kind_number kind) (kind_number kind) refl

other_kind : (a b : DueKind) → (kind_number a == kind_number b) ≡ false → a ≢ b
other_kind a b differ same =
    neither (kind_number a == kind_number b) (eq-eqb (kind_number a) (kind_number b) (ap (λ (k : DueKind). kind_number k) same)) differ

-- What is first of a line becomes another, and nothing else does

apart_line : (line other : ℕ) (kind kind' : DueKind) → other ≢ line → place_at other kind ≢ place_at line kind'
apart_line line other kind kind' apart e = apart (ap (λ (p : ℕ × DueKind). p.0) e)

apart_kind : (line : ℕ) (kind kind' : DueKind) → kind ≢ kind' → place_at line kind ≢ place_at line kind'
apart_kind line kind kind' apart e = apart (ap (λ (p : ℕ × DueKind). p.1) e)

cleared_elsewhere : (line other : ℕ) (kind : DueKind) (was : Option DueItem) (table : Table) → other ≢ line
    → moment_of (cleared line was table) other kind ≡ moment_of table other kind
cleared_elsewhere line other kind None table apart = refl
cleared_elsewhere line other kind (Some item) table apart =
    moment_of-without_other table line item.kind other kind (apart_line line other kind item.kind apart)

entered_elsewhere : (line other : ℕ) (kind : DueKind) (is : Option DueItem) (table : Table) → other ≢ line
    → moment_of (entered line is table) other kind ≡ moment_of table other kind
entered_elsewhere line other kind None table apart = refl
entered_elsewhere line other kind (Some item) table apart =
    moment_of-with_other table line item.kind item.moment other kind (apart_line line other kind item.kind apart)

cleared_here : (line : ℕ) (kind : DueKind) (was : Option DueItem) (table : Table) → ((k : DueKind) → moment_of table line k ≡ moment_if k was)
    → moment_of (cleared line was table) line kind ≡ None
cleared_here line kind None table had = had kind
cleared_here line kind (Some item) table had = by_kind (kind_number kind == kind_number item.kind) refl where
  by_kind : (b : Bool) → (kind_number kind == kind_number item.kind) ≡ b → moment_of (without table line item.kind) line kind ≡ None
  by_kind true e =
      subst (λ (k : DueKind). moment_of (without table line item.kind) line k ≡ None) (sym (same_kind kind item.kind e))
      (moment_of-without table line item.kind)
  by_kind false e =
      moment_of-without_other table line item.kind line kind (apart_kind line kind item.kind (other_kind kind item.kind e))
      ∙ had kind
      ∙ ap (λ (b : Bool). if b then Some item.moment else None) e

entered_here : (line : ℕ) (kind : DueKind) (is : Option DueItem) (table : Table) → ((k : DueKind) → moment_of table line k ≡ None)
    → moment_of (entered line is table) line kind ≡ moment_if kind is
entered_here line kind None table none = none kind
entered_here line kind (Some item) table none = by_kind (kind_number kind == kind_number item.kind) refl where
  by_kind : (b : Bool) → (kind_number kind == kind_number item.kind) ≡ b
      → moment_of (with_moment table line item.kind item.moment) line kind ≡ (if b then Some item.moment else None)
  by_kind true e =
      subst (λ (k : DueKind). moment_of (with_moment table line item.kind item.moment) line k ≡ Some item.moment)
      (sym (same_kind kind item.kind e)) (moment_of-with_moment table line item.kind item.moment)
  by_kind false e =
      moment_of-with_other table line item.kind item.moment line kind
      (apart_kind line kind item.kind (other_kind kind item.kind e))
      ∙ none kind

-- what was first of a line is taken out, and what is first is put in
pub put_anew : (line : ℕ) (was is : Option DueItem) (table mid end : Table) → Has table line was → mid ≡ cleared line was table → end ≡ entered line is mid
    → Renews line is table end
put_anew line was is table mid end had out into =
    let whole : end ≡ entered line is (cleared line was table) = into ∙ ap (entered line is) out in
    record {
      here = λ kind. ap (λ (t : Table). moment_of t line kind) whole
          ∙ entered_here line kind is (cleared line was table) (λ k. cleared_here line k was table had);
      elsewhere = λ other kind apart. ap (λ (t : Table). moment_of t other kind) whole
          ∙ entered_elsewhere line other kind is (cleared line was table) apart
          ∙ cleared_elsewhere line other kind was table apart;
    }

-- what is first of a line is what it was
pub left_alone : (line : ℕ) (was is : Option DueItem) (table : Table) → Has table line was → was ≡ is → Renews line is table table
left_alone line was is table had same = record {
  here = λ kind. had kind ∙ ap (moment_if kind) same;
  elsewhere = λ other kind apart. refl;
}

-- each line has in the table what it has of these
abbrev Moments : Table → (ℕ → Option DueItem) → Type 0
Moments table firsts = (line : ℕ) (kind : DueKind) → moment_of table line kind ≡ moment_if kind (firsts line)

renewed : (table table' : Table) (line : ℕ) (is : Option DueItem) (before after : ℕ → Option DueItem) → Moments table before → Renews line is table table'
    → is ≡ after line → ((other : ℕ) → other ≢ line → after other ≡ before other) → Moments table' after
renewed table table' line is before after had renews is_is elsewhere = λ other kind. by_line other kind (other == line) refl where
  by_line : (other : ℕ) (kind : DueKind) (b : Bool) → (other == line) ≡ b → moment_of table' other kind ≡ moment_if kind (after other)
  by_line other kind true e =
      subst (λ (l : ℕ). moment_of table' l kind ≡ moment_if kind (after l)) (sym (eqb-true other line e)) (renews.here kind ∙ ap (moment_if kind) is_is)
  by_line other kind false e =
      let apart : other ≢ line = λ same. neither (other == line) (eq-eqb other line same) e in
      renews.elsewhere other kind apart ∙ had other kind ∙ ap (moment_if kind) (sym (elsewhere other apart))

-- What falls due on the lines, where one endpoint or the gateway itself becomes another

not_zero : (n : ℕ) → 1 ≤ n → (n == 0) ≡ false
not_zero n some = grind (arith, nat_tests, some)

due_there : (list : List Endpoint) (own : Post) (place line : ℕ) (endpoint : Endpoint) → line ≡ place + 1 → place < length list
    → endpoint ≡ get_or list place endpoint → due_on (line, endpoint) ≡ due_at (endpoints_of list own) line
due_there list own place line endpoint same inside is =
    let some : (line == 0) ≡ false = not_zero line (omega (arith, same)) in
    let at : line - 1 ≡ place = omega (arith, same) in
    let got : slice_get list (line - 1) ≡ Some endpoint =
    ap (slice_get list) at ∙ slice_get-get_or list place endpoint inside ∙ ap (λ (s : Endpoint). Some s) (sym is) in
    sym (ap (λ (b : Bool). if b then post_due 0 own
    else option_and_then (λ (s : Endpoint). due_on (line, s)) (if b then None else slice_get list (line - 1))) some
    ∙ ap (λ (found : Option Endpoint). option_and_then (λ (s : Endpoint). due_on (line, s)) found) got)

got_elsewhere : (list : List Endpoint) (place other : ℕ) (becomes : Endpoint) → other ≢ place
    → slice_get (slice_set list place becomes) other ≡ slice_get list other
got_elsewhere [] place other becomes apart = refl
got_elsewhere (one ∷ more) zero zero becomes apart = absurd (apart refl)
got_elsewhere (one ∷ more) zero (suc other) becomes apart = refl
got_elsewhere (one ∷ more) (suc place) zero becomes apart = refl
got_elsewhere (one ∷ more) (suc place) (suc other) becomes apart = got_elsewhere more place other becomes (λ e. apart (ap suc e))

due_elsewhere : (list : List Endpoint) (own : Post) (place line : ℕ) (becomes : Endpoint) → line ≡ place + 1 → (other : ℕ) → other ≢ line
    → due_at (endpoints_of (slice_set list place becomes) own) other ≡ due_at (endpoints_of list own) other
due_elsewhere list own place line becomes same other apart = by_zero (other == 0) refl where
  at : List Endpoint → Bool → Option DueItem
  at those b = if b then post_due 0 own else option_and_then (λ (s : Endpoint). due_on (other, s)) (if b then None else slice_get those (other - 1))

  by_zero : (b : Bool) → (other == 0) ≡ b → at (slice_set list place becomes) b ≡ at list b
  by_zero true e = refl
  by_zero false e =
      let some : other ≢ 0 = λ none. neither (other == 0) (eq-eqb other 0 none) e in
      let far : other - 1 ≢ place = λ near. apart (omega (arith, some, near, same)) in
      ap (λ (found : Option Endpoint). option_and_then (λ (s : Endpoint). due_on (other, s)) found) (got_elsewhere list place (other - 1) becomes far)

pub set_length : (list : List Endpoint) (place : ℕ) (endpoint : Endpoint) → length (slice_set list place endpoint) ≡ length list
set_length [] place endpoint = refl
set_length (one ∷ more) zero endpoint = refl
set_length (one ∷ more) (suc place) endpoint = ap suc (set_length more place endpoint)

pub got_there : (list : List Endpoint) (place : ℕ) (endpoint other : Endpoint) → place < length list → get_or (slice_set list place endpoint) place other ≡ endpoint
got_there [] place endpoint other inside = absurd (omega (arith, inside))
got_there (one ∷ more) zero endpoint other inside = refl
got_there (one ∷ more) (suc place) endpoint other inside = got_there more place endpoint other (omega (arith, inside))

-- what the table has of the line of an endpoint
pub had_there : (list : List Endpoint) (own : Post) (place line : ℕ) (was : Endpoint) (first : Option DueItem) (state : DueState) → InStep (endpoints_of list own) state
    → line ≡ place + 1 → place < length list → was ≡ get_or list place was → first ≡ due_on (line, was) → Has state.table line first
had_there list own place line was first state step same inside had falls =
    λ kind. step.moments line kind ∙ ap (moment_if kind) (sym (falls ∙ due_there list own place line was same inside had))

-- one endpoint becomes another
pub endpoint_in_step : (list : List Endpoint) (own : Post) (place line : ℕ) (is : Endpoint) (first : Option DueItem) (state state' : DueState)
    → InStep (endpoints_of list own) state → line ≡ place + 1 → place < length list → first ≡ due_on (line, is) → state'.lines ≡ state.lines
    → Renews line first state.table state'.table → InStep (endpoints_of (slice_set list place is) own) state'
endpoint_in_step list own place line is first state state' step same inside falls lines renews = record {
  lines = lines ∙ step.lines ∙ sym (set_length list place is);
  moments = renewed state.table state'.table line first (due_at (endpoints_of list own)) (due_at (endpoints_of (slice_set list place is) own)) step.moments renews
      (falls ∙ due_there (slice_set list place is) own place line is same (omega (arith, inside, set_length list place is)) (sym (got_there list place is is inside)))
      (due_elsewhere list own place line is same);
}

own_elsewhere : (list : List Endpoint) (own becomes : Post) (other : ℕ) → other ≢ 0 → due_at (endpoints_of list becomes) other ≡ due_at (endpoints_of list own) other
own_elsewhere list own becomes other some = by_zero (other == 0) refl where
  at : Post → Bool → Option DueItem
  at one b = if b then post_due 0 one else option_and_then (λ (s : Endpoint). due_on (other, s)) (if b then None else slice_get list (other - 1))

  by_zero : (b : Bool) → (other == 0) ≡ b → at becomes b ≡ at own b
  by_zero true e = absurd (some (eqb-true other 0 e))
  by_zero false e = refl

-- what the table has of the gateway itself
pub own_had : (list : List Endpoint) (own : Post) (first : Option DueItem) (state : DueState) → InStep (endpoints_of list own) state → first ≡ post_due 0 own
    → Has state.table 0 first
own_had list own first state step falls = λ kind. step.moments 0 kind ∙ ap (moment_if kind) (sym falls)

-- the post of the gateway itself becomes another
pub own_in_step : (list : List Endpoint) (own becomes : Post) (first : Option DueItem) (state state' : DueState) → InStep (endpoints_of list own) state
    → first ≡ post_due 0 becomes → state'.lines ≡ state.lines → Renews 0 first state.table state'.table → InStep (endpoints_of list becomes) state'
own_in_step list own becomes first state state' step falls lines renews = record {
  lines = lines ∙ step.lines;
  moments = renewed state.table state'.table 0 first (due_at (endpoints_of list own)) (due_at (endpoints_of list becomes)) step.moments renews falls
      (own_elsewhere list own becomes);
}

-- The table at the opening, line after line

-- what falls due first of these lines, and of no further one
abbrev pub due_before : ℕ → Endpoints → ℕ → Option DueItem
due_before most endpoints line = if nat_lt line most then due_at endpoints line else None

-- the table has what falls due first of so many lines, the gateway itself among them
pub record IsFilled (most : ℕ) (endpoints : Endpoints) (state : DueState) : Type 0 where
  pub lines : state.lines ≡ length endpoints.list
  pub moments : (line : ℕ) (kind : DueKind) → moment_of state.table line kind ≡ moment_if kind (due_before most endpoints line)

before_next : (n other : ℕ) → other ≢ n → nat_lt other (n + 1) ≡ nat_lt other n
before_next n other apart = by_test (nat_lt other n) (nat_lt other (n + 1)) refl refl where
  by_test : (x y : Bool) → nat_lt other n ≡ x → nat_lt other (n + 1) ≡ y → y ≡ x
  by_test true true e f = refl
  by_test false false e f = refl
  by_test true false e f = absurd (let less = leb-true _ _ e in let more = leb-false _ _ f in omega (arith, less, more))
  by_test false true e f = absurd (let more = leb-false _ _ e in let less = leb-true _ _ f in apart (omega (arith, less, more)))

not_before : (n : ℕ) → nat_lt n n ≡ false
not_before n = grind (arith, nat_tests)

none_below : (n : ℕ) → nat_lt n 0 ≡ false
none_below n = grind (arith, nat_tests)

is_before : (n : ℕ) → nat_lt n (n + 1) ≡ true
is_before n = grind (arith, nat_tests)

filled_more : (endpoints : Endpoints) (line : ℕ) (state state' : DueState) → IsFilled line endpoints state → state'.lines ≡ state.lines
    → state'.table ≡ entered line (due_at endpoints line) state.table → IsFilled (line + 1) endpoints state'
filled_more endpoints line state state' filled lines table = record {
  lines = lines ∙ filled.lines;
  moments = renewed state.table state'.table line (due_at endpoints line) (due_before line endpoints) (due_before (line + 1) endpoints) filled.moments
      (put_anew line None (due_at endpoints line) state.table state.table state'.table
      (λ kind. filled.moments line kind ∙ ap (λ (b : Bool). moment_if kind (if b then due_at endpoints line else None)) (not_before line)) refl table)
      (sym (ap (λ (b : Bool). if b then due_at endpoints line else None) (is_before line)))
      (λ other apart. ap (λ (b : Bool). if b then due_at endpoints other else None) (before_next line other apart));
}

-- that of the gateway itself is put into a table with nothing
pub filled_first : (list : List Endpoint) (own : Post) (state state' : DueState) → state.lines ≡ length list → state.table ≡ [] → state'.lines ≡ state.lines
    → state'.table ≡ entered 0 (post_due 0 own) state.table → IsFilled 1 (endpoints_of list own) state'
filled_first list own state state' lines none kept table =
    filled_more (endpoints_of list own) 0 state state'
    (record {
      lines = lines;
      moments = λ line kind. ap (λ (t : Table). moment_of t line kind) none
          ∙ sym (ap (λ (b : Bool). moment_if kind (if b then due_at (endpoints_of list own) line else None)) (none_below line));
    })
    kept table

-- and that of one line more
pub filled_next : (list : List Endpoint) (own : Post) (place line : ℕ) (endpoint : Endpoint) (state state' : DueState) → IsFilled (place + 1) (endpoints_of list own) state
    → line ≡ place + 1 → place < length list → endpoint ≡ get_or list place endpoint → state'.lines ≡ state.lines
    → state'.table ≡ entered line (due_on (line, endpoint)) state.table → IsFilled (place + 1 + 1) (endpoints_of list own) state'
filled_next list own place line endpoint state state' filled same inside is kept table =
    filled_more (endpoints_of list own) (place + 1) state state' filled kept
    (table ∙ ap (λ (first : Option DueItem). entered line first state.table) (due_there list own place line endpoint same inside is)
    ∙ ap (λ (l : ℕ). entered l (due_at (endpoints_of list own) l) state.table) same)

got_past : (list : List Endpoint) (n : ℕ) → length list ≤ n → slice_get list n ≡ None
got_past [] n past = refl
got_past (one ∷ more) zero past = absurd (omega (arith, past))
got_past (one ∷ more) (suc n) past = got_past more n (omega (arith, past))

-- all lines are in it
pub all_filled : (most : ℕ) (list : List Endpoint) (own : Post) (state : DueState) → length list < most → IsFilled most (endpoints_of list own) state
    → InStep (endpoints_of list own) state
all_filled most list own state past filled = record {
  lines = filled.lines;
  moments = λ line kind. filled.moments line kind ∙ ap (moment_if kind) (all_of line (nat_lt line most) refl);
} where
  none_there : (line : ℕ) → most ≤ line → due_at (endpoints_of list own) line ≡ None
  none_there line far =
      let some : (line == 0) ≡ false = not_zero line (omega (arith, past, far)) in
      ap (λ (b : Bool). if b then post_due 0 own
      else option_and_then (λ (s : Endpoint). due_on (line, s)) (if b then None else slice_get list (line - 1))) some
      ∙ ap (λ (found : Option Endpoint). option_and_then (λ (s : Endpoint). due_on (line, s)) found) (got_past list (line - 1) (omega (arith, past, far)))

  all_of : (line : ℕ) (b : Bool) → nat_lt line most ≡ b → (if b then due_at (endpoints_of list own) line else None) ≡ due_at (endpoints_of list own) line
  all_of line true e = refl
  all_of line false e = sym (none_there line (let far = leb-false _ _ e in omega (arith, far)))

-- What falls due first

-- what falls due first of a line is in the table
in_table : (endpoints : Endpoints) (state : DueState) (line : ℕ) (item : DueItem) → InStep endpoints state → due_at endpoints line ≡ Some item
    → moment_of state.table line item.kind ≡ Some item.moment
in_table endpoints state line item step at =
    step.moments line item.kind
    ∙ ap (moment_if item.kind) at
    ∙ ap (λ (b : Bool). if b then Some item.moment else None) (itself item.kind)

-- what is in the table falls due first of its line
of_its_line : (endpoints : Endpoints) (state : DueState) (item : DueItem) → InStep endpoints state
    → moment_of state.table item.line item.kind ≡ Some item.moment → due_at endpoints item.line ≡ Some item
of_its_line endpoints state item step set = by_first (due_at endpoints item.line) refl (sym (step.moments item.line item.kind) ∙ set) where
  by_kind : (first : DueItem) → due_at endpoints item.line ≡ Some first → (b : Bool) → (kind_number item.kind == kind_number first.kind) ≡ b
      → (if b then Some first.moment else None) ≡ Some item.moment → Some first ≡ Some item
  by_kind first at true same has =
      let moments : first.moment ≡ item.moment = same_Some first.moment item.moment has in
      let lines : first.line ≡ item.line = line_is endpoints item.line first at in
      let kinds : item.kind ≡ first.kind = same_kind item.kind first.kind same in
      let one : first ≡ item = λ i. record { moment = moments i; line = lines i; kind = (sym kinds) i } in
      ap (λ (x : DueItem). Some x) one
  by_kind first at false other has = absurd (none-some item.moment has)

  by_first : (first : Option DueItem) → due_at endpoints item.line ≡ first → moment_if item.kind first ≡ Some item.moment
      → due_at endpoints item.line ≡ Some item
  by_first None none has = absurd (none-some item.moment has)
  by_first (Some first) at has = at ∙ by_kind first at (kind_number item.kind == kind_number first.kind) refl has

-- the least of the table is the first of all
least_first : (endpoints : Endpoints) (state : DueState) (least : DueItem) → InStep endpoints state → IsLeast state.table least
    → (first : Option DueItem) → first_due endpoints ≡ first → Some least ≡ first
least_first endpoints state least step is None none =
    absurd (none_of endpoints least.line least none (of_its_line endpoints state least step is.set))
least_first endpoints state least step is (Some item) some =
    let there = in_table endpoints state item.line item step (first_there endpoints item some) in
    ap (λ (x : DueItem). Some x)
    (same_from_neither least item (earliest_of endpoints least.line item least some (of_its_line endpoints state least step is.set))
    (is.first item.line item.kind item.moment there))

pub first_is_least : (endpoints : Endpoints) (state : DueState) → InStep endpoints state → IfSome (least_of state.table) (IsLeast state.table)
    → least_of state.table ≡ first_due endpoints
first_is_least endpoints state step least = by_least (least_of state.table) refl least where
  by_none : (first : Option DueItem) → first_due endpoints ≡ first → least_of state.table ≡ None → None ≡ first
  by_none None e none = refl
  by_none (Some item) e none =
      let empty : state.table ≡ [] = least_of-none state.table none in
      absurd (none-some item.moment (sym (ap (λ (t : Table). moment_of t item.line item.kind) empty) ∙ in_table endpoints state item.line item step (first_there endpoints item e)))

  by_least : (found : Option DueItem) → least_of state.table ≡ found → IfSome found (IsLeast state.table) → found ≡ first_due endpoints
  by_least None none unneeded = by_none (first_due endpoints) refl none
  by_least (Some least) is set = least_first endpoints state least step set (first_due endpoints) refl
