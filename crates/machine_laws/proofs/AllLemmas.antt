-- What comes to all lines, one after the other: each has its turn once, by what it was.
use Rattle.std.proofs.Common.{◌≡◌, ℕ, ◌+◌, ◌-◌, Bool, true, false, ◌==◌, List, [], ◌∷◌, ◌++◌, length, Some, refl, sym, ap, ◌∙◌, subst, arith, append-nil}
use Rattle.std.specs.Prelude.{All as AllOf, map, filter, slice_get, slice_set, if◌then◌else◌, None}
use Rattle.std.specs.List.{enumerate_from}
use Rattle.std.proofs.lemmas.Bool.Decides.{nat_tests}
use Rattle.std.proofs.lemmas.List.{length-append}
use Rattle.std.proofs.lemmas.List.Elements.{All-nil, All-append}
use Rattle.command_forms.specs.declared.forms.Target.TheVariants.{All}
use Rattle.command_forms.specs.Meaning.{is_for}
use Rattle.plain_machine.specs.declared.endpoint.Endpoint.{Endpoint}
use Rattle.plain_machine.specs.Effect.{Effect, effect_map, afterwards}
use Rattle.plain_machine.specs.Message.{Sent}
use Rattle.plain_machine.specs.Machine.{Endpoints, endpoint_at, on_line, on_lines}
use Rattle.plain_machine.proofs.EffectLaws.{on_this}

-- Of all endpoints, whose lines are numbered from here

abbrev pub OnAll : (ℕ → Endpoint → Type 0) → ℕ → List Endpoint → Type 0
OnAll P n [] = Unit {0}
OnAll P n (endpoint ∷ list) = P n endpoint × OnAll P (n + 1) list

on_last : (P : ℕ → Endpoint → Type 0) (n last : ℕ) (front : List Endpoint) (endpoint : Endpoint) → last ≡ n + length front → OnAll P n front → P last endpoint → OnAll P n (front ++ endpoint ∷ [])
on_last P n last [] endpoint is all one = let same : last ≡ n = omega (arith, is) in (subst (λ (i : ℕ). P i endpoint) same one, tt)
on_last P n last (first ∷ front) endpoint is all one = (all.0, on_last P (n + 1) last front endpoint (omega (arith, is)) all.1 one)

get_behind : (front more : List Endpoint) (endpoint : Endpoint) → slice_get (front ++ endpoint ∷ more) (length front) ≡ Some endpoint
get_behind [] more endpoint = refl
get_behind (first ∷ front) more endpoint = get_behind front more endpoint

set_behind : (front more : List Endpoint) (was is : Endpoint) → slice_set (front ++ was ∷ more) (length front) is ≡ (front ++ is ∷ []) ++ more
set_behind [] more was is = refl
set_behind (first ∷ front) more was is = ap (λ (rest : List Endpoint). first ∷ rest) (set_behind front more was is)

-- the endpoints with this list
abbrev with_list : Endpoints → List Endpoint → Endpoints
with_list endpoints list = record endpoints { list = list }

-- the numbers of these lines
abbrev NumbersFrom : ℕ → List Endpoint → List ℕ
NumbersFrom n list = filter (is_for All) (map (λ (one : ℕ × Endpoint). one.0) (enumerate_from n list))

stands_behind : (endpoints : Endpoints) (n : ℕ) (front more : List Endpoint) (endpoint : Endpoint) → endpoints.list ≡ front ++ endpoint ∷ more → n ≡ 1 + length front
    → endpoint_at endpoints n ≡ Some endpoint
stands_behind endpoints n front more endpoint is here = by_zero (n == 0) refl where
  by_zero : (b : Bool) → (n == 0) ≡ b → (if b then None else slice_get endpoints.list (n - 1)) ≡ Some endpoint
  by_zero true e = absurd (let no : n ≡ 0 = grind (arith, nat_tests) in omega (arith, no, here))
  by_zero false e =
      let place : n - 1 ≡ length front = omega (arith, here) in
      ap (λ (list : List Endpoint). slice_get list (n - 1)) is ∙ ap (slice_get (front ++ endpoint ∷ more)) place ∙ get_behind front more endpoint

next_turn : (endpoints : Endpoints) (n : ℕ) (front more : List Endpoint) (endpoint : Endpoint) (turn : Endpoint → Effect Endpoint) → endpoints.list ≡ front ++ endpoint ∷ more → n ≡ 1 + length front
    → on_line endpoints n turn ≡ effect_map (λ (s : Endpoint). with_list endpoints ((front ++ s ∷ []) ++ more)) (turn endpoint)
next_turn endpoints n front more endpoint turn is here =
    let place : n - 1 ≡ length front = omega (arith, here) in
    let set : slice_set endpoints.list (n - 1) (turn endpoint).value ≡ (front ++ (turn endpoint).value ∷ []) ++ more =
    ap (λ (list : List Endpoint). slice_set list (n - 1) (turn endpoint).value) is
    ∙ ap (λ (i : ℕ). slice_set (front ++ endpoint ∷ more) i (turn endpoint).value) place ∙ set_behind front more endpoint (turn endpoint).value in
    on_this endpoints n endpoint turn (stands_behind endpoints n front more endpoint is here)
    ∙ ap (λ (list : List Endpoint). effect_map (λ (s : Endpoint). with_list endpoints list) (turn endpoint)) set

-- P of what something becomes, and Q of what is sent
abbrev pub Gives : {A : Type 0} → (A → Type 0) → (Sent → Type 0) → Effect A → Type 0
Gives P Q effect = P effect.value × AllOf Q effect.sent

-- what holds of each, of the gateway itself, and of what is sent
pub record AllGone (P : ℕ → Endpoint → Type 0) (Q : Sent → Type 0) (endpoints : Endpoints) (is : Effect Endpoints) : Type 0 where
  pub list : OnAll P 1 is.value.list
  pub own : is.value.own ≡ endpoints.own
  pub sent : AllOf Q is.sent

module _ (P P' : ℕ → Endpoint → Type 0) (Q : Sent → Type 0) (turn : ℕ → Endpoint → Effect Endpoint)
    (good : (line : ℕ) (endpoint : Endpoint) → P line endpoint → Gives (P' line) Q (turn line endpoint)) where
  rest_goes : (n : ℕ) (front more : List Endpoint) (endpoints : Endpoints) → endpoints.list ≡ front ++ more → n ≡ 1 + length front → OnAll P' 1 front → OnAll P n more
      → AllGone P' Q endpoints (on_lines (NumbersFrom n more) endpoints turn)
  unfolding on_lines
  rest_goes n front [] endpoints is here before after =
      let same : front ≡ endpoints.list = sym (is ∙ append-nil front) in
      record { list = subst (OnAll P' 1) same before; own = refl; sent = All-nil Q }
  rest_goes n front (endpoint ∷ more) endpoints is here before after =
      let goes = good n endpoint after.0 in
      let becomes = (turn n endpoint).value in
      let nearer : n + 1 ≡ 1 + length (front ++ becomes ∷ []) = omega (arith, here, length-append front (becomes ∷ [])) in
      let front_goes : OnAll P' 1 (front ++ becomes ∷ []) = on_last P' 1 n front becomes here before goes.0 in
      let rest = rest_goes (n + 1) (front ++ becomes ∷ []) more (with_list endpoints ((front ++ becomes ∷ []) ++ more)) refl nearer front_goes after.1 in
      subst (λ (first : Effect Endpoints). AllGone P' Q endpoints (afterwards first (λ next. on_lines (NumbersFrom (n + 1) more) next turn)))
      (sym (next_turn endpoints n front more endpoint (turn n) is here))
      (record { list = rest.list; own = rest.own; sent = All-append Q (turn n endpoint).sent _ goes.1 rest.sent })

  -- from the first line on
  pub all_go : (endpoints : Endpoints) → OnAll P 1 endpoints.list → AllGone P' Q endpoints (on_lines (NumbersFrom 1 endpoints.list) endpoints turn)
  all_go endpoints all = rest_goes 1 [] endpoints.list endpoints refl refl tt all
