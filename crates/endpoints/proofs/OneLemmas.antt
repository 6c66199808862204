-- What is for one line comes to that line alone.
use Rattle.std.proofs.Common.{◌≡◌, ℕ, suc, ◌+◌, ◌-◌, ◌<◌, ◌≤◌, ◌==◌, Bool, true, false, List, [], ◌∷◌, map, filter, Option, Some, None, refl, sym, ap, ◌∙◌, arith, append-nil}
use Rattle.std.specs.Prelude.{if◌then◌else◌, slice_get, option_and_then}
use Rattle.std.specs.List.{enumerate_from}
use Rattle.std.proofs.lemmas.Bool.Decides.{nat_tests, Decides-eqb}
use Rattle.mg_bytes.specs.Checks.{first_fault}
use Rattle.command_forms.specs.declared.forms.Target.TheVariants.{One}
use Rattle.command_forms.specs.Meaning.{is_for}
use Rattle.command_forms.specs.declared.forms.Deed.{Deed}
use Rattle.plain_machine.specs.declared.endpoint.Endpoint.{Endpoint}
use Rattle.plain_machine.specs.Effect.{Effect, silently, afterwards}
use Rattle.plain_machine.specs.Message.{Sent}
use Rattle.plain_machine.specs.Machine.{Endpoints, turned_at, endpoint_at, on_line, on_lines}
use Rattle.plain_machine.specs.Requesting.{refusal_by, refusal_on, refused_by, lines_meant}

no_other : (line n : ℕ) → line < n → (line == n) ≡ false
no_other line n less = grind (arith, nat_tests, less)

later : (line n : ℕ) → n ≤ line → (line == n) ≡ false → n + 1 ≤ line
later line n from other = grind (arith, nat_tests, from, other)

-- Of lines, the first of which has this number

abbrev meant_in : ℕ → ℕ → List Endpoint → List ℕ
meant_in line n list = filter (is_for (One line)) (map (λ (one : ℕ × Endpoint). one.0) (enumerate_from n list))

abbrev only : ℕ → Option Endpoint → List ℕ
only line None = []
only line (Some endpoint) = line ∷ []

none_meant : (line n : ℕ) (list : List Endpoint) → line < n → meant_in line n list ≡ []
none_meant line n [] less = refl
none_meant line n (endpoint ∷ more) less =
    ap (λ (b : Bool). if b then n ∷ meant_in line (n + 1) more else meant_in line (n + 1) more) (no_other line n less)
    ∙ none_meant line (n + 1) more (omega (arith, less))

one_meant : (line n : ℕ) (list : List Endpoint) → n ≤ line → meant_in line n list ≡ only line (slice_get list (line - n))
one_meant line n [] from = refl
one_meant line n (endpoint ∷ more) from = by_number (line == n) refl (λ far. one_meant line (n + 1) more far) where
  by_number : (b : Bool) → (line == n) ≡ b → (n + 1 ≤ line → meant_in line (n + 1) more ≡ only line (slice_get more (line - (n + 1))))
      → (if b then n ∷ meant_in line (n + 1) more else meant_in line (n + 1) more) ≡ only line (slice_get (endpoint ∷ more) (line - n))
  by_number true is behind =
      let same : line ≡ n = (Decides-eqb line n).0 is in
      let first : line - n ≡ 0 = omega (arith, same) in
      ap (λ (rest : List ℕ). n ∷ rest) (none_meant line (n + 1) more (omega (arith, same)))
      ∙ ap (λ (x : ℕ). x ∷ []) (sym same)
      ∙ sym (ap (λ (place : ℕ). only line (slice_get (endpoint ∷ more) place)) first)
  by_number false other behind =
      let next : line - n ≡ suc (line - (n + 1)) = (let far = later line n from other in omega (arith, far)) in
      behind (later line n from other)
      ∙ sym (ap (λ (place : ℕ). only line (slice_get (endpoint ∷ more) place)) next)

abbrev refused_in : ℕ → Deed → ℕ → List Endpoint → Option ℕ
refused_in line deed n list = first_fault (map (refusal_on (One line) deed) (enumerate_from n list))

none_refused : (line : ℕ) (deed : Deed) (n : ℕ) (list : List Endpoint) → line < n → refused_in line deed n list ≡ None
none_refused line deed n [] less = refl
none_refused line deed n (endpoint ∷ more) less =
    ap (λ (b : Bool). first_fault ((if b then refusal_by deed endpoint else None) ∷ map (refusal_on (One line) deed) (enumerate_from (n + 1) more)))
    (no_other line n less)
    ∙ none_refused line deed (n + 1) more (omega (arith, less))

one_refused : (line : ℕ) (deed : Deed) (n : ℕ) (list : List Endpoint) → n ≤ line
    → refused_in line deed n list ≡ option_and_then (refusal_by deed) (slice_get list (line - n))
one_refused line deed n [] from = refl
one_refused line deed n (endpoint ∷ more) from = by_number (line == n) refl (λ far. one_refused line deed (n + 1) more far) where
  alone : (refusal : Option ℕ) (rest : List (Option ℕ)) → first_fault rest ≡ None → first_fault (refusal ∷ rest) ≡ refusal
  alone None rest none = none
  alone (Some code) rest none = refl

  by_number : (b : Bool) → (line == n) ≡ b
      → (n + 1 ≤ line → refused_in line deed (n + 1) more ≡ option_and_then (refusal_by deed) (slice_get more (line - (n + 1))))
      → first_fault ((if b then refusal_by deed endpoint else None) ∷ map (refusal_on (One line) deed) (enumerate_from (n + 1) more))
      ≡ option_and_then (refusal_by deed) (slice_get (endpoint ∷ more) (line - n))
  by_number true is behind =
      let same : line ≡ n = (Decides-eqb line n).0 is in
      let first : line - n ≡ 0 = omega (arith, same) in
      alone (refusal_by deed endpoint) (map (refusal_on (One line) deed) (enumerate_from (n + 1) more))
      (none_refused line deed (n + 1) more (omega (arith, same)))
      ∙ sym (ap (λ (place : ℕ). option_and_then (refusal_by deed) (slice_get (endpoint ∷ more) place)) first)
  by_number false other behind =
      let next : line - n ≡ suc (line - (n + 1)) = (let far = later line n from other in omega (arith, far)) in
      behind (later line n from other)
      ∙ sym (ap (λ (place : ℕ). option_and_then (refusal_by deed) (slice_get (endpoint ∷ more) place)) next)

-- Of the lines of a gateway

pub refused_one : (endpoints : Endpoints) (line : ℕ) (deed : Deed) → refused_by endpoints (One line) deed ≡ option_and_then (refusal_by deed) (endpoint_at endpoints line)
unfolding refused_by
refused_one endpoints line deed = by_zero (line == 0) refl where
  by_zero : (b : Bool) → (line == 0) ≡ b
      → refused_in line deed 1 endpoints.list ≡ option_and_then (refusal_by deed) (if b then None else slice_get endpoints.list (line - 1))
  by_zero true is =
      let same : line ≡ 0 = (Decides-eqb line 0).0 is in
      none_refused line deed 1 endpoints.list (omega (arith, same))
  by_zero false other = one_refused line deed 1 endpoints.list (let some : 1 ≤ line = grind (arith, nat_tests, other) in some)

nothing_after : (all : Effect Endpoints) → afterwards all silently ≡ all
nothing_after all = ap (λ (sent : List Sent). let e : Effect Endpoints = record { value = all.value; sent = sent } in e) (append-nil all.sent)

pub lines_one : (endpoints : Endpoints) (line : ℕ) (turn : ℕ → Endpoint → Effect Endpoint) → on_lines (lines_meant endpoints (One line)) endpoints turn ≡ on_line endpoints line (turn line)
unfolding on_lines on_line
lines_one endpoints line turn = by_zero (line == 0) refl where
  by_endpoint : (found : Option Endpoint) → endpoint_at endpoints line ≡ found → on_lines (only line found) endpoints turn ≡ turned_at found endpoints line (turn line)
  by_endpoint None at = refl
  by_endpoint (Some endpoint) at =
      nothing_after (on_line endpoints line (turn line))
      ∙ ap (λ (found : Option Endpoint). turned_at found endpoints line (turn line)) at

  by_zero : (b : Bool) → (line == 0) ≡ b
      → on_lines (lines_meant endpoints (One line)) endpoints turn ≡ on_line endpoints line (turn line)
  by_zero true is =
      let same : line ≡ 0 = (Decides-eqb line 0).0 is in
      let none : endpoint_at endpoints line ≡ None = ap (λ (b : Bool). if b then None else slice_get endpoints.list (line - 1)) is in
      ap (λ (lines : List ℕ). on_lines lines endpoints turn) (none_meant line 1 endpoints.list (omega (arith, same)))
      ∙ sym (ap (λ (found : Option Endpoint). turned_at found endpoints line (turn line)) none)
  by_zero false other =
      let some : 1 ≤ line = grind (arith, nat_tests, other) in
      let there : endpoint_at endpoints line ≡ slice_get endpoints.list (line - 1) =
      ap (λ (b : Bool). if b then None else slice_get endpoints.list (line - 1)) other in
      ap (λ (lines : List ℕ). on_lines lines endpoints turn) (one_meant line 1 endpoints.list some)
      ∙ ap (λ (found : Option Endpoint). on_lines (only line found) endpoints turn) (sym there)
      ∙ by_endpoint (endpoint_at endpoints line) refl
