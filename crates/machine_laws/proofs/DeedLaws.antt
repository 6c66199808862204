-- What a command does on the lines that it is for.
use Rattle.std.proofs.Common.{◌≡◌, ◌≢◌, ℕ, zero, suc, ◌+◌, ◌-◌, ◌<◌, Bool, true, false, ◌==◌, if◌then◌else◌, List, [], ◌∷◌, length, map, filter, Option, Some, None, inl, inr, refl, sym, ap, ◌∙◌, subst, arith}
use Rattle.std.specs.Prelude.{◌⊎◌, All, slice_get, flat_map, option_map, option_and_then}
use Rattle.std.specs.List.{enumerate_from}
use Rattle.std.proofs.lemmas.Bool.Decides.{Decides-eqb}
use Rattle.std.proofs.lemmas.List.Elements.{filter_passes}
use Rattle.std.proofs.lemmas.Option.{none-some}
use Rattle.mg_bytes.specs.Checks.{first_fault}
use Rattle.mgcp_text.specs.Answer.{plain_code}
use Rattle.mgcp_text.specs.declared.message.Param.{Param}
use Rattle.command_forms.specs.Meaning.{is_for}
use Rattle.command_forms.specs.declared.forms.Deed.{Deed}
use Rattle.command_forms.specs.declared.forms.Target.{Target}
use Rattle.plain_machine.specs.declared.setup.Setup.{Setup}
use Rattle.plain_machine.specs.declared.endpoint.Endpoint.{Endpoint}
use Rattle.plain_machine.specs.Done.{Done, only_answer}
use Rattle.plain_machine.specs.Machine.{Endpoints, endpoint_at, numbered}
use Rattle.plain_machine.specs.Requesting.{refusal_on, refused_by, lines_meant, deed_on, deed_on_all, shown_of, answer_with, unless_refused, deed_done}
use Rattle.machine_laws.specs.Refusals.{refusal_at, IsRefused, NoneRefuses}
use Rattle.machine_laws.proofs.OwningLemmas.{not_among, among_from, none_stays, sent_from_each, passing_from, place_of, all_there}

-- what a deed does and is answered where no line refuses it
abbrev done_whole : Setup → Endpoints → Target → List Param → Deed → ℕ → Done
done_whole setup endpoints lines more deed moment = record {
  told = deed_on_all setup endpoints lines deed moment;
  answer = answer_with more deed (shown_of endpoints lines deed);
}

-- The first line that refuses

abbrev refusal_in : Target → Deed → ℕ → List Endpoint → ℕ → Option ℕ
refusal_in lines deed n list place = option_and_then (λ (endpoint : Endpoint). refusal_on lines deed (n + place, endpoint)) (slice_get list place)

abbrev first_in : Target → Deed → ℕ → List Endpoint → Option ℕ
first_in lines deed n list = first_fault (map (refusal_on lines deed) (enumerate_from n list))

shifted : (lines : Target) (deed : Deed) (n : ℕ) (first : Endpoint) (list : List Endpoint) (place : ℕ)
    → refusal_in lines deed n (first ∷ list) (suc place) ≡ refusal_in lines deed (n + 1) list place
shifted lines deed n first list place =
    let same : n + suc place ≡ n + 1 + place = omega arith in
    ap (λ (x : ℕ). option_and_then (λ (endpoint : Endpoint). refusal_on lines deed (x, endpoint)) (slice_get list place)) same

at_front : (lines : Target) (deed : Deed) (n : ℕ) (first : Endpoint) (list : List Endpoint) → refusal_in lines deed n (first ∷ list) 0 ≡ refusal_on lines deed (n, first)
at_front lines deed n first list = let same : n + 0 ≡ n = omega arith in ap (λ (x : ℕ). refusal_on lines deed (x, first)) same

first_refuses : (lines : Target) (deed : Deed) (n : ℕ) (list : List Endpoint) (place code : ℕ) → refusal_in lines deed n list place ≡ Some code
    → ((before : ℕ) → before < place → refusal_in lines deed n list before ≡ None) → first_in lines deed n list ≡ Some code
first_refuses lines deed n [] place code refuses none = absurd (none-some code refuses)
first_refuses lines deed n (first ∷ list) zero code refuses none =
    ap (λ (x : Option ℕ). first_fault (x ∷ map (refusal_on lines deed) (enumerate_from (n + 1) list))) (sym (at_front lines deed n first list) ∙ refuses)
first_refuses lines deed n (first ∷ list) (suc place) code refuses none =
    ap (λ (x : Option ℕ). first_fault (x ∷ map (refusal_on lines deed) (enumerate_from (n + 1) list))) (sym (at_front lines deed n first list) ∙ none 0 (omega arith))
    ∙ first_refuses lines deed (n + 1) list place code (sym (shifted lines deed n first list place) ∙ refuses)
    (λ before less. sym (shifted lines deed n first list before) ∙ none (suc before) (omega (arith, less)))

none_refuses : (lines : Target) (deed : Deed) (n : ℕ) (list : List Endpoint) → ((place : ℕ) → refusal_in lines deed n list place ≡ None) → first_in lines deed n list ≡ None
none_refuses lines deed n [] none = refl
none_refuses lines deed n (first ∷ list) none =
    ap (λ (x : Option ℕ). first_fault (x ∷ map (refusal_on lines deed) (enumerate_from (n + 1) list))) (sym (at_front lines deed n first list) ∙ none 0)
    ∙ none_refuses lines deed (n + 1) list (λ place. sym (shifted lines deed n first list place) ∙ none (suc place))

-- a line is at its place
line_at : (endpoints : Endpoints) (lines : Target) (deed : Deed) (place : ℕ) → refusal_at endpoints lines deed (1 + place) ≡ refusal_in lines deed 1 endpoints.list place
line_at endpoints lines deed place = by_zero (1 + place == 0) refl where
  by_zero : (b : Bool) → (1 + place == 0) ≡ b
      → option_and_then (λ (endpoint : Endpoint). refusal_on lines deed (1 + place, endpoint)) (if b then None else slice_get endpoints.list (1 + place - 1))
      ≡ refusal_in lines deed 1 endpoints.list place
  by_zero true zero_line = absurd (let same : 1 + place ≡ 0 = (Decides-eqb (1 + place) 0).0 zero_line in omega (arith, same))
  by_zero false some =
      let same : 1 + place - 1 ≡ place = omega arith in
      ap (λ (x : ℕ). option_and_then (λ (endpoint : Endpoint). refusal_on lines deed (1 + place, endpoint)) (slice_get endpoints.list x)) same

least_refuses : (endpoints : Endpoints) (lines : Target) (deed : Deed) (line code : ℕ) → refusal_at endpoints lines deed line ≡ Some code
    → ((other : ℕ) → other < line → refusal_at endpoints lines deed other ≡ None) → refused_by endpoints lines deed ≡ Some code
unfolding refused_by
least_refuses endpoints lines deed zero code refuses none = absurd (none-some code refuses)
least_refuses endpoints lines deed (suc place) code refuses none =
    let same : suc place ≡ 1 + place = omega arith in
    first_refuses lines deed 1 endpoints.list place code
    (sym (line_at endpoints lines deed place) ∙ ap (refusal_at endpoints lines deed) (sym same) ∙ refuses)
    (λ before less. sym (line_at endpoints lines deed before) ∙ none (1 + before) (omega (arith, less)))

pub refused_deed : (setup : Setup) (endpoints : Endpoints) (lines : Target) (more : List Param) (deed : Deed) (moment : ℕ) (refused : IsRefused endpoints lines deed)
    → deed_done setup endpoints lines more deed moment ≡ only_answer endpoints (plain_code refused.code)
refused_deed setup endpoints lines more deed moment refused =
    ap (λ (x : Option ℕ). unless_refused x endpoints (done_whole setup endpoints lines more deed moment))
    (least_refuses endpoints lines deed refused.line refused.code refused.refuses refused.least)

-- Either a line refuses or none does

abbrev NoneBelow : Endpoints → Target → Deed → ℕ → Type 0
NoneBelow endpoints lines deed n = (line : ℕ) → line < n → refusal_at endpoints lines deed line ≡ None

refused_below : (endpoints : Endpoints) (lines : Target) (deed : Deed) (n : ℕ) → IsRefused endpoints lines deed ⊎ NoneBelow endpoints lines deed n
refused_below endpoints lines deed zero = inr (λ line less. absurd (omega (arith, less)))
refused_below endpoints lines deed (suc n) = by_rest (refused_below endpoints lines deed n) where
  by_this : (found : Option ℕ) → refusal_at endpoints lines deed n ≡ found → NoneBelow endpoints lines deed n
      → IsRefused endpoints lines deed ⊎ NoneBelow endpoints lines deed (suc n)
  by_this (Some code) is none = inl (record { line = n; code = code; refuses = is; least = none })
  by_this None is none = inr (λ line less. by_test line less (line == n) refl) where
    by_test : (line : ℕ) → line < suc n → (b : Bool) → (line == n) ≡ b → refusal_at endpoints lines deed line ≡ None
    by_test line less true test =
        let same : line ≡ n = (Decides-eqb line n).0 test in
        subst (λ (x : ℕ). refusal_at endpoints lines deed x ≡ None) (sym same) is
    by_test line less false test =
        let other : line ≢ n = λ same. (let t : (line == n) ≡ true = (Decides-eqb line n).1 same in absurd cc) in
        none line (omega (arith, less, other))

  by_rest : IsRefused endpoints lines deed ⊎ NoneBelow endpoints lines deed n → IsRefused endpoints lines deed ⊎ NoneBelow endpoints lines deed (suc n)
  by_rest (inl refused) = inl refused
  by_rest (inr none) = by_this (refusal_at endpoints lines deed n) refl none

-- there is no line behind the last
none_behind : (endpoints : Endpoints) (lines : Target) (deed : Deed) → NoneBelow endpoints lines deed (1 + length endpoints.list) → NoneRefuses endpoints lines deed
none_behind endpoints lines deed none line = by_endpoint (endpoint_at endpoints line) refl where
  by_endpoint : (found : Option Endpoint) → endpoint_at endpoints line ≡ found → option_and_then (λ (endpoint : Endpoint). refusal_on lines deed (line, endpoint)) found ≡ None
  by_endpoint None at = refl
  by_endpoint (Some endpoint) at =
      ap (option_and_then (λ (endpoint : Endpoint). refusal_on lines deed (line, endpoint))) (sym at) ∙ none line (place_of endpoints line endpoint at).1

pub refused_or_not : (endpoints : Endpoints) (lines : Target) (deed : Deed) → IsRefused endpoints lines deed ⊎ NoneRefuses endpoints lines deed
refused_or_not endpoints lines deed = by_all (refused_below endpoints lines deed (1 + length endpoints.list)) where
  by_all : IsRefused endpoints lines deed ⊎ NoneBelow endpoints lines deed (1 + length endpoints.list) → IsRefused endpoints lines deed ⊎ NoneRefuses endpoints lines deed
  by_all (inl refused) = inl refused
  by_all (inr none) = inr (none_behind endpoints lines deed none)

-- None refuses

none_of_all : (endpoints : Endpoints) (lines : Target) (deed : Deed) → NoneRefuses endpoints lines deed → refused_by endpoints lines deed ≡ None
unfolding refused_by
none_of_all endpoints lines deed none = none_refuses lines deed 1 endpoints.list (λ place. sym (line_at endpoints lines deed place) ∙ none (1 + place))

all_done : (setup : Setup) (endpoints : Endpoints) (lines : Target) (more : List Param) (deed : Deed) (moment : ℕ) → NoneRefuses endpoints lines deed
    → deed_done setup endpoints lines more deed moment ≡ done_whole setup endpoints lines more deed moment
all_done setup endpoints lines more deed moment none =
    ap (λ (x : Option ℕ). unless_refused x endpoints (done_whole setup endpoints lines more deed moment))
    (none_of_all endpoints lines deed none)

pub done_answer : (setup : Setup) (endpoints : Endpoints) (lines : Target) (more : List Param) (deed : Deed) (moment : ℕ) → NoneRefuses endpoints lines deed
    → (deed_done setup endpoints lines more deed moment).answer ≡ answer_with more deed (shown_of endpoints lines deed)
done_answer setup endpoints lines more deed moment none = ap (λ (x : Done). x.answer) (all_done setup endpoints lines more deed moment none)

apart_from_passing : (p : ℕ → Bool) (n line : ℕ) (list : List Endpoint) → p line ≡ false → All (λ (one : ℕ). line ≢ one) (passing_from p n list)
apart_from_passing p n line list fails k d within same =
    let passes = filter_passes p (map (λ (one : ℕ × Endpoint). one.0) (enumerate_from n list)) k d within in
    let both : true ≡ false = sym passes ∙ sym (ap p same) ∙ fails in
    absurd cc

deed_endpoint : (setup : Setup) (endpoints : Endpoints) (lines : Target) (deed : Deed) (moment line : ℕ)
    → endpoint_at (deed_on_all setup endpoints lines deed moment).value line
    ≡ option_map (λ (endpoint : Endpoint). if is_for lines line then (deed_on setup deed moment line endpoint).value else endpoint) (endpoint_at endpoints line)
deed_endpoint setup endpoints lines deed moment line = by_endpoint (endpoint_at endpoints line) refl where
  by_test : (endpoint : Endpoint) (b : Bool) → is_for lines line ≡ b → endpoint_at endpoints line ≡ Some endpoint
      → endpoint_at (deed_on_all setup endpoints lines deed moment).value line ≡ Some (if b then (deed_on setup deed moment line endpoint).value else endpoint)
  by_test endpoint true meant at =
      let place = place_of endpoints line endpoint at in
      among_from (is_for lines) 1 endpoints.list endpoints (deed_on setup deed moment) line place.0 place.1 meant
      ∙ ap (option_map (λ (s : Endpoint). (deed_on setup deed moment line s).value)) at
  by_test endpoint false other at =
      not_among (lines_meant endpoints lines) endpoints (deed_on setup deed moment) line (apart_from_passing (is_for lines) 1 line endpoints.list other) ∙ at

  by_endpoint : (found : Option Endpoint) → endpoint_at endpoints line ≡ found
      → endpoint_at (deed_on_all setup endpoints lines deed moment).value line
      ≡ option_map (λ (endpoint : Endpoint). if is_for lines line then (deed_on setup deed moment line endpoint).value else endpoint) found
  by_endpoint None at = none_stays (lines_meant endpoints lines) endpoints (deed_on setup deed moment) line at
  by_endpoint (Some endpoint) at = by_test endpoint (is_for lines line) refl at

pub done_endpoint : (setup : Setup) (endpoints : Endpoints) (lines : Target) (more : List Param) (deed : Deed) (moment line : ℕ) → NoneRefuses endpoints lines deed
    → endpoint_at (deed_done setup endpoints lines more deed moment).told.value line
    ≡ option_map (λ (endpoint : Endpoint). if is_for lines line then (deed_on setup deed moment line endpoint).value else endpoint) (endpoint_at endpoints line)
done_endpoint setup endpoints lines more deed moment line none =
    ap (λ (x : Done). endpoint_at x.told.value line) (all_done setup endpoints lines more deed moment none) ∙ deed_endpoint setup endpoints lines deed moment line

pub done_sent : (setup : Setup) (endpoints : Endpoints) (lines : Target) (more : List Param) (deed : Deed) (moment : ℕ) → NoneRefuses endpoints lines deed
    → (deed_done setup endpoints lines more deed moment).told.sent
    ≡ flat_map (λ (one : ℕ × Endpoint). (deed_on setup deed moment one.0 one.1).sent) (filter (λ (one : ℕ × Endpoint). is_for lines one.0) (numbered endpoints))
done_sent setup endpoints lines more deed moment none =
    ap (λ (x : Done). x.told.sent) (all_done setup endpoints lines more deed moment none)
    ∙ sent_from_each (is_for lines) 1 endpoints.list endpoints (deed_on setup deed moment) (all_there endpoints)

-- One line
