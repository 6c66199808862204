-- A report has what is asked for, in the order of F, and each code once.
use Rattle.std.proofs.Common.{◌≡◌, ℕ, ◌<◌, ◌≤◌, Bool, true, false, ◌&&◌, if◌then◌else◌, List, [], ◌∷◌, ◌++◌, length, codes, Option, Some, None, refl, sym, ap, ◌∙◌, append_assoc, append-nil, arith, ⊎_elim}
use Rattle.std.specs.Prelude.{not, nat_le, is_some, find, Ok, Err}
use Rattle.std.specs.Str.{bytes_eq, str_to_ascii_lowercase}
use Rattle.std.proofs.lemmas.Bool.{cases_Bool}
use Rattle.std.proofs.lemmas.Bool.Decides.{nat_tests}
use Rattle.std.proofs.lemmas.Slice.Eq.{bytes_eq-Decides}
use Rattle.mg_bytes.specs.Case.{same_but_case}
use Rattle.mg_bytes.proofs.DigitLemmas.{both_true}
use Rattle.mgcp_text.specs.declared.message.Param.{Param}
use Rattle.mgcp_text.specs.Answer.{AnswerContent, response_of}
use Rattle.mgcp_text.specs.Message.{has_code, param_at}
use Rattle.mg_bytes.specs.Lines.{crlf}
use Rattle.mgcp_text.specs.Writing.{body_text, written}
use Rattle.sdp_subset.specs.declared.session.Session.{Session}
use Rattle.sdp_subset.specs.Writing.{session_lines, session_text}
use Rattle.connections.specs.declared.answer.Audited.{Audited}
use Rattle.packages.proofs.JoinLemmas.{false_of_not}
use Rattle.audits.specs.ConnectionReport.{remote_text, descriptions_text}
use Rattle.audits.specs.Fitting.{fitting}
use Rattle.audits.specs.Laws.{are_distinct, behind_a_line}
use Rattle.audits.specs.Picking.{asks_for, listed, with_item, with_items, picked}
use Rattle.transmission.specs.Texts.{largest_datagram}

-- Codes that are the same

same_lower : (a b : List ℕ) → same_but_case a b ≡ true → str_to_ascii_lowercase a ≡ str_to_ascii_lowercase b
same_lower a b same = (bytes_eq-Decides (str_to_ascii_lowercase a) (str_to_ascii_lowercase b)).0 same

lower_same : (a b : List ℕ) → str_to_ascii_lowercase a ≡ str_to_ascii_lowercase b → same_but_case a b ≡ true
lower_same a b same = (bytes_eq-Decides (str_to_ascii_lowercase a) (str_to_ascii_lowercase b)).1 same

-- what is compared with one is compared with the other
same_left : (a b c : List ℕ) → same_but_case a b ≡ true → same_but_case a c ≡ same_but_case b c
same_left a b c same = ap (λ lower. bytes_eq lower (str_to_ascii_lowercase c)) (same_lower a b same)

other_turned : (a b : List ℕ) → same_but_case a b ≡ false → same_but_case b a ≡ false
other_turned a b other = ⊎_elim
    (λ (h : same_but_case b a ≡ true). absurd (let same : same_but_case a b ≡ true = lower_same a b (sym (same_lower b a h)) in cc))
    (λ (h : same_but_case b a ≡ false). h)
    (cases_Bool (same_but_case b a))

at_same : (a b : List ℕ) (params : List Param) → same_but_case a b ≡ true → param_at a params ≡ param_at b params
at_same a b params same = ap (λ lower. find (λ (param : Param). bytes_eq (str_to_ascii_lowercase param.code) lower) params) (same_lower a b same)

-- Looking up

found_has : (code : List ℕ) (params : List Param) (found : Param) → param_at code params ≡ Some found → has_code code found ≡ true
found_has code [] found e = absurd cc
found_has code (param ∷ params) found e = ⊎_elim
    (λ (h : has_code code param ≡ true). let here : Some param ≡ Some found = (rw h at e) in let same : param ≡ found = cc in rw (← same) h)
    (λ (h : has_code code param ≡ false). let there : param_at code params ≡ Some found = (rw h at e) in found_has code params found there)
    (cases_Bool (has_code code param))

at_some : (code : List ℕ) (params more : List Param) (found : Param) → param_at code params ≡ Some found → param_at code (params ++ more) ≡ Some found
at_some code [] more found e = absurd cc
at_some code (param ∷ params) more found e = ⊎_elim
    (λ (h : has_code code param ≡ true). let here : Some param ≡ Some found = (rw h at e) in rw h here)
    (λ (h : has_code code param ≡ false). let there : param_at code params ≡ Some found = (rw h at e) in rw h (at_some code params more found there))
    (cases_Bool (has_code code param))

at_none : (code : List ℕ) (params more : List Param) → param_at code params ≡ None → param_at code (params ++ more) ≡ param_at code more
at_none code [] more e = refl
at_none code (param ∷ params) more e = ⊎_elim
    (λ (h : has_code code param ≡ true). absurd (let here : Some param ≡ None = (rw h at e) in cc))
    (λ (h : has_code code param ≡ false). let there : param_at code params ≡ None = (rw h at e) in rw h (at_none code params more there))
    (cases_Bool (has_code code param))

no_more : (code : List ℕ) (params more : List Param) → param_at code more ≡ None → param_at code (params ++ more) ≡ param_at code params
no_more code params more none = by_found (param_at code params) refl where
  by_found : (found : Option Param) → param_at code params ≡ found → param_at code (params ++ more) ≡ found
  by_found None is = at_none code params more is ∙ none
  by_found (Some found) is = at_some code params more found is

none_from : (found : Option Param) → is_some found ≡ false → found ≡ None
none_from None none = refl
none_from (Some found) none = absurd cc

-- One more item

-- what a report has already, or else what is known where it is asked for
abbrev told : Option Param → Bool → Option Param → Option Param
told (Some param) asks known = Some param
told None asks known = if asks then known else None

listed_at : (code : List ℕ) (known : List Param) → param_at code (listed (param_at code known)) ≡ param_at code known
listed_at code known = by_found (param_at code known) refl where
  by_found : (found : Option Param) → param_at code known ≡ found → param_at code (listed found) ≡ found
  by_found None is = refl
  by_found (Some found) is = rw (found_has code known found is) refl

item_same : (known report : List Param) (item code : List ℕ) → same_but_case code item ≡ true
    → param_at code (with_item known report item) ≡ told (param_at code report) true (param_at code known)
item_same known report item code same =
    ap (λ (found : Option Param). param_at code (if is_some found then report else report ++ listed (param_at item known))) (sym (at_same code item report same))
    ∙ ap (λ (found : Option Param). param_at code (if is_some (param_at code report) then report else report ++ listed found)) (sym (at_same code item known same))
    ∙ by_report (param_at code report) refl where
      by_report : (found : Option Param) → param_at code report ≡ found
          → param_at code (if is_some found then report else report ++ listed (param_at code known)) ≡ told found true (param_at code known)
      by_report (Some param) is = is
      by_report None is = at_none code report (listed (param_at code known)) is ∙ listed_at code known

listed_other : (known : List Param) (item code : List ℕ) → same_but_case code item ≡ false → param_at code (listed (param_at item known)) ≡ None
listed_other known item code other = by_found (param_at item known) refl where
  by_found : (found : Option Param) → param_at item known ≡ found → param_at code (listed found) ≡ None
  by_found None is = refl
  by_found (Some param) is =
      let not_it : has_code code param ≡ false = same_left param.code item code (found_has item known param is) ∙ other_turned code item other in
      rw not_it refl

item_other : (known report : List Param) (item code : List ℕ) → same_but_case code item ≡ false
    → param_at code (with_item known report item) ≡ param_at code report
item_other known report item code other = ⊎_elim
    (λ (h : is_some (param_at item report) ≡ true). rw h refl)
    (λ (h : is_some (param_at item report) ≡ false). rw h (no_more code report (listed (param_at item known)) (listed_other known item code other)))
    (cases_Bool (is_some (param_at item report)))

-- Under each code

told_unasked : (found known : Option Param) → found ≡ told found false known
told_unasked None known = refl
told_unasked (Some param) known = refl

told_asked : (found known : Option Param) (asks : Bool) → told (told found true known) asks known ≡ told found true known
told_asked (Some param) known asks = refl
told_asked None (Some param) asks = refl
told_asked None None true = refl
told_asked None None false = refl

items_at : (known report : List Param) (items : List (List ℕ)) (code : List ℕ)
    → param_at code (with_items known report items) ≡ told (param_at code report) (asks_for code items) (param_at code known)
unfolding with_items
items_at known report [] code = told_unasked (param_at code report) (param_at code known)
items_at known report (item ∷ items) code =
    let later : param_at code (with_items known (with_item known report item) items)
    ≡ told (param_at code (with_item known report item)) (asks_for code items) (param_at code known) =
    items_at known (with_item known report item) items code in
    later ∙ ⊎_elim
    (λ (h : same_but_case code item ≡ true).
    rw h (ap (λ (found : Option Param). told found (asks_for code items) (param_at code known)) (item_same known report item code h)
    ∙ told_asked (param_at code report) (param_at code known) (asks_for code items)))
    (λ (h : same_but_case code item ≡ false).
    rw h (ap (λ (found : Option Param). told found (asks_for code items) (param_at code known)) (item_other known report item code h)))
    (cases_Bool (same_but_case code item))

pub picked_at : (known : List Param) (items : List (List ℕ)) (code : List ℕ)
    → param_at code (picked known items) ≡ (if asks_for code items then param_at code known else None)
picked_at known items code = items_at known [] items code

-- Each once

push_distinct : (report : List Param) (param : Param) → are_distinct report ≡ true → param_at param.code report ≡ None
    → are_distinct (report ++ param ∷ []) ≡ true
push_distinct [] param distinct none = refl
push_distinct (first ∷ report) param distinct none =
    let both : (not (is_some (param_at first.code report)) ≡ true) × (are_distinct report ≡ true) = both_true _ _ distinct in
    ⊎_elim
    (λ (h : has_code param.code first ≡ true). absurd (let here : Some first ≡ None = (rw h at none) in cc))
    (λ (h : has_code param.code first ≡ false).
    let there : param_at param.code report ≡ None = (rw h at none) in
    let other : has_code first.code param ≡ false = other_turned first.code param.code h in
    let absent : param_at first.code report ≡ None = none_from (param_at first.code report) (false_of_not _ both.0) in
    let alone : param_at first.code (param ∷ []) ≡ None = rw other refl in
    rw (at_none first.code report (param ∷ []) absent ∙ alone) (push_distinct report param both.1 there))
    (cases_Bool (has_code param.code first))

listed_distinct : (known report : List Param) (item : List ℕ) → are_distinct report ≡ true → param_at item report ≡ None
    → are_distinct (report ++ listed (param_at item known)) ≡ true
listed_distinct known report item distinct none = by_found (param_at item known) refl where
  by_found : (found : Option Param) → param_at item known ≡ found → are_distinct (report ++ listed found) ≡ true
  by_found None is = rw append-nil distinct
  by_found (Some param) is =
      push_distinct report param distinct (at_same param.code item report (found_has item known param is) ∙ none)

item_distinct : (known report : List Param) (item : List ℕ) → are_distinct report ≡ true → are_distinct (with_item known report item) ≡ true
item_distinct known report item distinct = ⊎_elim
    (λ (h : is_some (param_at item report) ≡ true). rw h distinct)
    (λ (h : is_some (param_at item report) ≡ false). rw h (listed_distinct known report item distinct (none_from (param_at item report) h)))
    (cases_Bool (is_some (param_at item report)))

items_distinct : (known report : List Param) (items : List (List ℕ)) → are_distinct report ≡ true → are_distinct (with_items known report items) ≡ true
unfolding with_items
items_distinct known report [] distinct = distinct
items_distinct known report (item ∷ items) distinct =
    items_distinct known (with_item known report item) items (item_distinct known report item distinct)

pub picked_distinct : (known : List Param) (items : List (List ℕ)) → are_distinct (picked known items) ≡ true
picked_distinct known items = items_distinct known [] items refl

-- In the order of F

items_append : (known report : List Param) (items more : List (List ℕ))
    → with_items known report (items ++ more) ≡ with_items known (with_items known report items) more
unfolding with_items
items_append known report [] more = refl
items_append known report (item ∷ items) more = items_append known (with_item known report item) items more

abbrev Begins : List Param → List Param → Type 0
Begins front whole = (rest : List Param) × (whole ≡ front ++ rest)

begins_itself : (front : List Param) → Begins front front
begins_itself front = ([], sym (append-nil front))

item_begins : (known report : List Param) (item : List ℕ) → Begins report (with_item known report item)
item_begins known report item = ⊎_elim
    (λ (h : is_some (param_at item report) ≡ true). rw h (begins_itself report))
    (λ (h : is_some (param_at item report) ≡ false). rw h (listed (param_at item known), refl))
    (cases_Bool (is_some (param_at item report)))

items_begin : (known report : List Param) (items : List (List ℕ)) → Begins report (with_items known report items)
unfolding with_items
items_begin known report [] = begins_itself report
items_begin known report (item ∷ items) =
    let one = item_begins known report item in
    let more = items_begin known (with_item known report item) items in
    (one.0 ++ more.0, more.1 ∙ ap (λ front. front ++ more.0) one.1 ∙ append_assoc report one.0 more.0)

pub picked_begins : (known : List Param) (items more : List (List ℕ)) → (rest : List Param) × (picked known (items ++ more) ≡ picked known items ++ rest)
picked_begins known items more =
    let all = items_begin known (picked known items) more in
    (all.0, items_append known [] items more ∙ all.1)

-- Whether an answer fits

pub fits : (id : ℕ) (wanted : AnswerContent) → length (written (response_of id wanted)) ≤ largest_datagram → fitting id wanted ≡ Ok wanted
unfolding fitting
fits id wanted short =
    let is : nat_le (length (written (response_of id wanted))) largest_datagram ≡ true = grind (arith, nat_tests) in
    rw is refl

pub too_long : (id : ℕ) (wanted : AnswerContent) → largest_datagram < length (written (response_of id wanted)) → fitting id wanted ≡ Err 533
unfolding fitting
too_long id wanted long =
    let is : nat_le (length (written (response_of id wanted))) largest_datagram ≡ false = grind (arith, nat_tests) in
    rw is refl

-- The descriptions

texts_behind : (lc rc : Bool) (text remote : List ℕ) → 0 < length text → 0 < length remote
    → body_text ((if lc then text else []) ++ ((if lc && rc then crlf else []) ++ (if rc then remote else [])))
    ≡ behind_a_line lc text ++ behind_a_line rc remote
texts_behind lc rc [] remote some has = absurd (omega arith)
texts_behind lc rc (b ∷ bs) [] some has = absurd (omega arith)
texts_behind true true (b ∷ bs) (c ∷ cs) some has = refl
texts_behind true false (b ∷ bs) (c ∷ cs) some has = refl
texts_behind false true (b ∷ bs) (c ∷ cs) some has = refl
texts_behind false false (b ∷ bs) (c ∷ cs) some has = refl

description_some : (session : Session) → 0 < length (session_text session)
unfolding session_text session_lines
description_some session = omega arith

remote_some : (remote : Option Session) → 0 < length (remote_text remote)
remote_some None = omega arith
remote_some (Some session) = description_some session

pub descriptions_behind : (audited : Audited) (items : List (List ℕ)) → body_text (descriptions_text audited items)
    ≡ behind_a_line (asks_for (codes "LC") items) (session_text audited.description)
    ++ behind_a_line (asks_for (codes "RC") items) (remote_text audited.connection.remote)
unfolding descriptions_text
descriptions_behind audited items =
    texts_behind (asks_for (codes "LC") items) (asks_for (codes "RC") items) (session_text audited.description)
    (remote_text audited.connection.remote) (description_some audited.description) (remote_some audited.connection.remote)
