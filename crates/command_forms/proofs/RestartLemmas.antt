-- What a gateway that doesn't serve yet takes, and what it refuses.
use Rattle.std.proofs.Common.{rules, ◌≡◌, ℕ, Bool, true, false, ◌||◌, ◌∷◌, ◌++◌, refl, sym, ap, ◌∙◌, ◌⊎◌, inl, inr, arith, Some, Ok, Err}
use Rattle.std.specs.Prelude.{Result}
use Rattle.std.proofs.lemmas.Bool.Decides.{nat_tests}
use Rattle.mg_bytes.specs.Checks.{unless, checked}
use Rattle.mgcp_text.specs.declared.confirmation.KValue.{KValue}
use Rattle.mgcp_text.specs.declared.message.Verb.{Verb}
use Rattle.endpoint_names.specs.declared.names.Names.{Names}
use Rattle.command_forms.specs.declared.forms.Asks.{Asks}
use Rattle.command_forms.specs.declared.forms.Asks.TheVariants.{Does}
use Rattle.command_forms.specs.declared.forms.Deed.{Deed}
use Rattle.command_forms.specs.declared.forms.Target.{Target}
use Rattle.command_forms.specs.declared.refused.FaultyPart.TheVariants as places
use Rattle.command_forms.specs.declared.refused.Refused.{Refused}
use Rattle.command_forms.specs.declared.verbs.Connecting.{Connecting}
use Rattle.command_forms.specs.declared.verbs.Meant.{Meant}
use Rattle.command_forms.specs.declared.verbs.Purpose.{Purpose}
use Rattle.command_forms.specs.declared.verbs.Purpose.TheVariants.{ForReport, ForDeed}
use Rattle.command_forms.specs.declared.verbs.VerbRow.{VerbRow}
use Rattle.command_forms.specs.Verbs.{row_of}
use Rattle.command_forms.specs.Command.{Command}
use Rattle.command_forms.specs.Refusing.{refusal, coded}
use Rattle.command_forms.specs.Meaning.{meant}
use Rattle.command_forms.specs.Order.{is_audit, asked, judged_while, form_while, form_of}
use Rattle.command_forms.specs.Codes.{name_codes, param_codes, has_code, Audits}
use Rattle.command_forms.proofs.CodeLemmas.{IsFormCode, form_code}
use Rattle.command_forms.proofs.RefusedLemmas.{coded_ok}
use Rattle.command_forms.proofs.FormLemmas.{name_first, asked_behind, row_is, deed_of_row}

pub while_named : (serves : Bool) (command : Command) (confirms : KValue) (names : Names) (refused : Refused) → meant command names ≡ Err refused
    → form_while serves command confirms names ≡ Err refused.code
unfolding form_while judged_while
while_named serves command confirms names refused e = rw e refl

-- behind the name the row's purpose decides
while_behind : (serves : Bool) (command : Command) (confirms : KValue) (names : Names) (found : Meant) → meant command names ≡ Ok found
    → form_while serves command confirms names
    ≡ coded (checked (unless (serves || is_audit found.row.purpose) (refusal places.Verb 405)) (asked found command.params command.body confirms names.table))
unfolding form_while judged_while
while_behind serves command confirms names found e = rw e refl

-- an audit's row reports, and a row that reports is an audit's
row_reports : (verb : Verb) (row : VerbRow) → row_of verb ≡ Some row → Audits verb → is_audit row.purpose ≡ true
row_reports verb row e audits = search rules

row_does : (verb : Verb) (row : VerbRow) → row_of verb ≡ Some row → (Audits verb → ⊥) → is_audit row.purpose ≡ false
row_does verb row e other = search rules

passes : {A : Type 0} (serves audits : Bool) (refused : Refused) (next : Result A Refused) → audits ≡ true
    → checked (unless (serves || audits) refused) next ≡ next
passes true audits refused next is = refl
passes false audits refused next is = rw is refl

pub while_audit : (serves : Bool) (command : Command) (confirms : KValue) (names : Names) → Audits command.verb
    → form_while serves command confirms names ≡ form_of command confirms names
while_audit serves command confirms names audits = by_meant (meant command names) refl where
  by_meant : (said : Result Meant Refused) → meant command names ≡ said → form_while serves command confirms names ≡ form_of command confirms names
  by_meant (Ok found) is =
      while_behind serves command confirms names found is
      ∙ ap coded (passes serves (is_audit found.row.purpose) (refusal places.Verb 405) (asked found command.params command.body confirms names.table)
      (row_reports command.verb found.row (row_is command names found is) audits))
      ∙ sym (asked_behind command confirms names found is)
  by_meant (Err refused) is = while_named serves command confirms names refused is ∙ sym (name_first command confirms names refused is)

stops : {A : Type 0} (audits : Bool) (refused : Refused) (next : Result A Refused) → audits ≡ false → checked (unless (false || audits) refused) next ≡ Err refused
stops audits refused next is = rw is refl

pub while_deed : (command : Command) (confirms : KValue) (names : Names) (found : Meant) → meant command names ≡ Ok found → (Audits command.verb → ⊥)
    → form_while false command confirms names ≡ Err 405
while_deed command confirms names found is other =
    while_behind false command confirms names found is
    ∙ ap coded (stops (is_audit found.row.purpose) (refusal places.Verb 405) (asked found command.params command.body confirms names.table)
    (row_does command.verb found.row (row_is command names found is) other))

-- behind the check there is the next, or this refusal
taken_behind : {A : Type 0} (test : Bool) (refused : Refused) (next : Result A Refused) (value : A)
    → coded (checked (unless test refused) next) ≡ Ok value → (test ≡ true) × (coded next ≡ Ok value)
taken_behind true refused next value e = (refl, e)
taken_behind false refused next value e = absurd cc

refused_behind : {A : Type 0} (test : Bool) (refused : Refused) (next : Result A Refused) (code : ℕ)
    → coded (checked (unless test refused) next) ≡ Err code → (coded next ≡ Err code) ⊎ (code ≡ refused.code)
refused_behind true refused next code e = inl e
refused_behind false refused next code e = let same : code ≡ refused.code = cc in inr same

pub while_taken : (serves : Bool) (command : Command) (confirms : KValue) (names : Names) (asks : Asks) → form_while serves command confirms names ≡ Ok asks
    → form_of command confirms names ≡ Ok asks
while_taken serves command confirms names asks e = by_meant (meant command names) refl where
  by_meant : (said : Result Meant Refused) → meant command names ≡ said → form_of command confirms names ≡ Ok asks
  by_meant (Ok found) is =
      asked_behind command confirms names found is
      ∙ (taken_behind (serves || is_audit found.row.purpose) (refusal places.Verb 405) (asked found command.params command.body confirms names.table) asks
      (sym (while_behind serves command confirms names found is) ∙ e)).1
  by_meant (Err refused) is = let no : Err refused.code ≡ Ok asks = sym (while_named serves command confirms names refused is) ∙ e in absurd cc

pub while_code : (serves : Bool) (command : Command) (confirms : KValue) (names : Names) (code : ℕ) → form_while serves command confirms names ≡ Err code
    → IsFormCode code ⊎ (code ≡ 405)
while_code serves command confirms names code e = by_meant (meant command names) refl where
  by_form : (found : Meant) → meant command names ≡ Ok found
      → (coded (asked found command.params command.body confirms names.table) ≡ Err code) ⊎ (code ≡ 405) → IsFormCode code ⊎ (code ≡ 405)
  by_form found is (inl behind) = inl (form_code command confirms names code (asked_behind command confirms names found is ∙ behind))
  by_form found is (inr restarting) = inr restarting

  by_meant : (said : Result Meant Refused) → meant command names ≡ said → IsFormCode code ⊎ (code ≡ 405)
  by_meant (Ok found) is =
      by_form found is
      (refused_behind (serves || is_audit found.row.purpose) (refusal places.Verb 405) (asked found command.params command.body confirms names.table) code
      (sym (while_behind serves command confirms names found is) ∙ e))
  by_meant (Err refused) is =
      inl (form_code command confirms names code
      (name_first command confirms names refused is ∙ sym (while_named serves command confirms names refused is) ∙ e))

-- a deed is of a row that does something
pub while_none : (command : Command) (confirms : KValue) (names : Names) (target : Target) (deed : Deed)
    → form_while false command confirms names ≡ Ok (Does target deed) → ⊥
while_none command confirms names target deed e = by_meant (meant command names) refl where
  no_audit : (purpose : Purpose) (connecting : Connecting) → purpose ≡ ForDeed connecting → is_audit purpose ≡ true → ⊥
  no_audit (ForReport reporting) connecting is audits = absurd cc
  no_audit (ForDeed other) connecting is audits = absurd cc

  by_meant : (said : Result Meant Refused) → meant command names ≡ said → ⊥
  by_meant (Ok found) is =
      let t = taken_behind (is_audit found.row.purpose) (refusal places.Verb 405) (asked found command.params command.body confirms names.table) (Does target deed)
      (sym (while_behind false command confirms names found is) ∙ e) in
      no_audit found.row.purpose _
      (deed_of_row command names found confirms target deed is
      (coded_ok (asked found command.params command.body confirms names.table) (Does target deed) (t.1))) (t.0)
  by_meant (Err refused) is =
      let no : Err refused.code ≡ Ok (Does target deed) = sym (while_named false command confirms names refused is) ∙ e in
      absurd cc

code_known : (code : ℕ) → IsFormCode code ⊎ (code ≡ 405) → has_code (405 ∷ name_codes ++ param_codes) code ≡ true
code_known code known = grind (arith, nat_tests)

pub while_has_code : (serves : Bool) (command : Command) (confirms : KValue) (names : Names) (code : ℕ)
    → form_while serves command confirms names ≡ Err code → has_code (405 ∷ name_codes ++ param_codes) code ≡ true
while_has_code serves command confirms names code e = code_known code (while_code serves command confirms names code e)

not_known : IsFormCode 405 → ⊥
not_known (inl named) = absurd cc
not_known (inr said) = absurd cc

pub never_restarting : (command : Command) (confirms : KValue) (names : Names) → form_of command confirms names ≡ Err 405 → ⊥
never_restarting command confirms names e = not_known (form_code command confirms names 405 e)
