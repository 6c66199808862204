-- What a command with the name of one line asks for is for that line.
use Rattle.std.proofs.Common.{◌≡◌, ℕ, Bool, true, List, Option, Some, None, Result, Ok, Err, refl, sym, ap, subst, ◌∙◌}
use Rattle.std.specs.Option.{ok_or}
use Rattle.mgcp_text.specs.declared.confirmation.KValue.{KValue}
use Rattle.mgcp_text.specs.declared.message.Param.{Param}
use Rattle.endpoint_names.specs.declared.name.Pattern.{Pattern}
use Rattle.endpoint_names.specs.declared.name.Pattern.TheVariants as patterns
use Rattle.endpoint_names.specs.declared.name.NameFault.{NameFault}
use Rattle.endpoint_names.specs.declared.name.NameFault.TheVariants.{Unknown, TooComplicated}
use Rattle.endpoint_names.specs.declared.names.Names.{Names}
use Rattle.endpoint_names.specs.Name.{name_of}
use Rattle.command_forms.specs.declared.forms.Asks.{Asks}
use Rattle.command_forms.specs.declared.forms.AuditTarget.TheVariants as audits
use Rattle.command_forms.specs.declared.forms.Target.{Target}
use Rattle.command_forms.specs.declared.forms.Target.TheVariants.{One}
use Rattle.command_forms.specs.declared.refused.FaultyPart.TheVariants.{Verb, Name}
use Rattle.command_forms.specs.declared.refused.Refused.{Refused}
use Rattle.command_forms.specs.declared.verbs.Meant.{Meant}
use Rattle.command_forms.specs.declared.verbs.Purpose.{Purpose}
use Rattle.command_forms.specs.declared.verbs.Purpose.TheVariants.{ForReport, ForDeed}
use Rattle.command_forms.specs.declared.verbs.Task.TheVariants.{ReportOf, DeedOn}
use Rattle.command_forms.specs.declared.verbs.VerbRow.{VerbRow}
use Rattle.command_forms.specs.Codes.{target_in, target_meant}
use Rattle.command_forms.specs.Command.{Command}
use Rattle.command_forms.specs.Meaning.{named, task_of, meant}
use Rattle.command_forms.specs.Order.{asked, form_while, form_of}
use Rattle.mg_bytes.specs.Steps.{◌>>=◌}
use Rattle.command_forms.specs.Refusing.{placed}
use Rattle.command_forms.specs.Verbs.{row_of}
use Rattle.command_forms.proofs.FormLemmas.{name_first, asked_behind, same_target}
use Rattle.command_forms.proofs.RefusedLemmas.{coded_ok}
use Rattle.command_forms.proofs.RestartLemmas.{while_taken}
use Rattle.plain_machine.specs.declared.setup.Setup.{Setup}
use Rattle.plain_machine.specs.Answering.{line_meant, line_of_name}
use Rattle.machine_laws.specs.Apart.{is_single}

-- what is asked for is for this line, if the name is that of one
abbrev IsNamed : Result Pattern NameFault → Target → Type 0
IsNamed (Ok (patterns.One line)) target = target ≡ One line
IsNamed (Ok patterns.All) target = Unit {0}
IsNamed (Ok patterns.Any) target = Unit {0}
IsNamed (Err fault) target = ⊥

abbrev meant_by : Option VerbRow → Result Pattern NameFault → List Param → Result Meant Refused
meant_by found of params = do
  row ← placed Verb (ok_or found 504)
  pattern ← placed Name (named of)
  task ← placed Name (task_of row.purpose row.wildcard params pattern)
  Ok (record { row = row; task = task })

meant_named : (found : Option VerbRow) (of : Result Pattern NameFault) (params : List Param) (means : Meant) → meant_by found of params ≡ Ok means
    → IsNamed of (target_meant means.task)
meant_named None of params means e = absurd cc
meant_named (Some row) (Err Unknown) params means e = absurd cc
meant_named (Some row) (Err TooComplicated) params means e = absurd cc
meant_named (Some row) (Ok (patterns.One line)) params means e = by_purpose row.purpose refl where
  by_purpose : (purpose : Purpose) → row.purpose ≡ purpose → target_meant means.task ≡ One line
  by_purpose (ForReport reporting) is =
      let made : Meant = record { row = record row { purpose = ForReport reporting }; task = ReportOf reporting (audits.One line) } in
      let given : Ok made ≡ Ok means = (rw is at e) in
      let same : made ≡ means = cc in
      sym (ap (λ (m : Meant). target_meant m.task) same)
  by_purpose (ForDeed connecting) is =
      let made : Meant = record { row = record row { purpose = ForDeed connecting }; task = DeedOn connecting (One line) } in
      let given : Ok made ≡ Ok means = (rw is at e) in
      let same : made ≡ means = cc in
      sym (ap (λ (m : Meant). target_meant m.task) same)
meant_named (Some row) (Ok patterns.All) params means e = tt
meant_named (Some row) (Ok patterns.Any) params means e = tt

asks_named : (command : Command) (confirms : KValue) (names : Names) (asks : Asks) → form_of command confirms names ≡ Ok asks
    → IsNamed (name_of command.name names.domain names.lines) (target_in asks)
unfolding meant
asks_named command confirms names asks e = by_meant (meant command names) refl where
  by_meant : (said : Result Meant Refused) → meant command names ≡ said → IsNamed (name_of command.name names.domain names.lines) (target_in asks)
  by_meant (Ok found) is =
      let there = coded_ok (asked found command.params command.body confirms names.table) asks (sym (asked_behind command confirms names found is) ∙ e) in
      subst (IsNamed (name_of command.name names.domain names.lines)) (sym (same_target found command.params command.body confirms names.table asks there))
      (meant_named (row_of command.verb) (name_of command.name names.domain names.lines) command.params found is)
  by_meant (Err refused) is = let no : Err refused.code ≡ Ok asks = sym (name_first command confirms names refused is) ∙ e in absurd cc

single_one : (of : Result Pattern NameFault) (target : Target) (line : ℕ) → IsNamed of target → line_meant of ≡ Some line → target ≡ One line
single_one (Ok (patterns.One n)) target line is names = let same : n ≡ line = cc in is ∙ ap One same
single_one (Ok patterns.All) target line is names = absurd cc
single_one (Ok patterns.Any) target line is names = absurd cc
single_one (Err fault) target line is names = absurd is

single_none : (of : Result Pattern NameFault) (target : Target) → IsNamed of target → is_single of ≡ true → line_meant of ≡ None → ⊥
single_none (Ok (patterns.One n)) target is single names = cc
single_none (Ok patterns.All) target is single names = cc
single_none (Ok patterns.Any) target is single names = cc
single_none (Err fault) target is single names = is

pub for_the_line : (setup : Setup) (serving : Bool) (command : Command) (confirms : KValue) (asks : Asks) (line : ℕ)
    → form_while serving command confirms setup.names ≡ Ok asks → line_of_name setup command.name ≡ Some line → target_in asks ≡ One line
for_the_line setup serving command confirms asks line e names =
    single_one (name_of command.name setup.names.domain setup.names.lines) (target_in asks) line
    (asks_named command confirms setup.names asks (while_taken serving command confirms setup.names asks e)) names

pub for_no_line : (setup : Setup) (serving : Bool) (command : Command) (confirms : KValue) (asks : Asks)
    → form_while serving command confirms setup.names ≡ Ok asks → is_single (name_of command.name setup.names.domain setup.names.lines) ≡ true
    → line_of_name setup command.name ≡ None → ⊥
for_no_line setup serving command confirms asks e single names =
    single_none (name_of command.name setup.names.domain setup.names.lines) (target_in asks)
    (asks_named command confirms setup.names asks (while_taken serving command confirms setup.names asks e)) single names
