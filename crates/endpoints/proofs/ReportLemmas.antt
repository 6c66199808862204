-- Names of lines, as an audit reports them.
use Rattle.std.proofs.Common.{◌≡◌, ℕ, ◌≤◌, ◌+◌, ◌<◌, ◌^◌, true, List, [], ◌∷◌, ◌++◌, length, map, drop, refl, sym, ap, ◌∙◌, append-nil}
use Rattle.std.specs.List.{enumerate_from, list_all}
use Rattle.std.proofs.lemmas.List.{drop_all}
use Rattle.mgcp_text.specs.declared.message.Param.{Param}
use Rattle.mgcp_text.specs.Writing.{is_writable_param}
use Rattle.endpoint_names.specs.Table.{is_domain}
use Rattle.plain_machine.specs.declared.setup.Setup.{Setup}
use Rattle.plain_machine.specs.declared.endpoint.Endpoint.{Endpoint}
use Rattle.plain_machine.specs.Reporting.{name_of_line}
use Rattle.plain_machine.proofs.NameLemmas.{line_writable}

-- a list of names is whole at its end
pub names_end : {B : Type 0} (f : ℕ × Endpoint → B) (report : List B) (place : ℕ) (list : List Endpoint) → length list ≤ place
    → report ++ map f (enumerate_from (place + 1) (drop place list)) ≡ map f (enumerate_from 1 list) → report ≡ map f (enumerate_from 1 list)
names_end f report place list past whole =
    sym (append-nil report) ∙ ap (λ (rest : List Endpoint). report ++ map f (enumerate_from (place + 1) rest)) (sym (drop_all place list past)) ∙ whole

-- a name by itself can be written
pub name_is_fine : (setup : Setup) (line : ℕ) (params : List Param) → is_domain setup.names.domain ≡ true → line < 2 ^ 64 → params ≡ name_of_line setup line ∷ []
    → list_all is_writable_param params ≡ true
name_is_fine setup line params domain small is =
    let fine : is_writable_param (name_of_line setup line) ≡ true = line_writable setup line domain small in
    ap (list_all is_writable_param) is ∙ (rw fine refl)
