-- Names put into a table one after the other.
use Rattle.std.proofs.Common.{◌≡◌, ℕ, suc, ◌+◌, ◌<◌, List, [], ◌∷◌, ◌++◌, length, get_or, drop, refl, sym, ap, ◌∙◌, add-one, drop-cons, map, arith}
use Rattle.std.specs.Prelude.{None}
use Rattle.endpoint_names.specs.declared.table.Host.{Host}
use Rattle.endpoint_names.specs.Table.{fault_of}
use Rattle.plain_machine.specs.declared.config.NamedRoute.{NamedRoute}
use Rattle.plain_machine.specs.Setup.{table_from}
use Rattle.std.specs.List.{range_with_len}
use Rattle.std.proofs.lemmas.List.FromFn.{map-range_with_len_more}
use Rattle.plain_machine.specs.declared.setup.Setup.{Setup}
use Rattle.plain_machine.specs.declared.endpoint.Endpoint.{Endpoint}
use Rattle.plain_machine.specs.Machine.{opening_endpoint}

pub name_added : (hosts more : List Host) (name : NamedRoute) (names : List NamedRoute) → fault_of hosts name.name ≡ None
    → more ≡ hosts ++ (record { name = name.name; route = name.route }) ∷ [] → table_from more names ≡ table_from hosts (name ∷ names)
unfolding table_from
name_added hosts more name names free is = rw (is, free) refl

-- the name at a place, and those after it
pub name_front : (names : List NamedRoute) (i : ℕ) (name : NamedRoute) → i < length names → name ≡ get_or names i name → drop i names ≡ name ∷ drop (i + 1) names
name_front names i name inside is =
    drop-cons names i name inside ∙ ap (λ (x : NamedRoute). x ∷ drop (suc i) names) (sym is) ∙ ap (λ (n : ℕ). name ∷ drop n names) (sym (add-one i))

-- one endpoint more at the opening
pub list_more : (setup : Setup) (place : ℕ) (list more : List Endpoint) (endpoint : Endpoint) → list ≡ map (opening_endpoint setup) (range_with_len 1 place)
    → endpoint ≡ opening_endpoint setup (place + 1) → more ≡ list ++ endpoint ∷ [] → more ≡ map (opening_endpoint setup) (range_with_len 1 (place + 1))
list_more setup place list more endpoint all one is =
    is ∙ ap (λ (front : List Endpoint). front ++ endpoint ∷ []) all ∙ ap (λ (last : Endpoint). map (opening_endpoint setup) (range_with_len 1 place) ++ last ∷ []) one
    ∙ sym (map-range_with_len_more (opening_endpoint setup) 1 place (place + 1) (let same : 1 + place ≡ place + 1 = omega arith in same))
