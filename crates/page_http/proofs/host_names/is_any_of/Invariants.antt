use Rattle.std.proofs.Common.{◌≡◌, drop}
use Rattle.std.specs.List.{list_any}
use Rattle.mg_bytes.specs.Case.{same_but_case}
use Rattle.page_http.proofs.host_names.is_any_of.Given as goal

abbrev pub invariant-loop-known : goal.invariant-loop-known
invariant-loop-known l =
    list_any (λ known. same_but_case known l.name) (drop l.known-index l.names) ≡ list_any (λ known. same_but_case known l.name) l.names
