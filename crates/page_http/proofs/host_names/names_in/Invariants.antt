use Rattle.std.proofs.Common.{◌≡◌, []}
use Rattle.mg_bytes.specs.Items.{items_of}
use Rattle.page_http.specs.Naming.{names_from}
use Rattle.page_http.proofs.host_names.names_in.Given as goal

abbrev pub invariant-loop-item : goal.invariant-loop-item
invariant-loop-item l = names_from l.names.items l.item-iterator ≡ names_from [] (items_of l.text)
