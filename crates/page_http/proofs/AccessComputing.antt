-- The definitions opened, so that worked examples compute.
use Rattle.std.specs.Prelude.{⊤}
use Rattle.mg_bytes.proofs.Computing.{on_examples as byte_examples}
use Rattle.page_http.specs.Access.{place_of}
use Rattle.page_http.specs.Naming.{names_from}
use Rattle.page_http.specs.Places.{free_from, room_from, idlest_from, place_for}
use Rattle.page_http.specs.Seating.{held_by}

unfoldable pub on_examples : ⊤
unfolding byte_examples place_of names_from free_from room_from idlest_from place_for held_by
on_examples = tt
