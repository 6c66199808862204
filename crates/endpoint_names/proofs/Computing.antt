-- The definitions opened, so that worked examples compute.
use Rattle.std.specs.Prelude.{⊤}
use Rattle.std.specs.Fmt.{digits}
use Rattle.mg_bytes.proofs.Computing.{on_examples as bytes_examples}
use Rattle.endpoint_names.specs.Name.{line_named, names_all, names_any, has_wildcard, name_of, name_text}
use Rattle.endpoint_names.specs.Table.{route_to}
use Rattle.endpoint_names.specs.Entity.{place_of, agent_of, entity_of}

unfoldable pub on_examples : ⊤
unfolding bytes_examples digits line_named names_all names_any has_wildcard name_of name_text route_to place_of agent_of entity_of
on_examples = tt
