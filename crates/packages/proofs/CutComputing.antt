-- The definitions opened, so that worked examples compute.
use Rattle.std.specs.Prelude.{⊤}
use Rattle.mg_bytes.proofs.Computing.{on_examples as bytes_examples}
use Rattle.packages.specs.Faults.{each}
use Rattle.packages.specs.Cuts.{pieces, items, entries, form_of}
use Rattle.packages.specs.Spelling.{is_name, are_parameters}

unfoldable pub on_examples : ⊤
unfolding bytes_examples each pieces items entries form_of is_name are_parameters
on_examples = tt
