-- The definitions opened, so that worked examples compute.
use Rattle.std.specs.Prelude.{⊤}
use Rattle.mg_bytes.proofs.Computing.{on_examples as byte_examples}
use Rattle.impairment.specs.Spelling.{percent_of, span_of}
use Rattle.impairment.specs.Parts.{with_items, spoiling_of}
use Rattle.impairment.specs.Waiting.{place_in, put_in}
use Rattle.impairment.specs.Ways.{number_on, fates_on}

unfoldable pub on_examples : ⊤
unfolding byte_examples percent_of span_of with_items spoiling_of place_in put_in number_on fates_on
on_examples = tt
