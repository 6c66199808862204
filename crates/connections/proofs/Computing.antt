-- The definitions opened, so that worked examples compute.
use Rattle.std.specs.Prelude.{⊤}
use Rattle.sdp_subset.proofs.Computing.{on_examples as sdp_examples}
use Rattle.connections.specs.Options.{with_names, names_of, bounds_of, is_option, name_of, comes_again, value_in, value_of, options_in, options_of, options_text}
use Rattle.connections.specs.Numbers.{number_text}
use Rattle.connections.specs.Connection.{begun, renewed}
use Rattle.connections.specs.Places.{place_from}
use Rattle.connections.specs.Standing.{created, place_of, modified, deleted, audited}
use Rattle.connections.specs.Life.{after, numbers_in}

unfoldable pub on_examples : ⊤
unfolding sdp_examples with_names names_of bounds_of is_option name_of comes_again value_in value_of options_in options_of options_text number_text begun renewed place_from created place_of modified deleted audited after numbers_in
on_examples = tt
