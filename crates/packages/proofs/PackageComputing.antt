-- The definitions opened, so that worked examples compute.
use Rattle.std.specs.Prelude.{⊤}
use Rattle.mg_bytes.proofs.Computing.{on_examples as bytes_examples}
use Rattle.packages.specs.Looking.{in_package, event_named, signal_named, event_in, signal_in, event_of, signal_of, kind_of, time_of, package_of, signal_name, event_name, is_persistent, completion_of, refused_in}

unfoldable pub on_examples : ⊤
unfolding bytes_examples in_package event_named signal_named event_in signal_in event_of signal_of kind_of time_of package_of signal_name event_name is_persistent completion_of refused_in
on_examples = tt
