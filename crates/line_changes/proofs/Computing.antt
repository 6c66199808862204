-- The definitions opened, so that worked examples compute.
use Rattle.std.specs.Prelude.{⊤}
use Rattle.connections.proofs.Computing.{on_examples as connection_examples}
use Rattle.packages.proofs.PackageComputing.{on_examples as package_examples}
use Rattle.events_and_signals.proofs.SignalComputing.{on_examples as signal_examples}
use Rattle.line_changes.specs.Seen.{seen_from}
use Rattle.line_changes.specs.Telling.{ends_text, media_text, mode_part, what_text, head_text, watching_line}
use Rattle.line_changes.specs.Watching.{first_asked, place_where}

unfoldable pub on_examples : ⊤
unfolding connection_examples package_examples signal_examples seen_from ends_text media_text mode_part what_text head_text watching_line first_asked place_where
on_examples = tt
