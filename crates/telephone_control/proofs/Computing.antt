-- The definitions opened, so that worked examples compute.
use Rattle.std.specs.Prelude.{⊤}
use Rattle.std.specs.Net.Addr.{ipv4_bits}
use Rattle.rgw_scripts.proofs.Computing.{on_examples as script_examples}
use Rattle.line_changes.specs.Seen.{seen_from}
use Rattle.line_changes.specs.Telling.{head_text, what_text}
use Rattle.telephone_control.specs.Asking.{watch_in, line_request}
use Rattle.telephone_control.specs.Viewing.{signals_viewed, call_of, connections_viewed, lines_viewed}
use Rattle.telephone_control.specs.Watching.{TellsLines, lines_seen}

unfoldable pub on_examples : ⊤
unfolding script_examples ipv4_bits seen_from head_text what_text watch_in line_request signals_viewed call_of connections_viewed lines_viewed TellsLines lines_seen
on_examples = tt
