-- The definitions opened, so that worked examples compute.
use Rattle.std.specs.Prelude.{⊤}
use Rattle.rgw_scripts.proofs.Computing.{on_examples as script_examples}
use Rattle.traces.specs.Telling.{told_datagram, told, is_mark}
use Rattle.traces.specs.Replaying.{move_in, next}
use Rattle.traces.specs.Running.{run_from}
use Rattle.traces.specs.Writing.{datagram_text, written, script_after}
use Rattle.traces.proofs.StartComputing.{on_examples as start_examples}

unfoldable pub on_examples : ⊤
unfolding script_examples start_examples told_datagram told is_mark move_in next run_from datagram_text written script_after
on_examples = tt
