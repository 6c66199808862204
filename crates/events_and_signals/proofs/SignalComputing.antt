-- The definitions opened, so that worked examples compute.
use Rattle.std.specs.Prelude.{⊤}
use Rattle.packages.specs.Looking.{kind_of, time_of, refused_in}
use Rattle.events_and_signals.specs.Stopping.{without_time_outs, allowed_in, without}
use Rattle.events_and_signals.specs.Applying.{signals_refusal, after_start, after_entries, applied}
use Rattle.events_and_signals.specs.Due.{due_first}

unfoldable pub on_examples : ⊤
unfolding kind_of time_of refused_in without_time_outs allowed_in without signals_refusal after_start after_entries applied due_first
on_examples = tt
