use Rattle.std.proofs.Common.{◌≡◌}
use Rattle.packages.specs.Cuts.{entries}
use Rattle.packages.specs.Faults.{each}
use Rattle.event_syntax.specs.Embedding.{embedded_event}
use Rattle.packages.proofs.EachLemmas.{put_before}
use Rattle.event_syntax.proofs.embedded.each_event.Given as goal

abbrev pub invariant-loop-entry : goal.invariant-loop-entry
invariant-loop-entry l = put_before l.events (each embedded_event l.entry-iterator) ≡ each embedded_event (entries l.value)
