-- The definitions of R opened, so that its worked examples compute.
use Rattle.std.specs.Prelude.{⊤}
use Rattle.event_syntax.proofs.Computing.{on_examples as event_examples}
use Rattle.event_syntax.specs.RequestSpelling.{is_part, is_called, is_action, is_requested, are_requested_within, are_requested}
use Rattle.event_syntax.specs.Actions.{word_of, said_of, rule_of}
use Rattle.event_syntax.specs.Embedding.{embedded_event, with_part, with_parts, embedded_in}
use Rattle.event_syntax.specs.Walking.{holds_events}
use Rattle.event_syntax.specs.Requested.{requested, requested_in, requested_of, takes_memory, embedded_event_text, embedded_text, requested_entry_text, requested_text, are_writable_requested}

unfoldable pub on_examples : ⊤
unfolding event_examples is_part is_called is_action is_requested are_requested_within are_requested word_of said_of rule_of embedded_event with_part with_parts embedded_in requested requested_in requested_of holds_events takes_memory embedded_event_text embedded_text requested_entry_text requested_text are_writable_requested
on_examples = tt
