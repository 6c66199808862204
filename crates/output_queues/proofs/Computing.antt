-- The definitions opened, so that worked examples compute.
use Rattle.std.specs.Prelude.{⊤}
use Rattle.log_format.proofs.Computing.{on_examples as log_examples}
use Rattle.output_queues.specs.Backlog.{offered, offered_all, kept_of, lines_of_all}
use Rattle.output_queues.specs.Written.{name_text, written_line}

unfoldable pub on_examples : ⊤
unfolding log_examples offered offered_all kept_of lines_of_all name_text written_line
on_examples = tt
