-- The definitions opened, so that worked examples compute.
use Rattle.std.specs.Prelude.{⊤}
use Rattle.mg_bytes.proofs.Computing.{on_examples as byte_examples}
use Rattle.log_format.specs.Escaping.{shown}
use Rattle.mgcp_text.proofs.Computing.{on_examples as message_examples}
use Rattle.agent_log.specs.Counts.{calls_text, messages_text, losses_text}
use Rattle.agent_log.specs.Telling.{line_of_pieces, call_line, line_line}
use Rattle.agent_log.specs.Refusals.{refusal_line}

unfoldable pub on_examples : ⊤
unfolding byte_examples message_examples shown calls_text messages_text losses_text line_of_pieces call_line line_line refusal_line
on_examples = tt
