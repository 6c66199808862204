-- The definitions opened, so that worked examples compute.
use Rattle.std.specs.Prelude.{⊤}
use Rattle.mgcp_text.proofs.Computing.{on_examples as text_examples}
use Rattle.call_processing.specs.ReturnCodes.{row_in}
use Rattle.call_processing.specs.Fates.{may_pass}
use Rattle.call_processing.specs.Calls.{found}
use Rattle.call_processing.specs.Line.{sent}
use Rattle.call_processing.specs.Next.{next_of}
use Rattle.call_processing.specs.Exchange.{changed, due, sent_to}
use Rattle.line_control.specs.Hooks.{hook_among}

unfoldable pub on_examples : ⊤
unfolding text_examples row_in may_pass found sent next_of changed due sent_to hook_among
on_examples = tt
