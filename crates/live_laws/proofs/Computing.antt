-- The definitions opened, so that worked examples compute.
use Rattle.std.specs.Prelude.{⊤}
use Rattle.telephone_control.proofs.Computing.{on_examples as telephone_examples}
use Rattle.mg_bytes.proofs.Computing.{on_examples as byte_examples}
use Rattle.call_processing.specs.ReturnCodes.{row_in}
use Rattle.call_processing.specs.Fates.{may_pass}
use Rattle.call_processing.specs.Calls.{cut_off, picked_up, put_through, reached, dialled, timed_out, heard, failed, found}
use Rattle.call_processing.specs.Line.{sent, landed, cleared}
use Rattle.call_processing.specs.Next.{next_of}
use Rattle.call_processing.specs.Exchange.{changed, told, answered, cleared_at, due, sent_to}
use Rattle.live_laws.specs.CallTurns.{after, count_turns, commands_in}

unfoldable pub on_examples : ⊤
unfolding telephone_examples byte_examples row_in may_pass cut_off picked_up put_through reached dialled timed_out heard failed found sent landed cleared next_of changed told answered cleared_at due sent_to after count_turns commands_in
on_examples = tt
