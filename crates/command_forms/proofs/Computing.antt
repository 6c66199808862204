-- The definitions opened, so that worked examples compute.
use Rattle.std.specs.Prelude.{⊤}
use Rattle.mgcp_text.proofs.Computing.{on_examples as text_examples}
use Rattle.connections.proofs.Computing.{on_examples as connection_examples}
use Rattle.endpoint_names.proofs.Computing.{on_examples as name_examples}
use Rattle.event_syntax.proofs.Computing.{on_examples as syntax_examples}
use Rattle.event_syntax.proofs.RequestComputing.{on_examples as request_examples}
use Rattle.command_forms.specs.Params.{params_fault}
use Rattle.command_forms.specs.Meaning.{meant}
use Rattle.command_forms.specs.Deeds.{events_of, request_of, creation_of, modification_of, deletion_of, deed_of}
use Rattle.command_forms.specs.Order.{absent_letter, asked, judged_while, form_while}
use Rattle.command_forms.specs.Explaining.{explanation_of}

unfoldable pub on_examples : ⊤
unfolding text_examples name_examples connection_examples syntax_examples request_examples params_fault meant events_of request_of creation_of modification_of deletion_of deed_of absent_letter asked judged_while form_while explanation_of
on_examples = tt
