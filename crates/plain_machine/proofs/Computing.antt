-- The definitions opened, so that worked examples compute.
use Rattle.std.specs.Prelude.{⊤}
use Rattle.mgcp_text.proofs.Computing.{on_examples as text_examples}
use Rattle.endpoint_names.proofs.Computing.{on_examples as name_examples}
use Rattle.transmission.proofs.HistoryComputing.{on_examples as history_examples}
use Rattle.mgcp_text.proofs.PiggybackComputing.{on_examples as part_examples}
use Rattle.command_forms.proofs.Computing.{on_examples as form_examples}
use Rattle.mg_line.proofs.Computing.{on_examples as line_examples}
use Rattle.retransmission.proofs.Computing.{on_examples as flight_examples}
use Rattle.plain_machine.specs.Setup.{table_from, parts_of, setup_from, setup_of, key_at_fault}
use Rattle.transmission.specs.Texts.{texts_of}
use Rattle.plain_machine.specs.Arriving.{arrivals_from}
use Rattle.transmission.specs.Packing.{packed_after}
use Rattle.audits.proofs.Computing.{on_examples as audit_examples}
use Rattle.plain_machine.specs.Announcing.{announcement, announced, replied, replied_on}
use Rattle.plain_machine.specs.Reporting.{names_of}
use Rattle.plain_machine.specs.Notifying.{notification, noted}
use Rattle.plain_machine.specs.Connecting.{connected}
use Rattle.plain_machine.specs.Requesting.{refused_by, deed_on, shown_of, line_with_place}
use Rattle.plain_machine.specs.Commanding.{audited}
use Rattle.plain_machine.specs.Machine.{on_line, on_lines}
use Rattle.plain_machine.specs.Falling.{post_due, due_on, first_due, due_by, happened_on, happened_under, passed, pass}
use Rattle.plain_machine.specs.GivingUp.{given_up_of, given_up_until, given_up_with}
use Rattle.plain_machine.specs.Responding.{responded_on, redirected_on, opened_on}
use Rattle.plain_machine.specs.Answering.{executed, handled, took_all}
use Rattle.plain_machine.specs.Happening.{effect}
use Rattle.plain_machine.specs.Refusing.{refusal_of}
use Rattle.plain_machine.specs.Transactions.{commands_in, commands_from}
use Rattle.plain_machine.specs.Lists.{machine_after, sent_from, outputs_from, are_taken}

unfoldable pub on_examples : ⊤
unfolding text_examples name_examples history_examples part_examples form_examples line_examples flight_examples table_from parts_of setup_from setup_of key_at_fault packed_after texts_of arrivals_from audit_examples announcement announced replied names_of notification noted connected refused_by deed_on shown_of line_with_place audited on_line on_lines post_due due_on first_due due_by happened_on happened_under passed pass given_up_of given_up_until given_up_with responded_on replied_on redirected_on opened_on executed handled took_all effect refusal_of machine_after sent_from outputs_from are_taken commands_in commands_from
on_examples = tt
