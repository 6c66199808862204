-- The definitions opened, so that worked examples compute.
use Rattle.std.specs.Prelude.{⊤}
use Rattle.mg_bytes.proofs.Computing.{on_examples as byte_examples}
use Rattle.std.specs.Net.Addr.{ipv4_bits}
use Rattle.message_counts.specs.Reporting.{answers_from, datagrams_text, lost_text, others_text, own_text, texts_text, verbs_text}

unfoldable pub on_examples : ⊤
unfolding byte_examples ipv4_bits answers_from datagrams_text lost_text others_text own_text texts_text verbs_text
on_examples = tt
