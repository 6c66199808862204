-- The definitions opened, so that worked examples compute.
use Rattle.std.specs.Prelude.{⊤}
use Rattle.page_state.specs.Keeping.{latest_said}
use Rattle.message_counts.proofs.Computing.{on_examples as count_examples}
use Rattle.mgcp_text.proofs.PiggybackComputing.{on_examples as part_examples}
use Rattle.transmission.specs.Texts.{texts_of}
use Rattle.gateway_core.specs.Outgoing.{texts_within}
use Rattle.told_messages.specs.Coming.{waited_for, came_text, texts_came, datagram_came, given_up_text}
use Rattle.told_messages.specs.Explaining.{reason_text}
use Rattle.told_messages.specs.Sending.{sent_text, datagram_text, last_with, last_behind}

unfoldable pub log_examples : ⊤
unfolding sent_text datagram_text texts_within last_with last_behind waited_for came_text texts_came datagram_came given_up_text
log_examples = tt

unfoldable pub on_examples : ⊤
unfolding count_examples part_examples log_examples latest_said texts_of reason_text
on_examples = tt
