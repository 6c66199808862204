-- The definitions opened, so that worked examples compute.
use Rattle.std.specs.Prelude.{⊤}
use Rattle.plain_machine.proofs.Computing.{on_examples as machine_examples}
use Rattle.gateway_core.specs.Outcomes.{text_outcome, text_outcomes, outcomes_of, outcomes_after}
use Rattle.gateway_core.specs.Accounts.{account_after}
use Rattle.gateway_core.specs.Outgoing.{count_within, texts_within}

unfoldable pub on_examples : ⊤
unfolding machine_examples text_outcome text_outcomes outcomes_of outcomes_after account_after count_within texts_within
on_examples = tt
