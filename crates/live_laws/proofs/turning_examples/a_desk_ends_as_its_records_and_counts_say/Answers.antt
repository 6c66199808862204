use Rattle.std.proofs.Common.{◌≡◌, ℕ, List, []}
use Rattle.output_queues.specs.declared.written.Written.{Written}
use Rattle.live_laws.proofs.TurnExampleLemmas.{refused_ends, counts_end}
use Rattle.live_laws.proofs.turning_examples.a_desk_ends_as_its_records_and_counts_say.Goals as goal

pub returns-clause-refused : goal.returns-clause-refused
returns-clause-refused c = λ desk ending refused ends.
    refused_ends (λ (words : List ℕ) (before : ℕ) (written : Written) (after : ℕ). words ≡ []) desk 0 0 ending refused ends

pub returns-clause-counted : goal.returns-clause-counted
returns-clause-counted c = λ last desk ending ends. counts_end {W = ℕ} last desk 0 0 ending ends
