-- What the worked examples of what is told to who watches and shown to the page, and of what is left of records, want shown.
use Rattle.std.proofs.Common.{◌≡◌, ◌⊎◌, inl, inr, ℕ, List, [], ◌∷◌, ◌++◌, Option, None, Some, ◌∙◌, refl, ap}
use Rattle.std.specs.Prelude.{codes}
use Rattle.std.specs.Global.{Box}
use Rattle.log_format.specs.File.{file_head}
use Rattle.gateway_core.specs.GatewayState.{GatewayState}
use Rattle.message_counts.specs.declared.reporting.Faults.{Faults}
use Rattle.output_queues.specs.declared.record.Record.{Record}
use Rattle.output_queues.specs.declared.record.RecordState.TheVariants.{On}
use Rattle.live_journal.specs.Capturing.{BeginsFile}
use Rattle.live_journal.specs.Writing.{KeepsCapture}
use Rattle.live_journal.specs.declared.capture.Capture.{Capture}
use Rattle.live_journal.specs.declared.journal.Journal.{Journal}
use Rattle.telephone_control.specs.Paging.{ShowsPage}
use Rattle.telephone_control.specs.Picturing.{capture_written, files_written}

pub shows_and_counts_nothing : (gateway : GatewayState) (faults : Faults) (was is : Journal) → ShowsPage gateway faults 3 was is
    → is.tally ≡ was.tally
shows_and_counts_nothing gateway faults was is (inl same) = ap (λ (j : Journal). j.tally) same
shows_and_counts_nothing gateway faults was is (inr shows) = shows.0.0

pub no_capture_written : (journal : Journal) → journal.capture.value.name ≡ []
    → files_written journal ≡ (codes "standard output", journal.written.output) ∷ (codes "standard error", journal.written.error) ∷ []
no_capture_written journal none =
    ap (λ (name : List ℕ). (codes "standard output", journal.written.output) ∷ (codes "standard error", journal.written.error)
    ∷ capture_written name journal.written.capture) none

pub keeps_all : (was is : Capture) → KeepsCapture {F = ℕ} None was is → is ≡ was
keeps_all was is keeps = keeps.1 ∙ ap (λ (r : Record). record was { «record» = r }) keeps.0

pub begins_with_its_head : (are : List ℕ) → BeginsFile On (codes "a") On are → are ≡ file_head ++ codes "a"
begins_with_its_head are (inl begins) = begins.1
begins_with_its_head are (inr refused) = absurd cc
